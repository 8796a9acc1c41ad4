use Rattle.std.proofs.Common.{◌∙◌, ℕ, List, ap, length, subst, sym}
use Rattle.std.specs.List.{AllPass}
use Rattle.s3_model.specs.TempNames.{is_lower_hex}
use Rattle.s3_outside.proofs.TempLemmas.{if_ok}
use Rattle.s3_outside.proofs.TempLemmas.{below_folder, without_folder}
use Rattle.s3_outside.proofs.temp_paths.temp_path.Goals as goal

pub returns-in-Some : goal.returns-in-Some
returns-in-Some c =
    if_ok c.joined.result (λ text is.
    below_folder c.stem_of.result.now c.as_str.result.now (ap (λ (bytes : List ℕ). length bytes) c.as_str.ensures ∙ c.in_ok-digits.ensures.eight)
    (subst (λ (bytes : List ℕ). AllPass is_lower_hex bytes) (sym c.as_str.ensures) c.in_ok-digits.ensures.hex)
    c.args.dest.now c.in-Some.front.now c.in-Some.name.now text c.in-Some.ensures.cases c.stem_of.ensures is) c.joined.ensures

pub returns : goal.returns
returns c =
    if_ok c.joined-in-None.result (λ text is.
    without_folder c.stem_of-in-None.result.now c.as_str-in-None.result.now (ap (λ (bytes : List ℕ). length bytes) c.as_str-in-None.ensures ∙ c.in_ok-digits.ensures.eight)
    (subst (λ (bytes : List ℕ). AllPass is_lower_hex bytes) (sym c.as_str-in-None.ensures) c.in_ok-digits.ensures.hex)
    c.args.dest.now text c.in-None.ensures.cases c.stem_of-in-None.ensures is) c.joined-in-None.ensures
