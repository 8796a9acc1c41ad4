use Rattle.std.proofs.Common.{ℕ, List, subst, sym}
use Rattle.std.specs.List.{AllPass}
use Rattle.s3_model.specs.TempNames.{is_lower_hex}
use Rattle.s3_outside.proofs.TempLemmas.{if_ok}
use Rattle.s3_outside.proofs.TempLemmas.{hex_all}
use Rattle.s3_outside.proofs.temp_paths.hex_text.Goals as goal

pub returns-clause-hex : goal.returns-clause-hex
returns-clause-hex c =
    if_ok c.joined.result (λ text is. subst (λ (bytes : List ℕ). AllPass is_lower_hex bytes) (sym is)
    (hex_all c.hex_digit.result.now c.hex_digit-2.result.now c.hex_digit-3.result.now c.hex_digit-4.result.now c.hex_digit-5.result.now c.hex_digit-6.result.now c.hex_digit-7.result.now c.hex_digit-8.result.now
    c.hex_digit.ensures.hex c.hex_digit-2.ensures.hex c.hex_digit-3.ensures.hex c.hex_digit-4.ensures.hex c.hex_digit-5.ensures.hex c.hex_digit-6.ensures.hex c.hex_digit-7.ensures.hex c.hex_digit-8.ensures.hex)) c.joined.ensures
