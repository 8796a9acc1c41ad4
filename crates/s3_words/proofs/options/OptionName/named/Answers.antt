use Rattle.std.proofs.Common.{◌≡◌, ◌∙◌, ap, sym, List, ℕ}
use Rattle.std.specs.Option.{option_or}
use Rattle.std.specs.Str.{bytes_eq}
use Rattle.std.proofs.lemmas.List.Folds.{find-append}
use Rattle.s3_words.specs.Options.{common_options, named_in, option_named, row_of, special_options}
use Rattle.s3_words.proofs.options.OptionName.named.Goals as goal

-- what is found among all is what is found among the common ones, and else among the others
either : (name : List ℕ) → option_named name ≡ option_or (named_in common_options name) (named_in special_options name)
either name = find-append (λ option. bytes_eq name (row_of option).name) common_options special_options

pub returns-in-Some : goal.returns-in-Some
returns-in-Some c =
    let name = c.args.name.now in
    sym (either name ∙ ap (λ option. option_or option (named_in special_options name)) (sym c.in-Some.ensures))

pub returns-in-None : goal.returns-in-None
returns-in-None c =
    let name = c.args.name.now in
    c.special_option.ensures ∙ sym (either name ∙ ap (λ option. option_or option (named_in special_options name)) (sym c.in-None.ensures))
