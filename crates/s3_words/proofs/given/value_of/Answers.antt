use Rattle.std.proofs.Common.{◌∙◌, get_or, take, ap, sym}
use Rattle.std.specs.Option.{option_copied, option_or}
use Rattle.s3_words.specs.declared.roles.Role.TheVariants.{Separator}
use Rattle.s3_words.specs.Given.{value_of, value_in}
use Rattle.s3_words.specs.Shown.{all_shown, shown}
use Rattle.s3_words.proofs.GivenLemmas.{copied_or, shown_more, value_of_more}
use Rattle.s3_words.proofs.given.value_of.Goals as goal

pub loop-role-preserved : goal.loop-role-preserved
loop-role-preserved c =
    let option = c.args.option in
    let words = c.args.roles.now in
    let at = c.loop-role.role-index in
    let word = shown (get_or words at Separator) in
    let before = all_shown (take at words) in
    ap option_copied c.or-value.ensures ∙ copied_or c.value_of.result c.loop-role.value
    ∙ ap (λ value. option_or value (option_copied c.loop-role.value)) c.value_of.ensures
    ∙ ap (option_or (value_in option word)) c.loop-role.invariant
    ∙ sym (value_of_more option before word) ∙ ap (value_of option) (sym (shown_more words at Separator c.loop-role-test.true))
