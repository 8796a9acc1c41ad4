use Rattle.std.proofs.Common.{◌∙◌, ◌+◌, ◌||◌, drop, ap, sym}
use Rattle.s3_words.specs.declared.roles.Role.TheVariants.{Separator}
use Rattle.s3_words.specs.Given.{is_given}
use Rattle.s3_words.specs.Shown.{all_shown}
use Rattle.s3_words.proofs.GivenLemmas.{shown_left}
use Rattle.s3_words.proofs.given.is_given.Goals as goal

pub loop-role-preserved : goal.loop-role-preserved
loop-role-preserved c =
    let words = c.args.roles.now in
    let at = c.loop-role.role-index in
    let rest = is_given c.args.option (all_shown (drop (at + 1) words)) in
    c.loop-role.invariant ∙ ap (is_given c.args.option) (shown_left words at Separator c.loop-role-test.true) ∙ ap (λ given. given || rest) (sym c.is_option.ensures ∙ c.if-is_option.false)
