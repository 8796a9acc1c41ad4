use Rattle.std.proofs.Common.{get_or, take}
use Rattle.s3_words.specs.declared.roles.Role.TheVariants.{Separator}
use Rattle.s3_words.specs.Shown.{all_shown, shown}
use Rattle.s3_words.proofs.GivenLemmas.{AreFilters-after, shown_more}
use Rattle.s3_words.proofs.given.filters_of.Goals as goal

pub loop-role-preserved : goal.loop-role-preserved
loop-role-preserved c =
    let words = c.args.roles.now in
    let at = c.loop-role.role-index in
    rw (shown_more words at Separator c.loop-role-test.true)
    (AreFilters-after (all_shown (take at words)) (shown (get_or words at Separator)) c.loop-role.filters c.push_given.new.filters c.loop-role.invariant c.in_ok-push_given.ensures)
