use Rattle.std.proofs.Common.{◌≡◌, drop}
use Rattle.s3_words.specs.Given.{is_given}
use Rattle.s3_words.specs.Shown.{all_shown}
use Rattle.s3_words.proofs.given.is_given.Given as goal

abbrev pub invariant-loop-role : goal.invariant-loop-role
invariant-loop-role l = is_given l.option (all_shown l.roles) ≡ is_given l.option (all_shown (drop l.role-index l.roles))
