use Rattle.std.proofs.Common.{◌≡◌, take}
use Rattle.std.specs.Option.{option_copied}
use Rattle.s3_words.specs.Given.{value_of}
use Rattle.s3_words.specs.Shown.{all_shown}
use Rattle.s3_words.proofs.given.value_of.Given as goal

abbrev pub invariant-loop-role : goal.invariant-loop-role
invariant-loop-role l = option_copied l.value ≡ value_of l.option (all_shown (take l.role-index l.roles))
