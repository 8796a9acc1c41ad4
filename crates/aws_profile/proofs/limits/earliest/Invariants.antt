use Rattle.std.proofs.Common.{◌≡◌, None, fold, map, option_map, take}
use Rattle.aws_profile.specs.Answers.{earlier}
use Rattle.aws_profile.specs.ShownLimits.{misread_in, misread_shown}
use Rattle.aws_profile.proofs.limits.earliest.Given as goal

abbrev pub invariant-loop-limit : goal.invariant-loop-limit
invariant-loop-limit l = option_map misread_shown l.first ≡ fold earlier None (map misread_in (take l.limit-index l.limits))
