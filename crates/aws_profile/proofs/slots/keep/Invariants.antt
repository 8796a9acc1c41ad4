use Rattle.std.proofs.Common.{◌≡◌, ◌++◌, map, take, drop}
use Rattle.aws_profile.specs.Slots.{put}
use Rattle.aws_profile.proofs.slots.keep.Given as goal

abbrev pub invariant-loop-slot : goal.invariant-loop-slot
invariant-loop-slot l = l.slots ≡ map (put l.place l.line l.setting) (take l.slot-index l.fn.slots) ++ drop l.slot-index l.fn.slots
