use Rattle.std.proofs.Common.{◌≡◌, ◌++◌, map, take, drop}
use Rattle.held_parts.specs.Held.{IsSamePool, stopped}
use Rattle.held_parts.proofs.held.HeldParts.stop.Given as goal

abbrev pub invariant-loop-place : goal.invariant-loop-place
invariant-loop-place l =
    (l.self.slots ≡ map (stopped l.task) (take l.place l.initial.self.slots) ++ drop l.place l.initial.self.slots)
    × IsSamePool l.initial.self.pool l.self.pool
