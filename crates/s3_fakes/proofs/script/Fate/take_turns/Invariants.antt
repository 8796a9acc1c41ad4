use Rattle.std.proofs.Common.{◌≡◌, take}
use Rattle.std.specs.List.{fold}
use Rattle.s3_fakes.specs.Fates.{by_turn}
use Rattle.s3_fakes.proofs.script.Fate.take_turns.Given as goal

abbrev pub invariant-loop-turn : goal.invariant-loop-turn
invariant-loop-turn l = l.self ≡ fold by_turn l.initial.self (take l.turn-index l.turns)
