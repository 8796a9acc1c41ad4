use Rattle.std.proofs.Common.{◌≡◌, ◌∷◌}
use Rattle.manager_moves.specs.Runs.{Events, Shared, Stopped}
use Rattle.move_laws.specs.Admits.{IsRunOf}
use Rattle.move_laws.specs.Bytes.{KeepsBytes, no_part}
use Rattle.move_laws.specs.Cancelling.{AreTold, HaveHeard}
use Rattle.move_laws.specs.Follows.{Follows}
use Rattle.move_laws.specs.Steady.{IsSteady}
use Rattle.move_core.proofs.move_core.MoveCore.cancel_all.Given as goal

abbrev pub invariant-loop-task : goal.invariant-loop-task
invariant-loop-task l = record {
  made : l.self.made ≡ l.initial.self.made;
  told : AreTold l.reason l.task l.self;
  heard : (s : Shared) (events : Events) → IsRunOf s (Stopped l.reason ∷ events) → Follows s events l.fn.self
      → HaveHeard s events l.reason l.task l.self;
  bytes : KeepsBytes no_part l.fn.self.parts.slots l.self.parts.slots;
  steady : IsSteady l.fn.self l.self;
}
