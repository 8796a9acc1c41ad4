use Rattle.std.proofs.Common.{◌≡◌, ◌∙◌, ◌<◌, ◌∷◌, length, sym, subst, ap}
use Rattle.manager_moves.proofs.PartLaws.{same_value}
use Rattle.manager_moves.specs.Runs.{Called}
use Rattle.move_laws.specs.Admits.{Admits, GoesOn}
use Rattle.move_laws.specs.Calls.{IsLentFor}
use Rattle.move_laws.specs.Kept.{SeenMoves}
use Rattle.move_laws.specs.Steady.{IsSteady}
use Rattle.run_steps.specs.Steps.{settled_steps}
use Rattle.task_acts.specs.Kept.{MayCome}
use Rattle.manager_core.proofs.HappenedRuns.{call_begun, call_run, call_within, called_runs}
use Rattle.manager_core.proofs.RunLemmas.{with}
use Rattle.manager_core.specs.declared.due.Call.{Call}
use Rattle.manager_core.specs.declared.due.Due.TheVariants as due
use Rattle.manager_core.specs.Due.{call_due}
use Rattle.manager_core.specs.Kept.{SeenManager}
use Rattle.manager_core.specs.Running.{IsRunning}
use Rattle.manager_core.proofs.CellLemmas.{cells_settle}
use Rattle.move_laws.specs.Bytes.{KeepsBytes, no_part}
use Rattle.manager_core.proofs.manager.Manager.file_came.Goals as goal

pub called-requires : goal.called-requires
called-requires c =
    let r = c.requires in
    let now = c.args.self.now in
    let its : c.due_call-task.result ≡ r.call =
    same_value (sym c.due_call-task.ensures ∙ ap (λ (x : SeenManager). call_due x.due) c.self.view_is ∙ r.is) in
    let begun = call_begun r.start r.s r.events now r.running r.call r.is c.args.came r.may in
    subst (λ (x : Call). (m : SeenMoves) × IsLentFor x.task x.act m c.self.inside.moves
    × Admits (Called x.task x.act c.args.came) m) (sym its) (
      begun.0,
      subst (λ (y : SeenManager). IsLentFor r.call.task r.call.act begun.0 y.moves) (sym c.self.view_is) begun.1,
      record {
        s = r.s;
        events = r.events;
        run = call_run r.start r.s r.events now r.running r.call r.is c.args.came r.may;
        follows = begun.2;
      },
    )

pub settle-requires : goal.settle-requires
settle-requires c =
    let r = c.requires in
    let its : c.due_call-task.result ≡ r.call =
    same_value (sym c.due_call-task.ensures ∙ ap (λ (x : SeenManager). call_due x.due) c.self.view_is ∙ r.is) in
    subst (λ (x : Call). x.task < length c.self.inside.steps.items) (sym its)
    (subst (λ (y : SeenManager). r.call.task < length y.steps) (sym c.self.view_is)
    (call_within r.start r.s r.events c.args.self.now r.running r.call r.is c.args.came r.may))

pub returns-clause-running : goal.returns-clause-running
returns-clause-running c start s events call running is =
    let r = c.requires in
    let now = c.args.self.now in
    let new = c.called.new.self in
    let seen = sym c.due_call-task.ensures ∙ ap (λ (x : SeenManager). call_due x.due) c.self.view_is in
    let first : c.due_call-task.result ≡ r.call = same_value (seen ∙ r.is) in
    let its : c.due_call-task.result ≡ call = same_value (seen ∙ is) in
    let may = subst (λ (x : Call). MayCome x.act c.args.came) (sym first ∙ its) r.may in
    let begun = call_begun start s events now running call is c.args.came may in
    let goes = subst (λ (x : Call). (m : SeenMoves) → IsLentFor x.task x.act m c.self.inside.moves
    → GoesOn (Called x.task x.act c.args.came) m new) its c.called.ensures.goes_on in
    let follows = goes begun.0
    (subst (λ (y : SeenManager). IsLentFor call.task call.act begun.0 y.moves) (sym c.self.view_is) begun.1) s events
    (call_run start s events now running call is c.args.came may) begun.2 in
    let steady = subst (λ (y : SeenManager). IsSteady y.moves new) c.self.view_is c.called.ensures.steady in
    let after = Called call.task call.act c.args.came ∷ events in
    subst (λ (z : SeenManager). IsRunning start s after z) (sym c.settle.ensures)
    (subst (λ (y : SeenManager). IsRunning start s after
    (with y new (settled_steps c.due_call-task.result.task new.outcomes y.steps) y.journal due.Free))
    (sym c.self.view_is)
    (subst (λ (x : Call). IsRunning start s after
    (with now new (settled_steps x.task new.outcomes now.steps) now.journal due.Free)) (sym its)
    (called_runs start s events now running call is c.args.came may new follows steady)))

pub returns-clause-cells : goal.returns-clause-cells
returns-clause-cells c =
    let task = c.due_call-task.result.task in
    let outcomes = c.called.new.self.outcomes in
    cells_settle c.args.self.now.steps _ task outcomes
    (ap (λ (x : SeenManager). x.steps) c.settle.ensures
    ∙ ap (λ (x : SeenManager). settled_steps task outcomes x.steps) c.self.view_is)

pub returns-clause-bytes : goal.returns-clause-bytes
returns-clause-bytes c =
    subst (λ (x : SeenManager). KeepsBytes no_part c.args.self.now.moves.parts.slots x.moves.parts.slots)
    (sym c.settle.ensures)
    (subst (λ (x : SeenManager). KeepsBytes no_part x.moves.parts.slots c.called.new.self.parts.slots) c.self.view_is
    c.called.ensures.bytes)
