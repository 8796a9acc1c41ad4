use Rattle.std.proofs.Common.{◌≡◌, ◌∙◌, Option, sym, subst, ap}
use Rattle.manager_moves.specs.declared.moves.Move.TheVariants as move
use Rattle.move_laws.specs.Calls.{IsLent}
use Rattle.manager_core.proofs.LentRuns.{filled_runs}
use Rattle.manager_core.proofs.RunLemmas.{with}
use Rattle.manager_core.specs.declared.due.Due.{Due}
use Rattle.manager_core.specs.declared.due.Due.TheVariants as due
use Rattle.manager_core.specs.Kept.{SeenManager}
use Rattle.manager_core.specs.Running.{IsRunning}
use Rattle.manager_core.proofs.CellLemmas.{cells_same}
use Rattle.std.specs.Option.{option_map}
use Rattle.held_parts.specs.Held.{here_at, with_more}
use Rattle.manager_core.specs.Answers.{read_at}
use Rattle.move_laws.specs.Bytes.{KeepsBytes, only_at}
use Rattle.s3_model.specs.declared.bytes.Part.{Part}
use Rattle.manager_core.proofs.manager.Manager.fill.Goals as goal

pub returns-clause-running : goal.returns-clause-running
returns-clause-running c start s events running =
    let now = c.args.self.now in
    let new = c.fill.new.self in
    let task = c.due_read-task.result.0 in
    let number = c.due_read-task.result.1 in
    let is : now.due ≡ due.Next (move.Read task number) =
    ap (λ (x : SeenManager). x.due) (sym c.self.view_is) ∙ c.due_read-task.ensures in
    subst (λ (x : SeenManager). IsRunning start s events (with x new x.steps x.journal x.due)) (sym c.self.view_is)
    (subst (λ (d : Due). IsRunning start s events (with now new now.steps now.journal d)) (sym is)
    (filled_runs start s events now running task number is new
    (λ before lent. c.fill.ensures.lent before
    (subst (λ (x : SeenManager). IsLent task number before x.moves) (sym c.self.view_is) lent))))

pub returns-clause-cells : goal.returns-clause-cells
returns-clause-cells c = cells_same c.args.self.now.steps _ (ap (λ (x : SeenManager). x.steps) c.self.view_is)

pub returns-clause-bytes : goal.returns-clause-bytes
returns-clause-bytes c =
    let now = c.args.self.now in
    let new = c.fill.new.self.parts.slots in
    let task = c.due_read-task.result.0 in
    let number = c.due_read-task.result.1 in
    let is : now.due ≡ due.Next (move.Read task number) =
    ap (λ (x : SeenManager). x.due) (sym c.self.view_is) ∙ c.due_read-task.ensures in
    subst (λ (x : SeenManager). KeepsBytes (read_at new x.due) now.moves.parts.slots new) (sym c.self.view_is)
    (subst (λ (d : Due). KeepsBytes (read_at new d) now.moves.parts.slots new) (sym is)
    (subst (λ (o : Option Part). KeepsBytes (only_at task number o) now.moves.parts.slots new)
    (sym c.fill.ensures.grown)
    (subst (λ (x : SeenManager). KeepsBytes (only_at task number (option_map (with_more c.args.piece.now)
    (here_at c.self.inside.moves.parts.slots task number))) x.moves.parts.slots new) c.self.view_is
    c.fill.ensures.bytes)))
