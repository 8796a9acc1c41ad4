use Rattle.std.proofs.Common.{◌∙◌, ◌≤◌, ◌++◌, [], ◌∷◌, sym, subst, ap}
use Rattle.manager_moves.specs.Runs.{Sent}
use Rattle.s3_model.specs.declared.outcomes.Event.TheVariants as entry
use Rattle.s3_model.specs.declared.outcomes.JobId.{JobId}
use Rattle.manager_core.proofs.GivenRuns.{gave_room, gave_runs, job_in}
use Rattle.manager_core.proofs.RunLemmas.{with}
use Rattle.manager_core.specs.declared.due.Due.TheVariants as due
use Rattle.manager_core.specs.Kept.{SeenManager}
use Rattle.manager_core.specs.Running.{IsRunning}
use Rattle.manager_core.proofs.CellLemmas.{cells_same}
use Rattle.manager_core.proofs.manager.Manager.gave.Goals as goal

pub push-requires : goal.push-requires
push-requires c =
    let r = c.requires in
    subst (λ (x : SeenManager). 1 ≤ x.journal.spare) (sym c.self.view_is)
    (gave_room r.start r.s r.events c.args.self.now r.running r.task r.of_op r.number c.args.lane r.is)

pub returns-clause-running : goal.returns-clause-running
returns-clause-running c start s events task number of_op running is =
    let now = c.args.self.now in
    let due_is = sym c.in-Job.is ∙ ap (λ (x : SeenManager). x.due) c.self.view_is ∙ is in
    let job_is = c.id_of-job.ensures ∙ ap job_in due_is in
    subst (λ (x : SeenManager). IsRunning start s (Sent task of_op number c.args.lane ∷ events)
    (with x x.moves x.steps c.push.new.self due.Free)) (sym c.self.view_is)
    (gave_runs start s events now running task of_op number c.args.lane is c.push.new.self
    (c.push.ensures.items
    ∙ ap (λ (x : SeenManager). x.journal.items ++ entry.Given c.id_of-job.result c.args.lane ∷ []) c.self.view_is
    ∙ ap (λ (j : JobId). now.journal.items ++ entry.Given j c.args.lane ∷ []) job_is)
    (c.push.ensures.spare ∙ ap (λ (x : SeenManager). x.journal.spare) c.self.view_is))

pub returns-clause-cells : goal.returns-clause-cells
returns-clause-cells c = cells_same c.args.self.now.steps _ (ap (λ (x : SeenManager). x.steps) c.self.view_is)
