use Rattle.std.proofs.Common.{◌≡◌, ◌∙◌, ℕ, sym, subst, ap}
use Rattle.step_jobs.specs.Formed.{range_at}
use Rattle.step_jobs.specs.Requests.{BeginsWithin}
use Rattle.task_acts.specs.Work.{IsWorkOf}
use Rattle.task_acts.specs.declared.work.Work.{Work}
use Rattle.task_works.specs.Works.{IsWithinObject}
use Rattle.manager_core.proofs.ShownRuns.{begins, in_plan, its_size, range_else, same_work}
use Rattle.manager_core.specs.Kept.{SeenManager}
use Rattle.manager_core.specs.Shown.{range_in}
use Rattle.manager_core.proofs.manager.Manager.range.Goals as goal

pub task-task-requires : goal.task-task-requires
task-task-requires c =
    let r = c.requires.its in in_plan r.start r.s r.events c.args.self.now r.running c.args.task r.work r.there

pub work_of-requires-clause-within : goal.work_of-requires-clause-within
work_of-requires-clause-within c =
    let r = c.requires.its in
    subst (λ (x : SeenManager). IsWithinObject c.task-task.result.now x.limits) (sym c.self.view_is)
    (begins r.start r.s r.events c.args.self.now r.running c.args.task r.work r.there c.task-task.result.now
    c.task-task.ensures).within

pub range_of-requires : goal.range_of-requires
range_of-requires c =
    let r = c.requires.its in
    let of_task = c.task-task.result.now in
    let work = subst (λ (x : SeenManager). IsWorkOf of_task x.config x.limits c.work_of.result) c.self.view_is
    c.work_of.ensures.work in
    subst (λ (v : Work). BeginsWithin v c.args.number)
    (sym (same_work r.start r.s r.events c.args.self.now r.running c.args.task r.work r.there of_task
    c.task-task.ensures c.work_of.result work)) c.requires.begins

pub returns-then-number-eq0 : goal.returns-then-number-eq0
returns-then-number-eq0 c start s events w running there =
    let of_task = c.task-task.result.now in
    subst (λ (n : ℕ). (0, of_task.size) ≡ range_in w n) (sym c.if-number-eq0.true)
    (ap (λ (size : ℕ). (0, size)) (sym (its_size start s events c.args.self.now running c.args.task w there of_task
    c.task-task.ensures)))

pub returns-else-number-eq0 : goal.returns-else-number-eq0
returns-else-number-eq0 c start s events w running there =
    let of_task = c.task-task.result.now in
    let work = subst (λ (x : SeenManager). IsWorkOf of_task x.config x.limits c.work_of.result) c.self.view_is
    c.work_of.ensures.work in
    c.range_of.ensures
    ∙ ap (λ (v : Work). range_at v c.args.number)
    (same_work start s events c.args.self.now running c.args.task w there of_task c.task-task.ensures c.work_of.result
    work)
    ∙ range_else w c.args.number c.if-number-eq0.false
