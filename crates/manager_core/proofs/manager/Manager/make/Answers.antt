use Rattle.std.proofs.Common.{◌∙◌, ℕ, List, None, replicate, sym, subst, ap, arith}
use Rattle.std.specs.Prelude.{All}
use Rattle.move_core.specs.Means.{IsSharedBy}
use Rattle.move_core.specs.declared.move_core.Means.{Means}
use Rattle.run_needs.specs.Needs.{AreNeedsOf, CanBegin}
use Rattle.s3_model.specs.declared.tasks.Task.{Task}
use Rattle.manager_core.proofs.PlanTasks.{tasks_begin}
use Rattle.manager_core.proofs.StartRuns.{shared, shared_by, shared_is, starts}
use Rattle.manager_core.proofs.manager.Manager.make.Goals as goal

pub needs_of-entries-requires-clause-tasks : goal.needs_of-entries-requires-clause-tasks
needs_of-entries-requires-clause-tasks c =
    subst (λ (xs : List Task). All (CanBegin c.args.limits.now) xs) (sym c.as_slice.ensures)
    (tasks_begin c.args.limits.now c.args.plan.tasks.items c.requires.plan)

pub returns-in-Ok-clause-running : goal.returns-in-Ok-clause-running
returns-in-Ok-clause-running c =
    let config = c.args.config.now in
    let limits = c.args.limits.now in
    let plan = c.args.plan in
    let needs = c.needs_of-entries.result in
    let rooms = c.in-Ok.field-0 in
    let are : AreNeedsOf config limits plan.tasks.items needs =
    subst (λ (xs : List Task). AreNeedsOf config limits xs needs) c.as_slice.ensures c.needs_of-entries.ensures in
    let s = shared config limits c.requires.config c.requires.limits plan c.requires.plan c.args.lanes c.requires.some
    needs are in
    let count = c.len-count.ensures in
    let means = c.means_of-means.ensures in
    let by = subst (λ (x : Means). IsSharedBy c.len-count.result x s) (sym means)
    (shared_by config limits c.requires.config c.requires.limits plan c.requires.plan c.args.lanes c.requires.some needs
    are c.len-count.result count) in (
      s,
      shared_is config limits c.requires.config c.requires.limits plan c.requires.plan c.args.lanes c.requires.some
          needs are,
      starts config limits c.requires.config c.requires.limits plan c.requires.plan c.args.lanes c.requires.some needs
          are c.args.before.items c.reserve.new.journal rooms.outcomes rooms.moves rooms.steps.items
          c.in-Ok.ensures.items c.in-Ok.ensures.journal c.in-Ok.ensures.none
          (let room = c.in-Ok.ensures.outcomes in omega (arith, count, room))
          (c.in-Ok.ensures.moves s by) (c.in-Ok.ensures.room ∙ ap (λ (x : Means). x.room) means)
          (c.in-Ok.ensures.steps ∙ ap (λ (n : ℕ). replicate n None) count),
    )
