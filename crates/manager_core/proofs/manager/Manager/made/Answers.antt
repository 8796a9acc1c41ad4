use Rattle.std.proofs.Common.{◌∙◌, ◌==◌, ◌<◌, ◌∷◌, false, List, Option, length, length-set, set, sym, subst, ap, arith}
use Rattle.std.specs.Prelude.{IfOk, slice_get, IfSome}
use Rattle.manager_moves.proofs.CountLemmas.{no}
use Rattle.manager_moves.proofs.HoldLemmas.{same_number}
use Rattle.manager_moves.specs.Runs.{Made}
use Rattle.move_laws.specs.Admits.{Admits}
use Rattle.move_laws.specs.Follows.{Follows}
use Rattle.move_laws.specs.Steady.{IsSteadyBut}
use Rattle.run_steps.specs.Steps.{settled_steps}
use Rattle.std.specs.Result.{result_ok}
use Rattle.step_jobs.specs.Shares.{SeenSteps}
use Rattle.task_works.specs.Works.{IsBegun, IsWithinObject}
use Rattle.manager_core.proofs.MadeRuns.{made_admits, made_all, made_run, make_at, make_in_plan, make_in_steps, new_so}
use Rattle.manager_core.proofs.PlanTasks.{task_begins}
use Rattle.manager_core.proofs.RunLemmas.{with}
use Rattle.manager_core.specs.declared.due.Due.TheVariants as due
use Rattle.manager_core.specs.Kept.{SeenManager, jobs_at}
use Rattle.manager_core.specs.Running.{IsRunning}
use Rattle.manager_core.proofs.CellLemmas.{at_set, other_cell, settled_cells, settled_holds}
use Rattle.manager_core.specs.Cells.{CellStays}
use Rattle.std.proofs.Common.{◌≡◌, ℕ, None, get_or}
use Rattle.manager_core.proofs.manager.Manager.made.Goals as goal

pub task-requires : goal.task-requires
task-requires c =
    let r = c.requires in
    subst (λ (x : SeenManager). c.args.task < length x.plan.tasks.items) (sym c.self.view_is)
    (make_in_plan r.start r.s r.events c.args.self.now r.running c.args.task r.is)

pub begin-state-requires-clause-within : goal.begin-state-requires-clause-within
begin-state-requires-clause-within c =
    let r = c.requires in
    let now = c.args.self.now in
    subst (λ (x : SeenManager). IsWithinObject c.task.result.now x.limits) (sym c.self.view_is)
    (task_begins now.limits now.plan.tasks.items r.running.given.plan c.args.task c.task.result.now
    (ap (λ (x : SeenManager). slice_get x.plan.tasks.items c.args.task) (sym c.self.view_is) ∙ c.task.ensures)).within

pub put-requires : goal.put-requires
put-requires c =
    let r = c.requires in
    subst (λ (x : SeenManager). c.args.task < length x.steps) (sym c.self.view_is)
    (make_in_steps r.start r.s r.events c.args.self.now r.running c.args.task r.is)

pub made-fits-requires : goal.made-fits-requires
made-fits-requires c =
    let r = c.requires in
    subst (λ (x : SeenManager). Admits (Made false) x.moves) (sym c.self.view_is)
    (made_admits r.start r.s r.events c.args.self.now r.running c.args.task r.is)

pub settle-requires : goal.settle-requires
settle-requires c =
    let r = c.requires in
    let within = make_in_steps r.start r.s r.events c.args.self.now r.running c.args.task r.is in
    let same = ap (λ (x : SeenManager). length x.steps) c.self.view_is in
    let put = ap (λ (xs : List (Option SeenSteps)). length xs) c.put.ensures in
    let long = length-set c.self.inside.steps.items c.args.task c.begin-state.result.steps in
    omega (arith, within, same, put, long)

pub returns-clause-running : goal.returns-clause-running
returns-clause-running c start s events running =
    let now = c.args.self.now in
    let task = c.args.task in
    let is = c.requires.is in
    let of_task = c.task.result.now in
    let state = c.begin-state.result.state in
    let slot = c.begin-state.result.steps in
    let fits = c.made-fits.result in
    let new = c.made-fits.new.self in
    let places = c.put.new.places.items in
    let after = Made fits ∷ events in
    let there = ap (λ (x : SeenManager). slice_get x.plan.tasks.items task) (sym c.self.view_is) ∙ c.task.ensures in
    let begun = subst (λ (x : SeenManager). IfOk state (IsBegun of_task x.config x.limits)) c.self.view_is
    c.begin-state.ensures.begun in
    let follows = c.made-fits.ensures.made s events
    (new_so start s events now running task is of_task there state begun)
    (made_run start s events now running task is fits)
    (subst (λ (x : SeenManager). Follows s events x.moves) (sym c.self.view_is)
    (make_at start s events now running task is).follows) in
    let steady = subst (λ (x : SeenManager). IsSteadyBut (result_ok state) x.moves new) c.self.view_is
    c.made-fits.ensures.steady in (
      fits,
      subst (λ (x : SeenManager). IsRunning start s after x) (sym c.settle.ensures)
          (subst (λ (x : SeenManager). IsRunning start s after
          (with x new (settled_steps task new.outcomes places) x.journal due.Free)) (sym c.self.view_is)
          (subst (λ (xs : List (Option SeenSteps)). IsRunning start s after
          (with now new (settled_steps task new.outcomes xs) now.journal due.Free))
          (sym (c.put.ensures ∙ ap (λ (x : SeenManager). set x.steps task slot) c.self.view_is))
          (made_all start s events now running task is of_task there state slot fits new begun
          c.begin-state.ensures.steps c.made-fits.ensures.lost follows steady))),
    )

pub returns-clause-cells : goal.returns-clause-cells
returns-clause-cells c n apart =
    let now = c.args.self.now in
    let task = c.args.task in
    let places = c.put.new.places.items in
    let slot = c.begin-state.result.steps in
    subst (λ (x : SeenManager). CellStays (jobs_at now n) (jobs_at x n)) (sym c.settle.ensures)
    (settled_cells c.made-fits.new.self.outcomes task places (jobs_at now n) n
    (subst (λ (xs : List (Option SeenSteps)). CellStays (jobs_at now n) (get_or xs n None))
    (sym (c.put.ensures ∙ ap (λ (x : SeenManager). set x.steps task slot) c.self.view_is))
    (other_cell now.steps task slot n
    (λ same. no (sym apart ∙ ap (λ (i : ℕ). task == i) (sym same) ∙ same_number task)))))

pub returns-clause-unheard : goal.returns-clause-unheard
returns-clause-unheard c =
    let task = c.args.task in
    let places = c.put.new.places.items in
    let slot = c.begin-state.result.steps in
    subst (λ (x : SeenManager). IfSome (jobs_at x task) (λ j. j.cell.known ≡ None)) (sym c.settle.ensures)
    (settled_holds c.made-fits.new.self.outcomes task places (λ j. j.cell.known ≡ None)
    (subst (λ (xs : List (Option SeenSteps)). IfSome (get_or xs task None) (λ j. j.cell.known ≡ None))
    (sym c.put.ensures)
    (at_set (λ j. j.cell.known ≡ None) c.self.inside.steps.items task slot c.begin-state.ensures.unheard)))
