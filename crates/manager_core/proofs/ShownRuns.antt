-- What is shown of a task is what its work and its history say.
use Rattle.std.proofs.Common.{◌≡◌, ◌∙◌, ◌&&◌, ◌<◌, ℕ, Bool, true, false, List, Option, Some, None, refl, sym, ap}
use Rattle.std.proofs.Common.{◌==◌, [], ◌∷◌, zero, suc, arith, get_or, length, not, if◌then◌else◌}
use Rattle.std.proofs.lemmas.Bool.{eqb-true, ltb-true}
use Rattle.std.specs.Prelude.{is_some, nat_lt, slice_get, take}
use Rattle.alike_histories.proofs.Alike.{alike_says_the_same}
use Rattle.manager_moves.proofs.CountLemmas.{no}
use Rattle.manager_moves.proofs.PartLaws.{nothing}
use Rattle.manager_moves.specs.Moves.{made}
use Rattle.manager_moves.specs.Runs.{Events, Shared, lacks_memory, made_count, share}
use Rattle.manager_moves.specs.declared.moves.Move.TheVariants as move
use Rattle.move_laws.specs.Follows.{Follows, HoldsTask}
use Rattle.move_laws.specs.Kept.{SeenMoves, state_at}
use Rattle.move_laws.specs.Lending.{failing_in}
use Rattle.run_needs.specs.Needs.{CanBegin}
use Rattle.run_steps.proofs.Settling.{slice_within}
use Rattle.run_steps.specs.Steps.{HoldsStep, is_going}
use Rattle.s3_model.specs.declared.outcomes.Cause.{Cause}
use Rattle.s3_model.specs.declared.outcomes.Outcome.{Outcome}
use Rattle.s3_model.specs.declared.tasks.Task.{Task}
use Rattle.step_jobs.specs.Formed.{range_at}
use Rattle.step_jobs.specs.Shares.{SeenSteps}
use Rattle.task_acts.specs.Ends.{outcome_of}
use Rattle.task_acts.specs.Failures.{first_failure}
use Rattle.task_acts.specs.Histories.{History}
use Rattle.task_acts.specs.Work.{IsWorkOf}
use Rattle.task_acts.specs.declared.work.Work.{Work}
use Rattle.task_core.specs.Machine.{SeenTask}
use Rattle.manager_core.proofs.OneWork.{work_at, work_is_one}
use Rattle.manager_core.proofs.PlanTasks.{task_begins}
use Rattle.manager_core.proofs.ReadyJobs.{there_is}
use Rattle.manager_core.proofs.RunLemmas.{works_are}
use Rattle.manager_core.specs.declared.due.Due.{Due}
use Rattle.manager_core.specs.declared.due.Due.TheVariants as due
use Rattle.manager_core.specs.Due.{told}
use Rattle.manager_core.specs.Kept.{SeenManager}
use Rattle.manager_core.specs.Running.{FollowsBut, IsRunning, Start}
use Rattle.manager_core.specs.Shown.{is_failing, range_in}

-- a task that is made is one of those that are
in_made : {X : Type 0} (count : ℕ) (xs : List X) (n : ℕ) (x : X) → n < count → slice_get xs n ≡ Some x
    → slice_get (take count xs) n ≡ Some x
in_made zero xs n x below e = absurd (omega (arith, below))
in_made (suc count) [] n x below e = absurd (nothing e)
in_made (suc count) (y ∷ ys) zero x below e = e
in_made (suc count) (y ∷ ys) (suc n) x below e = in_made count ys n x (omega (arith, below)) e

-- ---- ranges

pub range_else : (w : Work) (number : ℕ) → (number ≡ 0 → ⊥) → range_at w number ≡ range_in w number
range_else w number other = by (number == 0) refl
  where
    by : (b : Bool) → (number == 0) ≡ b → range_at w number ≡ (if b then (0, w.size) else range_at w number)
    by true e = absurd (other (eqb-true number 0 e))
    by false e = refl

-- ---- failures

-- the states of tasks are those of a run that is followed
states_of : (d : Due) (s : Shared) (events : Events) (mv : SeenMoves) → FollowsBut d s events mv
    → (before : SeenMoves) × Follows s events before × (mv.slots ≡ before.slots)
states_of (due.Next (move.Read task number)) s events mv lent =
    (lent.before, lent.follows, ap (λ (x : SeenMoves). x.slots) lent.lent.rest)
states_of d s events mv follows = (mv, follows, refl)

-- a task that goes on is made, found its memory, and has not ended
going_parts : (is_made lacks : Bool) (ended lost : Option Outcome)
    → (is_made && not (is_some (if is_made then (if lacks then lost else ended) else None))) ≡ true
    → is_some lost ≡ true → (is_made ≡ true) × (lacks ≡ false) × (is_some ended ≡ false)
going_parts true false None lost e f = (refl, refl, refl)
going_parts true false (Some x) lost e f = no e
going_parts true true ended (Some x) e f = no e
going_parts true true ended None e f = no f
going_parts false lacks ended lost e f = no e

state_fails : (room : ℕ) (w : Work) (h : History) (state : Option SeenTask) → HoldsTask room w h state
    → is_some (outcome_of w h) ≡ false → failing_in state ≡ is_some (first_failure w h)
state_fails room w h (Some t) holds goes =
    let its = holds.0 in
    its.stands.failing_is
    ∙ ap (λ (x : Option Cause). is_some x) (alike_says_the_same w its.heard h its.alike.told_are).failure
state_fails room w h None holds goes = no (sym goes ∙ holds.ended)

shown_failing : (going : Bool) (of_task : Task) (w : Work) (h : History) (kept : Option SeenSteps) (fails failed : Bool)
    → HoldsStep going of_task w h kept → (going ≡ true → fails ≡ failed) → (is_some kept && fails) ≡ (going && failed)
shown_failing true of_task w h (Some j) fails failed holds same = same refl
shown_failing true of_task w h None fails failed holds same = absurd holds
shown_failing false of_task w h None fails failed holds same = refl
shown_failing false of_task w h (Some j) fails failed holds same = absurd (nothing (sym holds))

module _ (start : Start) (s : Shared) (events : Events) (m : SeenManager)
    (running : IsRunning start s events m) (task : ℕ) (w : Work) (there : slice_get s.works task ≡ Some w) where
  pub in_plan : task < length m.plan.tasks.items
  in_plan =
      let below = slice_within s.works task w there in
      let same = works_are start s events m running in
      omega (arith, below, same)

  pub in_steps : task < length m.steps
  in_steps = let below = in_plan in let count = running.state.steps.count in omega (arith, below, count)

  abbrev after : Events
  after = told m.due events

  its : (before : SeenMoves) × Follows s after before × (m.moves.slots ≡ before.slots)
  its = states_of m.due s after m.moves running.state.follows

  pub in_slots : task < length m.moves.slots
  in_slots =
      let below = slice_within s.works task w there in
      let count = its.1.count in
      let same = ap (λ (xs : List (Option SeenTask)). length xs) its.2 in
      omega (arith, below, count, same)

  -- ---- its work

  module _ (of_task : Task) (is : slice_get m.plan.tasks.items task ≡ Some of_task) where
    pub begins : CanBegin m.limits of_task
    begins = task_begins m.limits m.plan.tasks.items running.given.plan task of_task is

    its_work : IsWorkOf of_task m.config m.limits w
    its_work = work_at m.config m.limits m.plan.tasks.items s.works task of_task w running.given.works is there

    pub its_size : w.size ≡ of_task.size
    its_size = its_work.size_is

    pub same_work : (v : Work) → IsWorkOf of_task m.config m.limits v → v ≡ w
    same_work v work = work_is_one m.config m.limits of_task v w work its_work

  -- ---- its failure

  of_plan : (t : Task) × (slice_get m.plan.tasks.items task ≡ Some t)
  of_plan = there_is m.plan.tasks.items task in_plan

  fails : is_going w task after ≡ true
      → failing_in (state_at m.moves task) ≡ is_some (first_failure w (share w task after))
  fails goes =
      let parts = going_parts (nat_lt task (made_count after)) (lacks_memory task after)
      (outcome_of w (share w task after)) _ goes refl in
      let of_made : slice_get (made s after) task ≡ Some w =
      in_made (made_count after) s.works task w (ltb-true task (made_count after) parts.0) there in
      ap (λ (xs : List (Option SeenTask)). failing_in (get_or xs task None)) its.2
      ∙ state_fails its.0.parts.pool.room w (share w task after) (state_at its.0 task)
      (its.1.tasks task w of_made parts.1) parts.2

  pub failing_is : (is_some (get_or m.steps task None) && failing_in (state_at m.moves task)) ≡ is_failing w task after
  failing_is = shown_failing (is_going w task after) of_plan.0 w (share w task after) (get_or m.steps task None)
      (failing_in (state_at m.moves task)) (is_some (first_failure w (share w task after)))
      (running.state.steps.each task of_plan.0 w of_plan.1 there) fails
