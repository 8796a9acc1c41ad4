-- A job that is given next is ready, and what it is given fits it.
use Rattle.std.proofs.Common.{◌≡◌, ◌∙◌, ◌&&◌, ◌<◌, ◌≤◌, ◌^◌, [], ◌∷◌, ℕ, zero, suc, Bool, true, false, List, Option}
use Rattle.std.proofs.Common.{Some, None, refl, sym, subst, ap, arith, get_or, length, length-take, not, if◌then◌else◌}
use Rattle.std.proofs.lemmas.Bool.{lt-ltb}
use Rattle.std.specs.Prelude.{is_some, nat_lt, slice_get}
use Rattle.kept_jobs.specs.Slots.{HasSlot}
use Rattle.manager_moves.proofs.CountLemmas.{no}
use Rattle.manager_moves.proofs.MoveLaws.{in_front}
use Rattle.manager_moves.proofs.PartLaws.{find_passes, nothing, ready_act}
use Rattle.manager_moves.proofs.ShareLaws.{act_of, is_next, shares_are_histories}
use Rattle.manager_moves.specs.Moves.{made, ready}
use Rattle.manager_moves.specs.Parts.{is_kept}
use Rattle.manager_moves.specs.Runs.{Events, Shared, lacks_memory, made_count, share}
use Rattle.manager_moves.specs.declared.moves.Move.TheVariants as move
use Rattle.part_tables.proofs.Freeing.{kept_jobs_wait}
use Rattle.run_needs.specs.Needs.{part_bytes}
use Rattle.run_steps.proofs.Settling.{slice_within}
use Rattle.run_steps.specs.Steps.{HoldsStep, is_going}
use Rattle.s3_model.specs.declared.outcomes.Outcome.{Outcome}
use Rattle.s3_model.specs.declared.requests.Op.{Op}
use Rattle.s3_model.specs.declared.tasks.Task.{Task}
use Rattle.step_jobs.specs.Formed.{FitsJob}
use Rattle.step_jobs.specs.Shares.{HasShare, SeenSteps}
use Rattle.step_jobs.specs.declared.step_jobs.Given.{Given}
use Rattle.step_laws.proofs.FitLemmas.{given_jobs_fit}
use Rattle.step_laws.proofs.ShareLemmas.{ready_jobs_have_shares}
use Rattle.step_laws.specs.Fitting.{IsGivenIn}
use Rattle.step_laws.specs.Following.{HoldsShares}
use Rattle.task_acts.specs.declared.acts.Act.{Act}
use Rattle.task_acts.specs.declared.acts.Act.TheVariants as act
use Rattle.task_acts.specs.declared.work.Work.{Work}
use Rattle.task_acts.specs.Ends.{outcome_of}
use Rattle.task_acts.specs.Histories.{History}
use Rattle.task_acts.specs.Kept.{IsHistory, kept_job}
use Rattle.task_acts.specs.Rule.{acts_of, first_ready_in, is_ready_in}
use Rattle.task_acts.specs.Stages.{stage}
use Rattle.task_progress.proofs.Quiet.{not_ready, outcome_quiet}
use Rattle.task_progress.specs.Progress.{HasPiece}
use Rattle.manager_core.proofs.GivenRuns.{give_at}
use Rattle.manager_core.proofs.OneWork.{work_at}
use Rattle.manager_core.proofs.PlanTasks.{task_objects}
use Rattle.manager_core.proofs.RunLemmas.{works_are}
use Rattle.manager_core.specs.declared.due.Due.TheVariants as due
use Rattle.manager_core.specs.Kept.{SeenManager}
use Rattle.manager_core.specs.Running.{IsAt, IsRunning, Start}

pub there_is : {X : Type 0} (xs : List X) (n : ℕ) → n < length xs → (x : X) × (slice_get xs n ≡ Some x)
there_is [] n below = absurd (omega (arith, below))
there_is (x ∷ xs) zero below = (x, refl)
there_is (x ∷ xs) (suc n) below = there_is xs n (omega (arith, below))

no_memory : (b : Bool) (x : Option Act) (a : Act) → (if b then None else x) ≡ Some a → b ≡ false
no_memory true x a e = absurd (nothing e)
no_memory false x a e = refl

pub has_jobs : (task : Task) (w : Work) (h : History) (going : Bool) → going ≡ true → (kept : Option SeenSteps)
    → HoldsStep going task w h kept → (j : SeenSteps) × (kept ≡ Some j) × HoldsShares task w h j
has_jobs task w h true e (Some j) holds = (j, refl, holds)
has_jobs task w h true e None holds = absurd holds
has_jobs task w h false e kept holds = no e

going_by : (made_so lacks : Bool) (ended : Option Outcome) (lost : Option Outcome) → made_so ≡ true → lacks ≡ false
    → is_some ended ≡ false
    → (made_so && not (is_some (if made_so then (if lacks then lost else ended) else None))) ≡ true
going_by true false None lost e f g = refl
going_by true false (Some x) lost e f g = no (sym g)
going_by true true ended lost e f g = no (sym f)
going_by false lacks ended lost e f g = no e

module _ (start : Start) (s : Shared) (events : Events) (m : SeenManager)
    (running : IsRunning start s events m) (task : ℕ) (o : Op) (k lane : ℕ)
    (is : m.due ≡ due.Next (move.Give task o k lane)) where
  abbrev pub its_at : IsAt (due.Next (move.Give task o k lane)) s events m
  its_at = give_at start s events m running task o k lane is

  abbrev pub found : (w : Work) × (slice_get (made s events) task ≡ Some w)
      × (ready s events task w ≡ Some (act.Send o k))
  found = is_next s events task (act.Send o k) (ap act_of its_at.named)

  abbrev pub its_work : Work
  its_work = found.0

  pub made_there : slice_get (made s events) task ≡ Some its_work
  made_there = found.1

  pub its_there : slice_get s.works task ≡ Some its_work
  its_there = in_front (made_count events) s.works task its_work made_there

  pub memory : lacks_memory task events ≡ false
  memory = no_memory (lacks_memory task events) (first_ready_in its_work (share its_work task events)) (act.Send o k)
      found.2

  abbrev pub its_history : History
  its_history = share its_work task events

  pub is_ready : is_ready_in its_work its_history (act.Send o k) ≡ true
  is_ready = find_passes (is_ready_in its_work its_history) (acts_of its_work) (act.Send o k)
      (ready_act (lacks_memory task events) (first_ready_in its_work its_history) (act.Send o k) found.2)

  pub history : IsHistory its_work its_history
  history = shares_are_histories s events task its_work its_there its_at.run.run

  unended : is_some (outcome_of its_work its_history) ≡ false
  unended = by (is_some (outcome_of its_work its_history)) refl
    where
      piece : HasPiece its_work
      piece = its_at.run.pieces task its_work its_there

      by : (b : Bool) → is_some (outcome_of its_work its_history) ≡ b → b ≡ false
      by true e = no (not_ready its_work its_history piece history
          (outcome_quiet its_work its_history piece history e) (act.Send o k) is_ready)
      by false e = refl

  pub going : is_going its_work task events ≡ true
  going = going_by (nat_lt task (made_count events)) (lacks_memory task events) (outcome_of its_work its_history) _
      (let below = slice_within (made s events) task its_work made_there in
      let most = length-take (made_count events) s.works in
      lt-ltb task (made_count events) (omega (arith, below, most))) memory unended

  -- ---- its place in the plan

  abbrev pub in_plan : (of_task : Task) × (slice_get m.plan.tasks.items task ≡ Some of_task)
  in_plan =
      let below = slice_within s.works task its_work its_there in
      let same = works_are start s events m running in
      there_is m.plan.tasks.items task (omega (arith, below, same))

  abbrev pub its_task : Task
  its_task = in_plan.0

  pub its_jobs : (j : SeenSteps) × (get_or m.steps task None ≡ Some j) × HoldsShares its_task its_work its_history j
  its_jobs = has_jobs its_task its_work its_history (is_going its_work task events) going (get_or m.steps task None)
      (its_at.steps.each task its_task its_work in_plan.1 its_there)

  -- ---- at its first giving

  module _ (first : kept_job its_work its_history (act.Send o k) ≡ None) where
    pub not_kept : is_kept (stage its_work its_history (act.Send o k)) ≡ false
    not_kept = sym (kept_jobs_wait s events task its_work o k its_at.run.run)
        ∙ ap (λ (x : Option _). is_some x) first

    pub shares : HasSlot its_work o k × HasShare its_jobs.0 o k
    shares = ready_jobs_have_shares its_task its_work its_history its_jobs.0 o k history its_jobs.2 is_ready not_kept

  pub fits : its_task.size < 2 ^ 64 → (given : Given) → given.id.op ≡ o → given.id.number ≡ k → (room : ℕ)
      → part_bytes its_work ≤ room → IsGivenIn its_work its_history room given → FitsJob its_task its_work given
  fits size given op_is number_is room few in_it =
      given_jobs_fit m.config m.limits its_task its_work its_history room given (record {
        config_is = running.given.config;
        limits_are = running.given.limits;
        size = size;
        work = work_at m.config m.limits m.plan.tasks.items s.works task its_task its_work running.given.works in_plan.1
            its_there;
        objects = task_objects m.limits m.plan.tasks.items running.given.plan task its_task in_plan.1;
      }) few history
      (subst (λ (p : Op). is_ready_in its_work its_history (act.Send p given.id.number) ≡ true) (sym op_is)
      (subst (λ (n : ℕ). is_ready_in its_work its_history (act.Send o n) ≡ true) (sym number_is) is_ready)) in_it
