-- The run goes on with the job that was formed.
use Rattle.std.proofs.Common.{◌≡◌, ◌∙◌, ◌==◌, ◌&&◌, ◌∷◌, ℕ, false, List, Option, Some, None, refl, sym, subst, ap}
use Rattle.std.proofs.Common.{get_or, IsSomeAnd}
use Rattle.std.specs.Prelude.{slice_get}
use Rattle.held_parts.specs.Held.{SeenParts}
use Rattle.kept_jobs.specs.Slots.{HasSlot}
use Rattle.manager_moves.proofs.HoldLemmas.{same_op}
use Rattle.manager_moves.proofs.PartLaws.{same_value}
use Rattle.manager_moves.specs.Runs.{Events, Sent, Shared, share}
use Rattle.manager_moves.specs.declared.moves.Move.TheVariants as move
use Rattle.move_laws.specs.Follows.{Follows}
use Rattle.move_laws.specs.Kept.{SeenMoves, state_at}
use Rattle.move_laws.specs.Steady.{IsSteady}
use Rattle.job_terms.specs.Ops.{is_op}
use Rattle.run_steps.proofs.Giving.{given_again, given_first}
use Rattle.run_steps.specs.Following.{IsAtOne}
use Rattle.s3_model.specs.declared.requests.Op.{Op}
use Rattle.s3_model.specs.declared.requests.Op.TheVariants as op
use Rattle.step_jobs.specs.Shares.{SeenSteps}
use Rattle.step_laws.specs.Following.{IsTakenFor}
use Rattle.task_acts.specs.declared.acts.Act.TheVariants as act
use Rattle.task_acts.specs.declared.work.Work.{Work}
use Rattle.task_acts.specs.Kept.{kept_job}
use Rattle.manager_core.proofs.GivenRuns.{formed_runs, sent_in}
use Rattle.manager_core.proofs.ReadyJobs.{its_at, its_jobs, its_there, its_work, shares}
use Rattle.manager_core.proofs.RunLemmas.{with}
use Rattle.manager_core.proofs.SentRuns.{tags_left, waits}
use Rattle.manager_core.proofs.TagLemmas.{tags_stay}
use Rattle.manager_core.specs.declared.due.Due.TheVariants as due
use Rattle.manager_core.specs.Kept.{SeenManager}
use Rattle.manager_core.specs.Running.{IsRunning, Start}

module _ (start : Start) (s : Shared) (events : Events) (m : SeenManager)
    (running : IsRunning start s events m) (task : ℕ) (o : Op) (k lane : ℕ)
    (is : m.due ≡ due.Next (move.Give task o k lane)) (mv : SeenMoves)
    (follows : Follows s (Sent task o k lane ∷ events) mv) (steady : IsSteady m.moves mv) where
  -- a job that was kept
  pub again_runs : IsRunning start s events (with m mv m.steps m.journal (due.Job task o k lane))
  again_runs =
      let at = its_at start s events m running task o k lane is in
      formed_runs start s events m running task o k lane is mv follows steady.room
      (tags_stay s events m.moves mv steady at.tags (Sent task o k lane) refl) m.steps
      (given_again s events task o k lane m.plan.tasks.items m.steps
      (sent_in start s events m running task o k lane is) at.steps)

  abbrev w : Work
  w = its_work start s events m running task o k lane is

  -- a job that was not
  module _ (first : kept_job w (share w task events) (act.Send o k) ≡ None) where
    abbrev pub jobs : SeenSteps
    jobs = (its_jobs start s events m running task o k lane is).0

    same_work : (v : Work) → slice_get s.works task ≡ Some v → HasSlot v o k
    same_work v there = subst (λ (x : Work). HasSlot x o k)
        (same_value (sym (its_there start s events m running task o k lane is) ∙ there))
        (shares start s events m running task o k lane is first).0

    left_of : (x : Option SeenSteps) → IsSomeAnd x (IsTakenFor o k jobs)
        → (left : SeenSteps) × (x ≡ Some left) × IsTakenFor o k jobs left
    left_of (Some left) taken = (left, refl, taken)
    left_of None taken = absurd taken

    pub first_runs : (new : SeenMoves) → Follows s (Sent task o k lane ∷ events) new → new.parts ≡ mv.parts
        → ((n : ℕ) → (is_op o op.Complete && (task == n)) ≡ false → state_at new n ≡ state_at mv n)
        → (now : List (Option SeenSteps)) → IsAtOne task m.steps now
        → IsSomeAnd (get_or now task None) (IsTakenFor o k jobs)
        → IsRunning start s events (with m new now m.journal (due.Job task o k lane))
    first_runs new goes parts others now at_one taken =
        let at = its_at start s events m running task o k lane is in
        let left = left_of (get_or now task None) taken in
        formed_runs start s events m running task o k lane is new goes
        (ap (λ (x : SeenParts). x.pool.room) parts ∙ steady.room)
        (tags_left start s events m running task o k lane is mv follows steady new others
        (λ joins. (waits start s events m running task o k lane is mv follows steady first
        (same_op o op.Complete joins)).1)) now
        (given_first s events task o k lane m.plan.tasks.items m.steps now
        (sent_in start s events m running task o k lane is) at.steps at_one (record {
          jobs = jobs;
          was = (its_jobs start s events m running task o k lane is).1;
          left = left.0;
          is = left.1;
          taken = left.2;
          slot = same_work;
        }))
