-- A job that is sent goes on in its run, and is formed at its first giving.
use Rattle.std.proofs.Common.{◌≡◌, ◌∙◌, ◌==◌, ◌&&◌, ◌<◌, ◌^◌, ◌∷◌, ℕ, false, true, List, Option, Some, None, refl}
use Rattle.std.proofs.Common.{sym, subst, ap, get_or, length, set, IsSomeAnd}
use Rattle.std.specs.Prelude.{is_some, slice_get}
use Rattle.held_parts.specs.Held.{held_at}
use Rattle.jobs.specs.Jobs.{SeenJob}
use Rattle.job_terms.specs.Jobs.{job_of}
use Rattle.job_terms.specs.Ops.{is_op}
use Rattle.kept_jobs.specs.Steps.{HasTags}
use Rattle.manager_moves.proofs.PartLaws.{same_value}
use Rattle.manager_moves.specs.Runs.{Events, Sent, Shared, share}
use Rattle.manager_moves.specs.declared.moves.Move.TheVariants as move
use Rattle.move_core.specs.Given.{again_of, part_with}
use Rattle.move_core.specs.declared.giving.Given.{Given as Along}
use Rattle.move_core.specs.declared.giving.Given.TheVariants as given_of
use Rattle.move_laws.specs.Admits.{GoesOn, IsRunOf}
use Rattle.move_laws.specs.Bytes.{KeepsBytes, no_part}
use Rattle.move_laws.specs.Calls.{IsPartFor}
use Rattle.move_laws.specs.Follows.{Follows}
use Rattle.move_laws.specs.Kept.{SeenMoves, state_at}
use Rattle.move_laws.specs.Lending.{IsGoing, slot_tags}
use Rattle.move_laws.specs.Steady.{IsSteady}
use Rattle.s3_model.specs.declared.bytes.Part.{Part}
use Rattle.s3_model.specs.declared.outcomes.JobId.{JobId}
use Rattle.s3_model.specs.declared.requests.Op.{Op}
use Rattle.s3_model.specs.declared.requests.Op.TheVariants as op
use Rattle.s3_model.specs.declared.tasks.Task.{Task}
use Rattle.step_jobs.specs.Formed.{IsFormed}
use Rattle.step_jobs.specs.Shares.{SeenSteps}
use Rattle.step_jobs.specs.declared.step_jobs.Given.{Given}
use Rattle.step_laws.specs.Following.{HoldsShares, IsTakenFor}
use Rattle.task_acts.specs.declared.acts.Act.TheVariants as act
use Rattle.task_acts.specs.declared.work.Work.{Work}
use Rattle.task_acts.specs.Kept.{kept_job, upload_of}
use Rattle.manager_core.proofs.FormedJobs.{can_form, first_job}
use Rattle.manager_core.proofs.FormedRuns.{again_runs, first_runs}
use Rattle.manager_core.proofs.GivenRuns.{sent_run}
use Rattle.manager_core.proofs.HappenedRuns.{place_within}
use Rattle.manager_core.proofs.Places.{set_at_one, set_here}
use Rattle.manager_core.proofs.ReadyJobs.{in_plan, its_at, its_jobs, its_task, its_there, its_work}
use Rattle.manager_core.proofs.RunLemmas.{with}
use Rattle.manager_core.proofs.SentRuns.{slots_within, still_going, tags_there}
use Rattle.manager_core.specs.declared.due.Due.TheVariants as due
use Rattle.manager_core.specs.Formed.{IsFirst, IsHandedOut, IsJobFor}
use Rattle.manager_core.specs.Kept.{SeenManager}
use Rattle.manager_core.specs.Running.{IsRunning, Start}
use Rattle.manager_core.specs.Sending.{HasSent, HasSentFirst}
use Rattle.manager_core.specs.Steps.{CanForm}

-- ---- a job that is sent

-- what the call says by which the moves sent it
pub record IsSentBy (task : ℕ) (o : Op) (k lane : ℕ) (along : Along) (before after : SeenMoves) : Type 0 where
  pub goes : GoesOn (Sent task o k lane) before after
  pub known : (s : Shared) (events : Events) (w : Work) → IsRunOf s (Sent task o k lane ∷ events)
      → Follows s events before → slice_get s.works task ≡ Some w
      → again_of along ≡ kept_job w (share w task events) (act.Send o k)
  pub part : again_of along ≡ None
      → IsPartFor o before.parts.pool.room (held_at before.parts.slots task k) (part_with along)
  pub bytes : KeepsBytes no_part before.parts.slots after.parts.slots
  pub steady : IsSteady before after

module _ (start : Start) (s : Shared) (events : Events) (m : SeenManager) (running : IsRunning start s events m)
    (task : ℕ) (o : Op) (k lane : ℕ) (is : m.due ≡ due.Next (move.Give task o k lane)) where
  module _ (along : Along) (mv : SeenMoves) (by : IsSentBy task o k lane along m.moves mv) where
    pub is_sent : HasSent start s events task o k lane m mv
    is_sent = record {
      running = running;
      named = is;
      follows = by.goes s events (sent_run start s events m running task o k lane is)
          (its_at start s events m running task o k lane is).follows;
      steady = by.steady;
    }

    pub kept_is : (w : Work) → slice_get s.works task ≡ Some w
        → kept_job w (share w task events) (act.Send o k) ≡ again_of along
    kept_is w there = sym (by.known s events w (sent_run start s events m running task o k lane is)
        (its_at start s events m running task o k lane is).follows there)

    -- one that was kept
    pub goes_on : IsRunning start s events (with m mv m.steps m.journal (due.Job task o k lane))
    goes_on = again_runs start s events m running task o k lane is mv is_sent.follows by.steady

    pub handed_out : (job : SeenJob) → along ≡ given_of.Again job → IsJobFor s events task o k m job
    handed_out job again of_task w here there =
        subst (λ (x : Option SeenJob). IsHandedOut x of_task w s events task o k m job)
        (sym (kept_is w there ∙ ap again_of again)) refl

    -- one that was not
    pub sent_first : (part : Option Part) → along ≡ given_of.First part → (steps : List (Option SeenSteps))
        → steps ≡ m.steps → (of_task : Task) → slice_get m.plan.tasks.items task ≡ Some of_task
        → of_task.size < 2 ^ 64 → HasSentFirst start s events task o k lane part m mv steps
    sent_first part first steps same of_task here size = record {
      sent = is_sent;
      steps_are = same;
      none_kept = λ w there. kept_is w there ∙ ap again_of first;
      part_is = subst (λ (p : Option Part). IsPartFor o m.moves.parts.pool.room (held_at m.moves.parts.slots task k) p)
          (ap part_with first) (by.part (ap again_of first));
      size = λ other there. subst (λ (t : Task). t.size < 2 ^ 64) (same_value (sym here ∙ there)) size;
    }

-- ---- a job that is formed

-- what it is given beside its share
pub record IsGivenBy (task : ℕ) (o : Op) (k : ℕ) (part : Option Part) (mv : SeenMoves) (given : Given) : Type 0 where
  pub id : given.id ≡ job_of task o k
  pub part_is : given.part ≡ part
  pub upload : (s : Shared) (events : Events) (w : Work) → Follows s events mv → IsGoing s events mv task w
      → given.upload ≡ upload_of (share w task events)
  pub tags : (s : Shared) (events : Events) (w : Work) → Follows s events mv → IsGoing s events mv task w
      → HasTags w (share w task events) o given.etags

module _ (start : Start) (s : Shared) (events : Events) (task : ℕ) (o : Op) (k lane : ℕ) (part : Option Part)
    (m : SeenManager) (mv : SeenMoves) (steps : List (Option SeenSteps))
    (first : HasSentFirst start s events task o k lane part m mv steps) where
  abbrev running : IsRunning start s events m
  running = first.sent.running

  abbrev is : m.due ≡ due.Next (move.Give task o k lane)
  is = first.sent.named

  abbrev w : Work
  w = its_work start s events m running task o k lane is

  there : slice_get s.works task ≡ Some w
  there = its_there start s events m running task o k lane is

  none : kept_job w (share w task events) (act.Send o k) ≡ None
  none = first.none_kept w there

  pub in_slots : task < length mv.slots
  in_slots = slots_within start s events m running task o k lane is mv first.sent.follows first.sent.steady

  place : task < length m.steps
  place = place_within start s events m running task w there
      (its_at start s events m running task o k lane is).steps.count

  pub in_steps : task < length steps
  in_steps = subst (λ (xs : List (Option SeenSteps)). task < length xs) (sym first.steps_are) place

  pub still_has_tags : o ≡ op.Complete → is_some (slot_tags (state_at mv task)) ≡ true
  still_has_tags joins =
      tags_there start s events m running task o k lane is mv first.sent.follows first.sent.steady none joins

  -- the jobs of its task
  abbrev jobs : (j : SeenSteps) × (get_or m.steps task None ≡ Some j)
      × HoldsShares (its_task start s events m running task o k lane is) w (share w task events) j
  jobs = its_jobs start s events m running task o k lane is

  here : get_or steps task None ≡ Some jobs.0
  here = ap (λ (xs : List (Option SeenSteps)). get_or xs task None) first.steps_are ∙ jobs.1

  module _ (given : Given) (by : IsGivenBy task o k part mv given) where
    going : IsGoing s (Sent task o k lane ∷ events) mv task w
    going = still_going start s events m running task o k lane is mv first.sent.follows first.sent.steady

    upload : given.upload ≡ upload_of (share w task (Sent task o k lane ∷ events))
    upload = by.upload s (Sent task o k lane ∷ events) w first.sent.follows going

    tags : HasTags w (share w task (Sent task o k lane ∷ events)) o given.etags
    tags = by.tags s (Sent task o k lane ∷ events) w first.sent.follows going

    part_is : IsPartFor o m.moves.parts.pool.room (held_at m.moves.parts.slots task k) given.part
    part_is = subst (λ (p : Option Part). IsPartFor o m.moves.parts.pool.room (held_at m.moves.parts.slots task k) p)
        (sym by.part_is) first.part_is

    size : (its_task start s events m running task o k lane is).size < 2 ^ 64
    size = first.size (its_task start s events m running task o k lane is)
        (in_plan start s events m running task o k lane is).1

    pub fits_place : CanForm (get_or steps task None) given
    fits_place = subst (λ (xs : List (Option SeenSteps)). CanForm (get_or xs task None) given) (sym first.steps_are)
        (can_form start s events m running task o k lane is mv first.sent.follows first.sent.steady none given by.id
        upload tags part_is size)

    module _ (job : SeenJob) (formed : (j : SeenSteps) → get_or steps task None ≡ Some j → IsFormed j given job) where
      its_first : IsFirst (its_task start s events m running task o k lane is) w s events task o k m job
      its_first = first_job start s events m running task o k lane is mv first.sent.follows first.sent.steady none given
          by.id upload tags part_is size job (formed jobs.0 here)

      pub formed_out : IsJobFor s events task o k m job
      formed_out of_task v found known =
          subst (λ (x : Work). IsHandedOut (kept_job x (share x task events) (act.Send o k)) of_task x s events task o k
          m job) (same_value (sym there ∙ known))
          (subst (λ (x : Option SeenJob). IsHandedOut x of_task w s events task o k m job) (sym none)
          (subst (λ (t : Task). IsFirst t w s events task o k m job)
          (same_value (sym (in_plan start s events m running task o k lane is).1 ∙ found)) its_first))

  -- its task holds the share of it no longer
  pub formed_runs : (given : Given) → given.id ≡ job_of task o k → (new : SeenMoves)
      → (Follows s (Sent task o k lane ∷ events) mv → Follows s (Sent task o k lane ∷ events) new)
      → new.parts ≡ mv.parts
      → ((n : ℕ) → (is_op o op.Complete && (task == n)) ≡ false → state_at new n ≡ state_at mv n)
      → (left : Option SeenSteps)
      → ((j : SeenSteps) → get_or steps task None ≡ Some j → IsSomeAnd left (IsTakenFor given.id.op given.id.number j))
      → IsRunning start s events (with m new (set steps task left) m.journal (due.Job task o k lane))
  formed_runs given id new stays parts others left took =
      subst (λ (xs : List (Option SeenSteps)). IsRunning start s events
      (with m new (set xs task left) m.journal (due.Job task o k lane))) (sym first.steps_are)
      (first_runs start s events m running task o k lane is mv first.sent.follows first.sent.steady none new
      (stays first.sent.follows) parts others (set m.steps task left) (set_at_one task m.steps left place)
      (subst (λ (x : Option SeenSteps). IsSomeAnd x (IsTakenFor o k jobs.0)) (sym (set_here task m.steps left place))
      (subst (λ (j : JobId). IsSomeAnd left (IsTakenFor j.op j.number jobs.0)) id (took jobs.0 here))))
