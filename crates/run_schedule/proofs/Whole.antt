-- A run that came to its end keeps to the schedule.
use Rattle.std.proofs.Common.{◌≡◌, ℕ, Bool, true, false, List, Option, Some, Contains, refl, sym, slice_get, length}
use Rattle.std.specs.Prelude.{IsSome, is_some, nat_lt, if◌then◌else◌, None}
use Rattle.manager_moves.specs.Runs.{Events, Sent, Shared, lacks_memory, made_count, share}
use Rattle.run_progress.proofs.Progress.{tasks_have_ended}
use Rattle.run_progress.proofs.Waiting.{is_waiting, memory_waits}
use Rattle.job_terms.specs.Dispatches.{Dispatched}
use Rattle.run_promise.specs.Schedule.{Setting}
use Rattle.s3_model.specs.Talks.{Note, Talk}
use Rattle.s3_model.specs.declared.answers.Class.{Class}
use Rattle.s3_model.specs.declared.outcomes.Cause.TheVariants as cause
use Rattle.s3_model.specs.declared.outcomes.Event.{Event as Entry}
use Rattle.s3_model.specs.declared.outcomes.Outcome.{Outcome}
use Rattle.s3_model.specs.declared.outcomes.Outcome.TheVariants as outcome
use Rattle.s3_model.specs.declared.requests.Ask.{Ask}
use Rattle.s3_model.specs.declared.requests.Op.{Op}
use Rattle.shared_lemmas.proofs.Members.{has}
use Rattle.task_acts.specs.declared.acts.Act.TheVariants as act
use Rattle.task_acts.specs.declared.acts.Stage.{Stage}
use Rattle.task_acts.specs.declared.acts.Stage.TheVariants as at
use Rattle.task_acts.specs.declared.work.Work.{Work}
use Rattle.task_acts.specs.Ends.{outcome_of}
use Rattle.task_acts.specs.Stages.{stage}
use Rattle.task_progress.proofs.Begun.{has_begun}
use Rattle.task_progress.proofs.Endings.{no}
use Rattle.task_schedule.proofs.Failures.{shares_keep_schedule}
use Rattle.task_schedule.proofs.SentJobs.{sent_begun}
use Rattle.task_schedule.specs.Journals.{IsRunOf}
use Rattle.run_schedule.proofs.Sent.{journals_show_sent}
use Rattle.run_schedule.specs.Runs.{IsWholeRun, RunsKeepSchedule}

waits_not : (how : Stage) → has_begun how ≡ true → is_waiting how ≡ true → false ≡ true
waits_not at.Waiting b e = b
waits_not how b e = e

-- an outcome that is not for want of memory is that of the share
by_share : (made lacks : Bool) (of_share : Option Outcome) → lacks ≡ false → is_some (if made then (if lacks then Some (outcome.Failed cause.Memory) else of_share) else None) ≡ true → is_some of_share ≡ true
by_share true true x e f = no (sym e)
by_share true false x e f = f
by_share false l x e f = no f

module _ (Shows : Ask → ℕ → Talk → Class → List ℕ → Type 0) (request_text : Ask → List ℕ → ℕ → List ℕ) (host : List ℕ) (port : ℕ) (s : Shared) (setting : Setting) (planning : List Entry) (events : Events)
    (logs : ℕ → List Talk) (notes : ℕ → List Note) (dispatched coming : List Dispatched) (r : IsWholeRun Shows request_text host port s setting planning events logs notes dispatched coming) where
  ended : (n k lane : ℕ) (w : Work) (o : Op) → slice_get s.works n ≡ Some w → Contains events (Sent n o k lane) → IsSome (outcome_of w (share w n events))
  ended n k lane w o of_plan known = by (lacks_memory n events) refl
    where
      by : (b : Bool) → lacks_memory n events ≡ b → IsSome (outcome_of w (share w n events))
      by true e = no (waits_not (stage w (share w n events) (act.Send o k)) (sent_begun events n k lane w o (has events (Sent n o k lane) known)) (memory_waits s n w of_plan (act.Send o k) events r.run e))
      by false e = by_share (nat_lt n (made_count events)) (lacks_memory n events) (outcome_of w (share w n events)) e (tasks_have_ended s events n w r.means r.run r.end of_plan)

  pub is_run_of : IsRunOf Shows s setting (length planning) events dispatched coming
  is_run_of = record {
    run = r.run;
    works = r.works;
    sent = journals_show_sent Shows request_text host port setting planning events logs notes dispatched coming r.journaled;
    asked = r.asked;
    ended = ended;
    is_coming = r.is_coming;
    in_order = r.in_order;
    cancelled = r.cancelled;
    cancelled_at = r.cancelled_at;
    files = r.files;
  }

pub runs_keep_schedule : (Shows : Ask → ℕ → Talk → Class → List ℕ → Type 0) → RunsKeepSchedule Shows
runs_keep_schedule Shows request_text host port s setting planning events logs notes dispatched coming one r =
    shares_keep_schedule Shows s setting (length planning) events dispatched coming one (is_run_of Shows request_text host port s setting planning events logs notes dispatched coming r)
