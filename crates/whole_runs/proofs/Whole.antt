-- A run at its end, whose jobs were carried, is a whole run, and keeps to the schedule.
use Rattle.std.proofs.Common.{ℕ, List, length}
use Rattle.job_terms.specs.Dispatches.{Dispatched}
use Rattle.run_schedule.proofs.Scheduled.{runs_are_scheduled}
use Rattle.run_schedule.proofs.Whole.{runs_keep_schedule}
use Rattle.s3_model.specs.Talks.{Talk}
use Rattle.s3_model.specs.declared.answers.Class.{Class}
use Rattle.s3_model.specs.declared.requests.Ask.{Ask}
use Rattle.whole_runs.proofs.Asked.{jobs_are_asked}
use Rattle.whole_runs.proofs.Cancels.{places_tell_cancels}
use Rattle.whole_runs.specs.Ended.{RunsAreWhole, RunsKeepWholeSchedule, TasksKeepSchedule}

module _ (Shows : Ask → ℕ → Talk → Class → List ℕ → Type 0) where
  pub runs_are_whole : RunsAreWhole Shows
  runs_are_whole request_text host port s setting planning events logs notes jobs dispatched coming r =
      let told = places_tell_cancels setting (length planning) events r.shown.cancelled_at in
      record {
        means = r.ended.means;
        run = r.ended.run;
        end = r.ended.end;
        works = r.ended.works;
        journaled = r.shown.journaled;
        asked = jobs_are_asked s setting (length planning) events jobs dispatched r.ended.run r.handed r.shown.come
            r.shown.asked;
        is_coming = r.shown.is_coming;
        in_order = r.shown.in_order;
        cancelled = told.0;
        cancelled_at = told.1;
        files = r.shown.files;
      }

  pub tasks_keep_schedule : TasksKeepSchedule Shows
  tasks_keep_schedule request_text host port s setting planning events logs notes jobs dispatched coming one r =
      runs_keep_schedule Shows request_text host port s setting planning events logs notes dispatched coming one
      (runs_are_whole request_text host port s setting planning events logs notes jobs dispatched coming r)

  pub runs_keep_whole_schedule : (Plans : List Dispatched → Type 0) → RunsKeepWholeSchedule Shows Plans
  runs_keep_whole_schedule Plans request_text host port s setting planning events logs notes jobs dispatched coming
      one r plan = runs_are_scheduled Shows Plans request_text host port s setting planning events logs notes
      dispatched coming one
      (runs_are_whole request_text host port s setting planning events logs notes jobs dispatched coming r) plan
