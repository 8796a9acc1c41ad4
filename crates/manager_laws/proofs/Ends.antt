-- A manager's run at its end is one that the schedule takes.
use Rattle.std.proofs.Common.{◌≡◌, ◌∙◌, ℕ, Bool, false, true, List, Option, Some, None, refl, sym, subst, ap, arith, slice_get}
use Rattle.job_terms.specs.Buffers.{KeepsBuffers}
use Rattle.job_terms.specs.Dispatches.{Dispatched}
use Rattle.jobs.specs.Jobs.{SeenJob}
use Rattle.manager_core.proofs.OneWork.{work_at, works_count}
use Rattle.manager_core.proofs.ReadyJobs.{there_is}
use Rattle.manager_core.specs.Formed.{IsHandedOut}
use Rattle.manager_core.specs.Kept.{SeenManager}
use Rattle.manager_core.specs.Running.{IsAt, IsRunning, Start}
use Rattle.manager_core.specs.declared.due.Due.{Due}
use Rattle.manager_core.specs.declared.due.Due.TheVariants as due
use Rattle.manager_core.specs.Due.{told}
use Rattle.manager_moves.specs.Laws.{IsRun}
use Rattle.manager_moves.specs.Runs.{Events, Shared, share}
use Rattle.run_needs.proofs.MoveCounts.{runs_are_finite}
use Rattle.run_needs.specs.Needs.{AreWorksOf}
use Rattle.run_promise.specs.Schedule.{Setting}
use Rattle.run_steps.proofs.Settling.{slice_within}
use Rattle.s3_model.specs.Talks.{Note, Talk}
use Rattle.s3_model.specs.declared.answers.Class.{Class}
use Rattle.s3_model.specs.declared.outcomes.Event.{Event as Entry}
use Rattle.s3_model.specs.declared.places.Place.{Place}
use Rattle.s3_model.specs.declared.places.Place.TheVariants as place
use Rattle.s3_model.specs.declared.requests.Ask.{Ask}
use Rattle.s3_model.specs.declared.requests.Op.{Op}
use Rattle.s3_model.specs.declared.settings.Config.{Config}
use Rattle.s3_model.specs.declared.settings.Limits.{Limits}
use Rattle.s3_model.specs.declared.tasks.Kind.{Kind}
use Rattle.s3_model.specs.declared.tasks.Kind.TheVariants as kind
use Rattle.s3_model.specs.declared.tasks.Plan.{Plan}
use Rattle.s3_model.specs.declared.tasks.Task.{Task}
use Rattle.sync_plan.specs.Fit.{IsOfKind}
use Rattle.task_acts.specs.Kept.{kept_job}
use Rattle.task_acts.specs.declared.acts.Act.TheVariants as act
use Rattle.task_acts.specs.declared.work.Work.{Work}
use Rattle.task_schedule.specs.Journals.{AreWorks}
use Rattle.whole_runs.proofs.Buffers.{journals_keep_parts}
use Rattle.whole_runs.proofs.Over.{runs_end_over}
use Rattle.whole_runs.proofs.Whole.{runs_keep_whole_schedule, tasks_keep_schedule}
use Rattle.whole_runs.specs.Given.{IsKeptOrFormed, Jobs}
use Rattle.whole_runs.specs.Ended.{IsCarriedRun}
use Rattle.manager_laws.specs.Ends.{EndsAreWhole, IsRunOfManager, IsSettingOfRun, JobsAreHandedOut}
use Rattle.manager_laws.specs.Ends.{JournalsAreTold, ManagerKeepsSchedule, ManagerKeepsTasks}

-- ---- works

-- a removal moves nothing
removes_alone : (k : Kind) (source : Option Place) (dest : Place) (moves : Bool) → IsOfKind k source dest moves
    → k ≡ kind.RemoveObject → moves ≡ false
removes_alone kind.RemoveObject None (place.Object bucket key) false is e = refl
removes_alone kind.RemoveObject None (place.Object bucket key) true is e = absurd is
removes_alone kind.RemoveObject None (place.File path) moves is e = absurd is
removes_alone kind.RemoveObject (Some at) dest moves is e = absurd is
removes_alone kind.Upload source dest moves is e = cc
removes_alone kind.Download source dest moves is e = cc
removes_alone kind.Copy source dest moves is e = cc
removes_alone kind.RemoveFile source dest moves is e = cc

module _ (start : Start) (s : Shared) (events : Events) (m : SeenManager) (running : IsRunning start s events m) where
  run_so_far : IsRun s events
  run_so_far = by m.due running.state.run.run
    where
      by : (d : Due) → IsRun s (told d events) → IsRun s events
      by due.Free run = run
      by (due.Next moved) run = run
      by (due.Job n o k lane) run = run.1

  module _ (setting : Setting) (is : IsSettingOfRun start setting) where
    abbrev its_works : List Task → Config → Limits → Type 0
    its_works tasks config limits = AreWorksOf config limits tasks s.works

    tasks_are : m.plan.tasks.items ≡ setting.tasks
    tasks_are = ap (λ (p : Plan). p.tasks.items) running.given.plan_is ∙ sym is.tasks_are

    works_of : AreWorksOf setting.config setting.limits setting.tasks s.works
    works_of =
        subst (λ (ts : List Task). AreWorksOf setting.config setting.limits ts s.works) tasks_are
        (subst (λ (c : Config). AreWorksOf c setting.limits m.plan.tasks.items s.works)
        (running.given.config_is ∙ sym is.config_is)
        (subst (λ (l : Limits). AreWorksOf m.config l m.plan.tasks.items s.works)
        (running.given.limits_are ∙ sym is.limits_are) running.given.works))

    removals : (n : ℕ) (task : Task) → slice_get setting.tasks n ≡ Some task → task.kind ≡ kind.RemoveObject
        → task.moves ≡ false
    removals n task there = removes_alone task.kind task.source task.dest task.moves
        (running.given.plan.fit.kinds n task
        (subst (λ (ts : List Task). slice_get ts n ≡ Some task) (sym tasks_are) there))

    are_works : AreWorks setting s.works
    are_works = record {
      as_many = works_count setting.config setting.limits setting.tasks s.works works_of;
      each = λ n w of_plan.
          let count = works_count setting.config setting.limits setting.tasks s.works works_of in
          let below = slice_within s.works n w of_plan in
          let task = there_is setting.tasks n (omega (arith, below, count)) in (
            task.0,
            task.1,
            work_at setting.config setting.limits setting.tasks s.works n task.0 w works_of task.1 of_plan,
            running.given.means.pieces n w of_plan,
            removals n task.0 task.1,
          );
    }

pub ends_are_whole : EndsAreWhole
ends_are_whole start s events m setting ended is =
    let at = subst (λ (d : Due). IsAt d s events m) ended.is ended.running.state in
    let run = run_so_far start s events m ended.running in (
      record {
        means = ended.running.given.means;
        run = run;
        end = at.named;
        works = are_works start s events m ended.running setting is;
      },
      runs_end_over s events ended.running.given.means run at.named,
    )

pub journals_are_told : JournalsAreTold
journals_are_told start s events m running = record {
  journal = running.journal.items;
  parts = λ none. subst (λ (journal : List Entry). KeepsBuffers s.buffers journal) (sym running.journal.items)
      (journals_keep_parts s start.planning events running.given.means.lanes
      (run_so_far start s events m running) none);
  moves = runs_are_finite s events (run_so_far start s events m running);
}

-- ---- jobs

kept_or_formed : (kept : Option SeenJob) (task : Task) (w : Work) (s : Shared) (events : Events) (n : ℕ) (o : Op)
    (k : ℕ) (m : SeenManager) (job : SeenJob) → IsHandedOut kept task w s events n o k m job
    → IsKeptOrFormed kept task w (share w n events) o k job
kept_or_formed (Some kept) task w s events n o k m job is = is
kept_or_formed None task w s events n o k m job is = is.step

pub jobs_are_handed_out : JobsAreHandedOut
jobs_are_handed_out start s events jobs setting is of_manager later before n k lane o at task w of_task of_plan =
    let its = of_manager later before n k lane o at in
    kept_or_formed (kept_job w (share w n before) (act.Send o k)) task w s before n o k its.0 (jobs before)
    (its.2 task w (subst (λ (ts : List Task). slice_get ts n ≡ Some task)
    (sym (tasks_are start s before its.0 its.1 setting is)) of_task) of_plan)

-- ---- the schedule

module _ (Shows : Ask → ℕ → Talk → Class → List ℕ → Type 0) where
  module _ (request_text : Ask → List ℕ → ℕ → List ℕ) (host : List ℕ) (port : ℕ) (start : Start) (s : Shared)
      (setting : Setting) (events : Events) (m : SeenManager) (logs : ℕ → List Talk) (notes : ℕ → List Note)
      (jobs : Jobs) (dispatched coming : List Dispatched)
      (r : IsRunOfManager Shows request_text host port start s setting events m logs notes jobs dispatched coming)
    where
      carried_out : IsCarriedRun Shows request_text host port s setting start.planning events logs notes jobs dispatched
          coming
      carried_out = record {
        ended = (ends_are_whole start s events m setting r.ended r.setting_is).0;
        handed = jobs_are_handed_out start s events jobs setting r.setting_is r.jobs_are;
        shown = r.shown;
      }

  pub manager_keeps_tasks : ManagerKeepsTasks Shows
  manager_keeps_tasks request_text host port start s setting events m logs notes jobs dispatched coming one r =
      tasks_keep_schedule Shows request_text host port s setting start.planning events logs notes jobs dispatched
      coming one
      (carried_out request_text host port start s setting events m logs notes jobs dispatched coming r)

  pub manager_keeps_schedule : (Plans : List Dispatched → Type 0) → ManagerKeepsSchedule Shows Plans
  manager_keeps_schedule Plans request_text host port start s setting events m logs notes jobs dispatched coming one r
      plan = runs_keep_whole_schedule Shows Plans request_text host port s setting start.planning events logs notes
      jobs dispatched coming one
      (carried_out request_text host port start s setting events m logs notes jobs dispatched coming r) plan
