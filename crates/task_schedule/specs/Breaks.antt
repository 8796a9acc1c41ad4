-- Runs that break one premise of the law on shares and no other.
use Rattle.std.specs.Prelude.{[], ◌∷◌, ◌≡◌, ◌≢◌, ℕ, true, List, Some, Contains, IsPermutation, IsSome, slice_get}
use Rattle.jobs.specs.Holders.{Holder}
use Rattle.jobs.specs.Jobs.{IsAskOf}
use Rattle.jobs.specs.declared.what.What.{What}
use Rattle.manager_moves.specs.Examples.{put_out, shared, upload}
use Rattle.manager_moves.specs.Laws.{IsRun}
use Rattle.manager_moves.specs.Runs.{Called, Events, Made, Sent, Shared, Stopped, share}
use Rattle.job_terms.specs.Dispatches.{Dispatched}
use Rattle.run_promise.specs.Schedule.{Setting}
use Rattle.job_terms.specs.Jobs.{job_of}
use Rattle.s3_model.specs.declared.bytes.Part.{Part}
use Rattle.s3_model.specs.declared.outcomes.Reason.TheVariants as reason_of
use Rattle.s3_model.specs.declared.requests.Op.{Op}
use Rattle.s3_model.specs.declared.requests.Op.TheVariants as op
use Rattle.task_acts.specs.declared.acts.Act.TheVariants as act
use Rattle.task_acts.specs.declared.acts.FileCame.TheVariants as file
use Rattle.task_acts.specs.declared.work.Work.{Work}
use Rattle.task_acts.specs.Ends.{outcome_of}
use Rattle.kept_jobs.specs.Steps.{IsStepOf}
use Rattle.task_schedule.specs.Journals.{AreAsked, AreSent, AreWorks, ComeInOrder, IsRunOf, KeepsSchedule}
use Rattle.task_schedule.specs.Journals.{TellsCancels, TellsFailures, TellsWhere}
use Rattle.task_schedule.specs.Witness.{ShowsStored, open_put, put_back, put_run, read_run, sized_put, small_put}
use Rattle.task_schedule.specs.Witness.{small_setting, small_task}

-- the premises, one for each field of `IsRunOf`
pub data Premise : Type 0 where
  Run : Premise
  Works : Premise
  Jobs : Premise
  Asks : Premise
  Ends : Premise
  Coming : Premise
  Order : Premise
  Cancels : Premise
  Place : Premise
  Failures : Premise

-- a run, what its setting tells of it, and its dispatches as they were given and as they came
pub record Example : Type 0 where
  pub given : Shared
  pub setting : Setting
  pub events : Events
  pub dispatched : List Dispatched
  pub coming : List Dispatched

module _ (e : Example) where
  -- what a premise says of it
  abbrev pub Says : Premise → Type 0
  Says Run = IsRun e.given e.events
  Says Works = AreWorks e.setting e.given.works
  Says Jobs = AreSent ShowsStored 0 e.events e.dispatched
  Says Asks = AreAsked e.given e.setting 0 e.events e.dispatched
  Says Ends = (n number lane : ℕ) (w : Work) (of_op : Op) → slice_get e.given.works n ≡ Some w
      → Contains e.events (Sent n of_op number lane) → IsSome (outcome_of w (share w n e.events))
  Says Coming = IsPermutation e.dispatched e.coming
  Says Order = ComeInOrder e.coming
  Says Cancels = TellsCancels e.setting e.events
  Says Place = TellsWhere e.setting 0 e.events
  Says Failures = TellsFailures e.given e.setting e.events

  -- the premises together are what the law takes
  abbrev pub PremisesAreAll : Type 0
  PremisesAreAll =
      (((p : Premise) → Says p) → IsRunOf ShowsStored e.given e.setting 0 e.events e.dispatched e.coming)
      × (IsRunOf ShowsStored e.given e.setting 0 e.events e.dispatched e.coming → (p : Premise) → Says p)

  -- every premise holds but this one
  abbrev pub BreaksAlone : Premise → Type 0
  BreaksAlone broken = ((p : Premise) → p ≢ broken → Says p) × ¬ (Says broken)

module _ (for : What) (cell : Holder) (part : Part) where
  -- the run of one small upload
  abbrev pub stored_once : Example
  stored_once = record {
    given = shared (upload ∷ []) 1 1 1;
    setting = small_setting;
    events = put_run for cell part;
    dispatched = small_put ∷ [];
    coming = small_put ∷ [];
  }

  -- its lane takes no job
  abbrev pub without_room : Example
  without_room = record stored_once { given = record (shared (upload ∷ []) 1 1 1) { depth = 0 } }

  -- there is a second task
  abbrev pub without_work : Example
  without_work = record stored_once { setting = record small_setting { tasks = small_task ∷ small_task ∷ [] } }

  -- the Put is no dispatch
  abbrev pub without_dispatch : Example
  without_dispatch = record stored_once { dispatched = []; coming = [] }

  -- the dispatch says another size
  abbrev pub other_size : Example
  other_size = record stored_once { dispatched = sized_put 6 ∷ []; coming = sized_put 6 ∷ [] }

  -- the Put is still out
  abbrev pub put_still_out : Example
  put_still_out = record stored_once {
    events = put_out for cell part 0 0 (Made true ∷ []);
    dispatched = open_put ∷ [];
    coming = open_put ∷ [];
  }

  -- the Put is left out of what came
  abbrev pub without_coming : Example
  without_coming = record stored_once { coming = [] }

  -- it was cancelled, and the setting tells of no cancel
  abbrev pub untold_cancel : Example
  untold_cancel = record stored_once { events = Stopped reason_of.OutputFailed ∷ put_back for cell part }

  -- the setting tells of a cancel before the first job, and there was none
  abbrev pub told_cancel : Example
  told_cancel = record stored_once { setting = record small_setting { cancelled_at = Some 0 } }

  -- the file was too short, and the setting tells of no failed call
  abbrev pub untold_failure : Example
  untold_failure = record stored_once {
    events = Called 0 (act.Read 0) file.Short ∷ Made true ∷ [];
    dispatched = [];
    coming = [];
  }

  pub record BreakAlone : Type 0 where
    pub run : BreaksAlone without_room Run
    pub works : BreaksAlone without_work Works
    pub jobs : BreaksAlone without_dispatch Jobs
    pub asks : BreaksAlone other_size Asks
    pub ends : BreaksAlone put_still_out Ends
    pub coming : BreaksAlone without_coming Coming
    pub cancels : BreaksAlone untold_cancel Cancels
    pub place : BreaksAlone told_cancel Place
    pub failures : BreaksAlone untold_failure Failures
    -- without the place of the cancel a Put would be given after it
    pub late : ¬ (KeepsSchedule ShowsStored told_cancel.setting told_cancel.dispatched told_cancel.coming)

-- Whatever a job keeps of its task, its cell and its part. Two dispatches are needed to come in another order.
abbrev pub EachBreaksAlone : Type 0
EachBreaksAlone = ((e : Example) → PremisesAreAll e)
    × ((for : What) (cell : Holder) (part : Part)
    → IsStepOf small_task upload (share upload 0 read_run) op.Put 0 for
    → IsAskOf (job_of 0 op.Put 0) for small_put.ask → BreakAlone for cell part)
