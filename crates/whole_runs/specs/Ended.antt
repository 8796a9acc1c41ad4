-- A run that came to its end, and what its lanes, its files and its setting still show.
use Rattle.std.specs.Option.{option_or}
use Rattle.std.specs.Prelude.{◌≡◌, ◌++◌, [], ◌∷◌, ℕ, List, Option, Some, None, Contains, IsPermutation, IsSome}
use Rattle.std.specs.Prelude.{length, slice_get}
use Rattle.job_terms.specs.Dispatches.{Dispatched}
use Rattle.job_terms.specs.Jobs.{job_of}
use Rattle.jobs.specs.Endings.{SeenCarried}
use Rattle.manager_moves.specs.Lanes.{jobs_in}
use Rattle.manager_moves.specs.Laws.{IsRun}
use Rattle.manager_moves.specs.Moves.{next_move}
use Rattle.manager_moves.specs.Runs.{Back, Events, Sent, Shared, Stopped, journal_of, lined_count, made_count}
use Rattle.manager_moves.specs.Runs.{outcome_in}
use Rattle.manager_moves.specs.declared.moves.Move.TheVariants as move
use Rattle.run_progress.specs.RunProgress.{HasMeans}
use Rattle.run_promise.specs.Schedule.{IsSchedule, Setting}
use Rattle.run_schedule.specs.Runs.{IsJournaled, IsWholeRun, KeepsPlanning}
use Rattle.s3_model.specs.Talks.{Note, Talk}
use Rattle.s3_model.specs.declared.answers.Class.{Class}
use Rattle.s3_model.specs.declared.outcomes.Event.{Event as Entry}
use Rattle.s3_model.specs.declared.outcomes.Event.TheVariants as entry
use Rattle.s3_model.specs.declared.outcomes.JobId.{JobId}
use Rattle.s3_model.specs.declared.requests.Ask.{Ask}
use Rattle.s3_model.specs.declared.requests.Op.{Op}
use Rattle.s3_model.specs.declared.tries.Mark.{Mark}
use Rattle.task_acts.specs.declared.work.Work.{Work}
use Rattle.task_schedule.specs.Journals.{AreWorks, ComeInOrder, KeepsSchedule, ShowOne, TellsCancels, TellsFailures}
use Rattle.task_schedule.specs.Journals.{TellsWhere, place_after}
use Rattle.whole_runs.specs.Given.{AreAskedBy, AreHandedOut, ComeAsGiven, Jobs}

-- ---- the end

-- The rule ends the run, which has all that it needs, and the works are those of its setting.
pub record IsAtEnd (s : Shared) (setting : Setting) (events : Events) : Type 0 where
  pub means : HasMeans s
  pub run : IsRun s events
  pub end : next_move s events ≡ move.End
  pub works : AreWorks setting s.works

-- each job that was sent came back from its lane
abbrev pub EachComes : Events → Type 0
EachComes events = (later before : Events) (n number lane : ℕ) (of_op : Op)
    → events ≡ later ++ Sent n of_op number lane ∷ before → (newer : Events) × (between : Events)
    × (carried : SeenCarried) × (later ≡ newer ++ Back lane carried ∷ between)
    × (carried.job.id ≡ job_of n of_op number)

-- each job that the journal has as given stands in it further on as one that came from that lane
abbrev pub EachGivenComes : List Entry → Type 0
EachGivenComes journal = (front rest : List Entry) (job : JobId) (lane : ℕ)
    → journal ≡ front ++ entry.Given job lane ∷ rest → (tries : List Mark)
    × Contains rest (entry.Came job lane tries)

-- Each task was made, has its outcome, and its line was due; no job is out, and each that was sent came back.
pub record IsRunOver (s : Shared) (events : Events) : Type 0 where
  pub made : made_count events ≡ length s.works
  pub lined : lined_count events ≡ length s.works
  pub outcomes : (n : ℕ) (w : Work) → slice_get s.works n ≡ Some w → IsSome (outcome_in w n events)
  pub lanes : (lane : ℕ) → jobs_in lane events ≡ []
  pub come : EachComes events
  pub journal : EachGivenComes (journal_of events)

abbrev pub RunsEndOver : Type 0
RunsEndOver = (s : Shared) (events : Events) → HasMeans s → IsRun s events → next_move s events ≡ move.End
    → IsRunOver s events

-- ---- cancels

-- how many entries the journal had when the run was cancelled first
abbrev pub cancel_place : (planned : ℕ) → Events → Option ℕ
cancel_place planned [] = None
cancel_place planned (Stopped reason ∷ before) =
    option_or (cancel_place planned before) (Some (place_after planned before))
cancel_place planned (event ∷ before) = cancel_place planned before

-- a setting that has this place tells whether and where the run was cancelled
abbrev pub PlacesTellCancels : Type 0
PlacesTellCancels = (setting : Setting) (planned : ℕ) (events : Events)
    → setting.cancelled_at ≡ cancel_place planned events
    → TellsCancels setting events × TellsWhere setting planned events

-- ---- the schedule

-- `Shows ask limit talk class bytes`: the talk has that class for the ask, and its answer that body;
-- `request_text ask body moment`: the text of a request, signed at that moment
module _ (Shows : Ask → ℕ → Talk → Class → List ℕ → Type 0) where
  module _ (request_text : Ask → List ℕ → ℕ → List ℕ) (host : List ℕ) (port : ℕ) where
    -- What lanes and logs show of the jobs that were given, and what the setting tells of cancels and files.
    pub record IsShownByLanes (s : Shared) (setting : Setting) (planning : List Entry) (events : Events)
        (logs : ℕ → List Talk) (notes : ℕ → List Note) (jobs : Jobs) (dispatched coming : List Dispatched)
        : Type 0 where
      pub journaled : IsJournaled Shows request_text host port setting planning events logs notes dispatched coming
      pub come : ComeAsGiven events jobs
      pub asked : AreAskedBy s setting (length planning) events jobs dispatched
      pub is_coming : IsPermutation dispatched coming
      pub in_order : ComeInOrder coming
      pub cancelled_at : setting.cancelled_at ≡ cancel_place (length planning) events
      pub files : TellsFailures s setting events

    -- A run at its end, whose jobs were handed out as its tasks say, and were carried so.
    pub record IsCarriedRun (s : Shared) (setting : Setting) (planning : List Entry) (events : Events)
        (logs : ℕ → List Talk) (notes : ℕ → List Note) (jobs : Jobs) (dispatched coming : List Dispatched)
        : Type 0 where
      pub ended : IsAtEnd s setting events
      pub handed : AreHandedOut s setting.tasks events jobs
      pub shown : IsShownByLanes s setting planning events logs notes jobs dispatched coming

  -- It is a whole run.
  abbrev pub RunsAreWhole : Type 0
  RunsAreWhole = (request_text : Ask → List ℕ → ℕ → List ℕ) (host : List ℕ) (port : ℕ) (s : Shared)
      (setting : Setting) (planning : List Entry) (events : Events) (logs : ℕ → List Talk) (notes : ℕ → List Note)
      (jobs : Jobs) (dispatched coming : List Dispatched)
      → IsCarriedRun request_text host port s setting planning events logs notes jobs dispatched coming
      → IsWholeRun Shows request_text host port s setting planning events logs notes dispatched coming

  -- So its tasks keep to the schedule.
  abbrev pub TasksKeepSchedule : Type 0
  TasksKeepSchedule = (request_text : Ask → List ℕ → ℕ → List ℕ) (host : List ℕ) (port : ℕ) (s : Shared)
      (setting : Setting) (planning : List Entry) (events : Events) (logs : ℕ → List Talk) (notes : ℕ → List Note)
      (jobs : Jobs) (dispatched coming : List Dispatched) → ShowOne Shows
      → IsCarriedRun request_text host port s setting planning events logs notes jobs dispatched coming
      → KeepsSchedule Shows setting dispatched coming

  -- And with a planning that keeps to it, the whole run does.
  abbrev pub RunsKeepWholeSchedule : (Plans : List Dispatched → Type 0) → Type 0
  RunsKeepWholeSchedule Plans = (request_text : Ask → List ℕ → ℕ → List ℕ) (host : List ℕ) (port : ℕ) (s : Shared)
      (setting : Setting) (planning : List Entry) (events : Events) (logs : ℕ → List Talk) (notes : ℕ → List Note)
      (jobs : Jobs) (dispatched coming : List Dispatched) → ShowOne Shows
      → IsCarriedRun request_text host port s setting planning events logs notes jobs dispatched coming
      → KeepsPlanning Shows setting Plans dispatched → IsSchedule Shows setting Plans dispatched coming
