-- A run at its end, with what its trace shows of the jobs that lanes carried, and what its setting tells of them.
use Rattle.std.specs.Prelude.{◌≡◌, ◌≢◌, ◌≤◌, ◌++◌, ◌∷◌, ℕ, true, List, Some, None, Contains, length}
use Rattle.std.specs.Prelude.{slice_get}
use Rattle.job_terms.specs.Dispatches.{Dispatched}
use Rattle.jobs.specs.Endings.{SeenCarried}
use Rattle.jobs.specs.Jobs.{SeenJob}
use Rattle.lane_jobs.specs.Lanes.{SeenCarrier}
use Rattle.lane_journals.specs.Journals.{IsOfLanes}
use Rattle.lane_laws.specs.Runs.{Giving, HaveCauses, RanOut, dispatched_of}
use Rattle.manager_moves.specs.Runs.{Events, Shared, outcome_in}
use Rattle.run_promise.specs.Schedule.{Setting}
use Rattle.run_promise.specs.Settled.{cause_of, is_memory}
use Rattle.run_traces.specs.Plannings.{IsPlannedFirst}
use Rattle.run_traces.specs.Traces.{Gave, RunTrace, Took, events_of, journal_of}
use Rattle.s3_model.specs.Talks.{Note, Talk}
use Rattle.s3_model.specs.declared.outcomes.Outcome.{Outcome}
use Rattle.task_acts.specs.declared.work.Work.{Work}
use Rattle.task_schedule.specs.Journals.{AreAsked, TellsCancels, TellsFailures, TellsWhere}
use Rattle.trace_laws.specs.Journals.{HasGivings}
use Rattle.whole_runs.specs.Ended.{IsAtEnd}

-- ---- the run

-- What a run was given, what was done in it, what its wires gained, and its jobs as they were given and as they came.
pub record TracedRun : Type 0 where
  pub carrier : SeenCarrier
  pub shared : Shared
  pub setting : Setting
  pub planning : RunTrace
  pub trace : RunTrace
  pub logs : ℕ → List Talk
  pub notes : ℕ → List Note
  pub givings : List Giving
  pub coming : List Dispatched

-- A job of the planning is given once, without a cell that could stop it.
pub record AsksOnce (trace : RunTrace) : Type 0 where
  pub plain : (lane : ℕ) (job : SeenJob) → Contains trace (Gave lane job) → job.id.task ≡ None
      → (job.cell ≡ None) × (job.had ≡ 0)
  pub once : (later before : RunTrace) (lane other : ℕ) (job first : SeenJob) → trace ≡ later ++ Gave lane job ∷ before
      → job.id.task ≡ None → Contains before (Gave other first) → first.id ≢ job.id

-- The run came to its end behind its planning, and what each of its jobs asks is what its task says.
pub record IsTracedRun (r : TracedRun) : Type 0 where
  pub first : IsPlannedFirst r.planning r.trace
  pub once : AsksOnce r.trace
  pub givings : HasGivings r.carrier r.setting r.trace r.logs r.notes r.givings r.coming
  pub attempts : r.carrier.attempts ≡ r.setting.config.attempts
  pub some_attempt : 1 ≤ r.setting.config.attempts
  pub ended : IsAtEnd r.shared r.setting (events_of r.trace)
  pub asked : AreAsked r.shared r.setting (length (journal_of r.planning)) (events_of r.trace) (dispatched_of r.givings)

-- ---- what the setting tells

-- that memory ran out for each task whose outcome says so
abbrev pub TellsMemory : Shared → Setting → Events → Type 0
TellsMemory s setting events = (n : ℕ) (w : Work) (how : Outcome) → slice_get s.works n ≡ Some w
    → outcome_in w n events ≡ Some how → is_memory (cause_of (Some how)) ≡ true
    → setting.wanted_memory (Some n) ≡ true

-- that it ran out for the planning, where it did for one of its jobs
abbrev pub TellsPlanning : Setting → RunTrace → Type 0
TellsPlanning setting trace = (lane : ℕ) (carried : SeenCarried) → Contains trace (Took lane carried)
    → carried.job.id.task ≡ None → RanOut carried.ending → setting.wanted_memory None ≡ true

-- whether and where the run was cancelled, and which failed tasks failed first by a call on files or for want of memory
pub record TellsStops (r : TracedRun) : Type 0 where
  pub cancelled : TellsCancels r.setting (events_of r.trace)
  pub cancelled_at : TellsWhere r.setting (length (journal_of r.planning)) (events_of r.trace)
  pub files : TellsFailures r.shared r.setting (events_of r.trace)

-- ---- the laws

-- What stopped the jobs of the run is told.
abbrev pub RunsHaveCauses : Type 0
RunsHaveCauses = (r : TracedRun) → IsTracedRun r → TellsStops r → TellsMemory r.shared r.setting (events_of r.trace)
    → TellsPlanning r.setting r.trace → HaveCauses r.carrier.endpoint r.carrier.keys r.setting r.givings r.coming

-- So it is a run whose jobs lanes carried.
abbrev pub RunsAreOfLanes : Type 0
RunsAreOfLanes = (r : TracedRun) → IsTracedRun r → TellsStops r → TellsMemory r.shared r.setting (events_of r.trace)
    → TellsPlanning r.setting r.trace
    → IsOfLanes r.carrier.endpoint r.carrier.keys r.setting (journal_of r.planning) (events_of r.trace) r.logs r.notes
    r.givings r.coming
