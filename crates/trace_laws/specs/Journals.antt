-- The dispatches that the journal of a trace shows, with the talks of its wires.
use Rattle.std.specs.Arc.{arc_value}
use Rattle.std.specs.Prelude.{◌≡◌, ◌≢◌, ◌++◌, ◌∷◌, ℕ, List, Option, Some, Contains, IfSome, IsPermutation, length, map}
use Rattle.answer_classes.specs.Showing.{Shows}
use Rattle.attempts.specs.Attempts.{IsGet}
use Rattle.job_terms.specs.Dispatches.{Attempt, Dispatch, Dispatched}
use Rattle.jobs.specs.Endings.{SeenCarried}
use Rattle.jobs.specs.Jobs.{SeenJob, bytes_of}
use Rattle.jobs.specs.declared.ending.Ending.TheVariants as ending
use Rattle.jobs.specs.declared.what.What.{What}
use Rattle.jobs.specs.declared.what.What.TheVariants as what
use Rattle.lane_jobs.specs.Lanes.{IsCarriedBy, IsSameJob, SeenCarrier, SeenLane, reason_of}
use Rattle.lane_journals.specs.Journals.{AreOfLanes, IsOfLanes}
use Rattle.lane_laws.specs.Runs.{Giving, HaveCauses, IsJournal, dispatched_of}
use Rattle.run_promise.specs.Schedule.{Setting}
use Rattle.run_traces.specs.Plannings.{IsPlannedFirst}
use Rattle.run_traces.specs.Traces.{Gave, RunTrace, Took, events_of, journal_of}
use Rattle.s3_model.specs.declared.answers.Class.TheVariants as class
use Rattle.s3_model.specs.declared.answers.Reply.{Reply}
use Rattle.s3_model.specs.declared.outcomes.Reason.{Reason}
use Rattle.s3_model.specs.Talks.{Note, Talk, WireLog}
use Rattle.task_schedule.specs.Journals.{ComeInOrder, ShowsLast}
use Rattle.whole_runs.specs.Carried.{IsDispatchOf}
use Rattle.trace_laws.specs.Joined.{HaveGained, IsJoined}

-- ---- one dispatch

-- the job went to the lane of the dispatch and came back from it, at its places, with its marks
pub record StandsIn (trace : RunTrace) (d : Dispatch) (job : SeenJob) (carried : SeenCarried) : Type 0 where
  pub later : RunTrace
  pub between : RunTrace
  pub before : RunTrace
  pub is : trace ≡ later ++ Took d.lane carried ∷ (between ++ Gave d.lane job ∷ before)
  pub given_at : d.given_at ≡ length (journal_of before)
  pub came_at : d.came_at ≡ Some (length (journal_of (between ++ Gave d.lane job ∷ before)))
  pub earlier : d.earlier ≡ job.had
  pub marks : map (λ (attempt : Attempt). attempt.mark) d.attempts ≡ carried.tries

-- the size of the source of its task; a job of the planning has none
abbrev pub size_of : What → ℕ
size_of (what.Plan planned) = 0
size_of (what.Step task range upload etags) = (arc_value task).size

-- a reason that stopped the job is one that its cell gave, and memory did not run out
abbrev pub IsReasonOf : SeenCarried → Option Reason → Type 0
IsReasonOf carried gave =
    IfSome gave (λ reason. (reason_of carried.job.cell ≡ Some reason) × (carried.ending ≢ ending.Memory))

-- the part of a Get that succeeded has the body that its last talk shows
abbrev pub BringsBody : Dispatched → SeenCarried → Type 0
BringsBody c carried = (said : Reply) → carried.ending ≡ ending.Gained said → IsGet c.ask
    → (shown : ShowsLast Shows c (class.Success said)) × (shown.bytes ≡ bytes_of carried.job.part)

-- what the giving asks and how it ended, by what the carrier did
pub record TellsOf (carrier : SeenCarrier) (job : SeenJob) (carried : SeenCarried) (g : Giving) : Type 0 where
  pub was : Option WireLog
  pub now : Option WireLog
  pub by : IsCarriedBy carrier job was now carried
  pub same : IsSameJob job carried.job
  pub of_job : IsDispatchOf job by.asked g.of
  pub size : g.of.size ≡ size_of job.what
  pub classes : g.classes ≡ by.carries.classes
  pub ended : g.ended ≡ carried.ending
  pub gave : IsReasonOf carried g.gave
  pub brings : BringsBody g.of carried

-- the giving is of a job of the trace and its outcome
pub record IsGivingOf (carrier : SeenCarrier) (trace : RunTrace) (g : Giving) : Type 0 where
  pub job : SeenJob
  pub carried : SeenCarried
  pub stands : StandsIn trace g.of.dispatch job carried
  pub tells : TellsOf carrier job carried g

-- ---- all of them

-- These givings, in the order of their jobs, and these dispatches, in that of their completions, are what the journal
-- and the logs of the trace show.
pub record HasGivings (carrier : SeenCarrier) (s : Setting) (trace : RunTrace) (logs : ℕ → List Talk)
    (notes : ℕ → List Note) (givings : List Giving) (coming : List Dispatched) : Type 0 where
  pub each : (g : Giving) → Contains givings g → IsGivingOf carrier trace g
  pub journal : IsJournal s (journal_of trace) logs notes (dispatched_of givings)
  pub lanes : AreOfLanes carrier.endpoint carrier.keys carrier.attempts givings logs notes
  pub is_coming : IsPermutation (dispatched_of givings) coming
  pub in_order : ComeInOrder coming

module _ {W : Type 0} (seen : W → Option WireLog) where
  -- Where the wires of all lanes are seen, the trace has its givings, for any number of lanes, and in whatever order
  -- jobs of the planning and of tasks were given and came.
  abbrev pub TracesHaveGivings : Type 0
  TracesHaveGivings = (carrier : SeenCarrier) (s : Setting) (trace : RunTrace) (befores afters : List (SeenLane W))
      (logs : ℕ → List Talk) (notes : ℕ → List Note) → IsJoined seen carrier trace befores afters
      → HaveGained seen befores afters logs notes → s.lanes ≡ length befores
      → (givings : List Giving) × (coming : List Dispatched) × HasGivings carrier s trace logs notes givings coming

-- Where the planning came first, and what stopped its jobs is told, it is a run whose jobs lanes carried.
abbrev pub PlannedTracesAreOfLanes : Type 0
PlannedTracesAreOfLanes = (carrier : SeenCarrier) (s : Setting) (planning trace : RunTrace) (logs : ℕ → List Talk)
    (notes : ℕ → List Note) (givings : List Giving) (coming : List Dispatched) → IsPlannedFirst planning trace
    → HasGivings carrier s trace logs notes givings coming → carrier.attempts ≡ s.config.attempts
    → HaveCauses carrier.endpoint carrier.keys s givings coming
    → IsOfLanes carrier.endpoint carrier.keys s (journal_of planning) (events_of trace) logs notes givings coming
