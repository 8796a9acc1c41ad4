-- What is known of a run that asked questions of its planning and nothing else, once its lanes are joined.
use Rattle.std.specs.Prelude.{◌≡◌, ◌<◌, ℕ, Bool, true, List, Option, None, Contains}
use Rattle.answer_classes.specs.Showing.{Shows}
use Rattle.attempts.specs.Attempts.{text_of}
use Rattle.job_terms.specs.Dispatches.{Dispatched}
use Rattle.lane_jobs.specs.Lanes.{SeenCarrier, SeenLane}
use Rattle.lane_laws.specs.Runs.{Giving, HaveCauses, RanOut, dispatched_of}
use Rattle.list_walk.specs.Pages.{IsRefusedPage}
use Rattle.run_promise.specs.Carried.{IsCarried}
use Rattle.run_promise.specs.Planning.{Need, PlansFor}
use Rattle.run_promise.specs.Schedule.{IsSchedule, Setting}
use Rattle.run_schedule.specs.Runs.{KeepsPlanning}
use Rattle.run_traces.specs.Plannings.{IsPlannedFirst}
use Rattle.run_traces.specs.Traces.{journal_of}
use Rattle.s3_model.specs.Talks.{Note, Talk, WireLog}
use Rattle.trace_laws.specs.Joined.{IsJoined}
use Rattle.trace_laws.specs.Journals.{HasGivings}
use Rattle.planning_laws.specs.Asking.{AskFor}
use Rattle.planning_questions.specs.Planned.{ShowQuestions}
use Rattle.planning_questions.specs.Questions.{Question, trace_of}

-- what the wires show of a run that asked these questions: by lane their talks and notes, and the givings of its jobs
pub record Course : Type 0 where
  pub questions : List Question
  pub logs : ℕ → List Talk
  pub notes : ℕ → List Note
  pub givings : List Giving
  pub coming : List Dispatched

-- Memory ran out for a question only where the setting tells so of the planning.
abbrev pub TellsWants : Setting → List Question → Type 0
TellsWants s questions =
    (q : Question) → Contains questions q → RanOut q.carried.ending → s.wanted_memory None ≡ true

-- `seen wire`: all that is seen of the wire, if it is
module _ {W : Type 0} (seen : W → Option WireLog) where
  -- its lanes were joined, and these are its givings
  pub record IsCourse (carrier : SeenCarrier) (s : Setting) (befores afters : List (SeenLane W)) (course : Course)
      : Type 0 where
    pub joined : IsJoined seen carrier (trace_of 0 course.questions) befores afters
    pub has_givings : HasGivings carrier s (trace_of 0 course.questions) course.logs course.notes course.givings
        course.coming

  -- Questions that ask for the needs, one after the other, behind the answers, and for nothing behind the first fault,
  -- keep to the schedule of a planning that those needs have. `wanting`: memory ran out in the planning.
  abbrev pub QuestionsKeepPlanning : Type 0
  QuestionsKeepPlanning = (carrier : SeenCarrier) (s : Setting) (befores afters : List (SeenLane W)) (course : Course)
      (needs : List Need) (wanting : Bool) (refused_page : Option ℕ) → IsCourse carrier s befores afters course
      → AskFor IsRefusedPage (wanting ≡ true) refused_page needs course.questions
      → KeepsPlanning Shows s (PlansFor Shows IsRefusedPage (wanting ≡ true) refused_page needs)
      (dispatched_of course.givings)

  -- The dispatches of the run are those of its questions, in order, and show a reply just where a question gained it.
  abbrev pub QuestionsAreShown : Type 0
  QuestionsAreShown = (carrier : SeenCarrier) (s : Setting) (befores afters : List (SeenLane W)) (course : Course)
      → IsCourse carrier s befores afters course
      → ShowQuestions Shows 0 course.questions (dispatched_of course.givings)

  -- Nothing stopped a question, and none was given again; where each job has an attempt, no other cause is owed.
  abbrev pub QuestionsHaveCauses : Type 0
  QuestionsHaveCauses = (carrier : SeenCarrier) (s : Setting) (befores afters : List (SeenLane W)) (course : Course)
      → IsCourse carrier s befores afters course → 0 < s.config.attempts → TellsWants s course.questions
      → HaveCauses carrier.endpoint carrier.keys s course.givings course.coming

  -- So the jobs of such a run are carried as the promise of a run says it, and its journal is that of the questions.
  abbrev pub QuestionsAreCarried : Type 0
  QuestionsAreCarried = (carrier : SeenCarrier) (s : Setting) (befores afters : List (SeenLane W)) (course : Course)
      → IsCourse carrier s befores afters course → 0 < s.config.attempts → carrier.attempts ≡ s.config.attempts
      → TellsWants s course.questions
      → IsCarried Shows (text_of carrier.endpoint carrier.keys) carrier.endpoint.host carrier.endpoint.port s
      (journal_of (trace_of 0 course.questions)) course.logs course.notes (dispatched_of course.givings) course.coming

  -- And they keep to the whole schedule, whatever tasks there are, since no job of a task was given.
  abbrev pub QuestionsAreScheduled : Type 0
  QuestionsAreScheduled = (carrier : SeenCarrier) (s : Setting) (befores afters : List (SeenLane W)) (course : Course)
      (needs : List Need) (wanting : Bool) (refused_page : Option ℕ) → IsCourse carrier s befores afters course
      → AskFor IsRefusedPage (wanting ≡ true) refused_page needs course.questions
      → IsSchedule Shows s (PlansFor Shows IsRefusedPage (wanting ≡ true) refused_page needs)
      (dispatched_of course.givings) course.coming

  -- Nothing but the planning was done, so that the laws of runs whose planning came first take the trace.
  abbrev pub QuestionsArePlannedFirst : Type 0
  QuestionsArePlannedFirst = (carrier : SeenCarrier) (questions : List Question) (befores afters : List (SeenLane W))
      → IsJoined seen carrier (trace_of 0 questions) befores afters
      → IsPlannedFirst (trace_of 0 questions) (trace_of 0 questions)
