-- Requests of the planning, one after the other through the first lane, and what came of each.
use Rattle.std.specs.Prelude.{◌≡◌, ◌⊎◌, ◌+◌, ◌≤◌, ◌++◌, [], ◌∷◌, ℕ, List, None, Result, Err, length}
use Rattle.bounded_executor.specs.Desk.{DeskState, all_out}
use Rattle.bounded_executor.specs.Exchange.{Exchange}
use Rattle.job_terms.specs.Ops.{op_of}
use Rattle.jobs.specs.Endings.{SeenCarried}
use Rattle.jobs.specs.Jobs.{SeenJob}
use Rattle.jobs.specs.declared.what.What.TheVariants as what
use Rattle.pending_jobs.specs.Pending.{SeenPendingJobs, out_of}
use Rattle.run_traces.specs.Exchanges.{AreExchangesOf, MayBeOf}
use Rattle.run_traces.specs.Traces.{Gave, RunTrace, Took, journal_of}
use Rattle.s3_model.specs.declared.answers.Reply.{Reply}
use Rattle.s3_model.specs.declared.outcomes.Event.{Event}
use Rattle.s3_model.specs.declared.requests.Ask.{Ask}
use Rattle.planning_questions.specs.Answers.{said_by}
use Rattle.planning_questions.specs.declared.halt.Halt.{Halt}
use Rattle.planning_questions.specs.declared.halt.Halt.TheVariants as halt

-- no job is out, and the first lane has room for one
pub record IsReadyToAsk {W : Type 0} (desk : DeskState W SeenJob SeenCarried) (pending : SeenPendingJobs) : Type 0 where
  pub lanes : 1 ≤ length desk.lanes
  pub depth : 1 ≤ desk.depth
  pub none_out : all_out desk ≡ 0
  pub pending_lanes : 1 ≤ length pending.lanes
  pub pending_depth : 1 ≤ pending.depth
  pub none_pending : out_of pending 0 ≡ []

-- ---- questions

-- a request of the planning, and what the first lane brought back of it
pub record Question : Type 0 where
  pub asked : Ask
  pub carried : SeenCarried

-- its job: of no task, with a number of its own, given this once, and not to be cancelled
abbrev pub question_job : (number : ℕ) → Ask → SeenJob
question_job number asked = record {
  id = record { task = None; op = op_of asked; number = number };
  what = what.Plan asked;
  part = None;
  cell = None;
  had = 0;
}

-- what was done for questions, numbered from there: each went to the first lane and came back before the next
abbrev pub trace_of : (number : ℕ) → List Question → RunTrace
trace_of number [] = []
trace_of number (q ∷ later) =
    trace_of (number + 1) later ++ Took 0 q.carried ∷ Gave 0 (question_job number q.asked) ∷ []

-- ---- what was done

-- how far a run has come: what was exchanged with each lane, and the journal
pub record Progress : Type 0 where
  pub lanes : List (Exchange SeenJob SeenCarried)
  pub journal : List Event

abbrev pub progress_of : {W : Type 0} → DeskState W SeenJob SeenCarried → List Event → Progress
progress_of desk journal = record { lanes = desk.lanes; journal = journal }

-- these steps more were made: behind whatever steps there were before
pub record GoesOnBy (steps : RunTrace) (before after : Progress) : Type 0 where
  pub exchanged : (trace : RunTrace) → AreExchangesOf trace before.lanes → AreExchangesOf (steps ++ trace) after.lanes
  pub journaled : after.journal ≡ before.journal ++ journal_of steps

-- questions were asked, numbered from `first` up to below `next`, and nothing else was done; `ComesTo` holds of them
pub record HasQuestions (first next : ℕ) (before after : Progress) (ComesTo : List Question → Type 0) : Type 0 where
  pub questions : List Question
  pub made : GoesOnBy (trace_of first questions) before after
  pub next_is : next ≡ first + length questions
  pub comes_to : ComesTo questions

-- ---- one question

-- what came back may be the job of that number, and says this; or it cannot be
abbrev pub Answers : (number : ℕ) → Question → Result Reply Halt → Type 0
Answers number q result =
    (MayBeOf (question_job number q.asked) q.carried × (result ≡ said_by (op_of q.asked) q.carried.ending))
    ⊎ ((¬ (MayBeOf (question_job number q.asked) q.carried)) × (result ≡ Err halt.Stranger))

-- this was asked once, with that number, and answered so; or memory ran out before that
abbrev pub AsksOnce : (number : ℕ) → Ask → List Question → Result Reply Halt → Type 0
AsksOnce number asked [] result = result ≡ Err halt.Memory
AsksOnce number asked (q ∷ later) result = (q.asked ≡ asked) × (later ≡ []) × Answers number q result
