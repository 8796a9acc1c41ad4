-- The trace of a run goes on by the questions of its planning.
use Rattle.std.specs.Prelude.{◌≡◌, ◌⊎◌, ◌+◌, ◌≤◌, ◌++◌, ℕ, List, [], None, Result, Err, length}
use Rattle.list_walk.specs.Pages.{Walk}
use Rattle.run_traces.specs.Exchanges.{HasStranger}
use Rattle.run_traces.specs.Traces.{IsRunTrace, RunTrace, pending_in, tries_of}
use Rattle.s3_model.specs.declared.answers.Reply.{Reply}
use Rattle.s3_model.specs.declared.outcomes.JobId.{JobId}
use Rattle.s3_model.specs.declared.requests.Ask.{Ask}
use Rattle.planning_questions.specs.Listings.{Lists}
use Rattle.planning_questions.specs.Questions.{AsksOnce, Question, trace_of}
use Rattle.planning_questions.specs.declared.halt.Halt.{Halt}
use Rattle.planning_questions.specs.declared.halt.Halt.TheVariants as halt

-- every job that was given came back, and none of the planning with that number or a later one
pub record IsBetween (number : ℕ) (trace : RunTrace) : Type 0 where
  pub trace_is : IsRunTrace trace
  pub none_pending : (lane : ℕ) → pending_in lane trace ≡ []
  pub numbers_left : (id : JobId) → id.task ≡ None → number ≤ id.number → tries_of id trace ≡ 0

-- a lane brought a stranger at last, and nothing else is pending
pub record EndsInStranger (trace : RunTrace) : Type 0 where
  pub trace_is : IsRunTrace trace
  pub none_pending : (lane : ℕ) → pending_in lane trace ≡ []
  pub stranger : HasStranger trace

-- the run may go on from that number, or a stranger has ended it
abbrev pub GoesOnFrom : {X : Type 0} → (next : ℕ) → RunTrace → Result X Halt → Type 0
GoesOnFrom next trace result = IsBetween next trace ⊎ (EndsInStranger trace × (result ≡ Err halt.Stranger))

-- behind a trace with nothing pending, what a question or a listing did makes a trace again
abbrev pub QuestionsAreTraced : Type 0
QuestionsAreTraced = (number : ℕ) (asked : Ask) (questions : List Question) (result : Result Reply Halt)
    (trace : RunTrace) → AsksOnce number asked questions result → IsBetween number trace
    → GoesOnFrom (number + length questions) (trace_of number questions ++ trace) result

abbrev pub ListingsAreTraced : Type 0
ListingsAreTraced = (number : ℕ) (walk : Walk) (questions : List Question) (result : Result Walk Halt)
    (trace : RunTrace) → Lists number walk questions result → IsBetween number trace
    → GoesOnFrom (number + length questions) (trace_of number questions ++ trace) result
