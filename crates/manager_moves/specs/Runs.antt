-- What happened in a run of many tasks, and each task's share of it.
use Rattle.std.specs.Prelude.{◌+◌, ◌++◌, ◌==◌, [], ◌∷◌, ℕ, Bool, true, false, List, Option, Some, None, is_some, nat_lt, if◌then◌else◌}
use Rattle.jobs.specs.Endings.{SeenCarried}
use Rattle.job_terms.specs.Jobs.{job_of}
use Rattle.s3_model.specs.declared.outcomes.Cause.TheVariants as cause
use Rattle.s3_model.specs.declared.outcomes.Event.{Event as Entry}
use Rattle.s3_model.specs.declared.outcomes.Event.TheVariants as entry
use Rattle.s3_model.specs.declared.outcomes.Outcome.{Outcome}
use Rattle.s3_model.specs.declared.outcomes.Outcome.TheVariants as outcome
use Rattle.s3_model.specs.declared.outcomes.Reason.{Reason}
use Rattle.s3_model.specs.declared.requests.Op.{Op}
use Rattle.task_acts.specs.declared.acts.Act.{Act}
use Rattle.task_acts.specs.declared.acts.Act.TheVariants as act
use Rattle.task_acts.specs.declared.acts.FileCame.{FileCame}
use Rattle.task_acts.specs.declared.work.Work.{Work}
use Rattle.task_acts.specs.Ends.{outcome_of}
use Rattle.task_acts.specs.Histories.{History, Gave, Came, Returned, Cancelled, Taken}
use Rattle.task_acts.specs.Kept.{kept_job}

-- one thing that happened
pub data Event : Type 0 where
  -- the state of the next task was made, or memory ran out for it
  Made : (fits : Bool) → Event
  -- a job of a task went to a lane
  Sent : (task : ℕ) → (of_op : Op) → (number : ℕ) → (lane : ℕ) → Event
  -- a job came back from its lane
  Back : (lane : ℕ) → (carried : SeenCarried) → Event
  -- a call on files was made for a task
  Called : (task : ℕ) → (called : Act) → (result : FileCame) → Event
  -- the line of the next task was due, and was printed where the run prints such lines
  Lined : Event
  -- the run was cancelled
  Stopped : (reason : Reason) → Event

-- the newest first
abbrev pub Events : Type 0
Events = List Event

-- what a run is given: its tasks in their order, and what they share
pub record Shared : Type 0 where
  pub works : List Work
  -- how many lanes there are, and how many jobs each of them takes
  pub lanes : ℕ
  pub depth : ℕ
  -- how many tasks are made and unfinished at most
  pub queue : ℕ
  -- how many parts there are
  pub buffers : ℕ

-- ---- how far the run is

abbrev pub made_count : Events → ℕ
made_count [] = 0
made_count (Made fits ∷ before) = made_count before + 1
made_count (event ∷ before) = made_count before

abbrev pub lined_count : Events → ℕ
lined_count [] = 0
lined_count (Lined ∷ before) = lined_count before + 1
lined_count (event ∷ before) = lined_count before

-- memory ran out for that task as it was made
abbrev pub lacks_memory : ℕ → Events → Bool
lacks_memory n [] = false
lacks_memory n (Made false ∷ before) = if made_count before == n then true else lacks_memory n before
lacks_memory n (event ∷ before) = lacks_memory n before

-- ---- the journal

-- the jobs that were given and came, the oldest first
abbrev pub journal_of : Events → List Entry
journal_of [] = []
journal_of (Sent task of_op number lane ∷ before) = journal_of before ++ entry.Given (job_of task of_op number) lane ∷ []
journal_of (Back lane carried ∷ before) = journal_of before ++ entry.Came carried.job.id lane carried.tries ∷ []
journal_of (event ∷ before) = journal_of before

-- ---- one task's share

abbrev pub is_task : ℕ → Option ℕ → Bool
is_task n None = false
is_task n (Some task) = task == n

-- a job that was kept is taken to be given again
abbrev pub with_taken : Work → Op → ℕ → History → History
with_taken w of_op number history =
    if is_some (kept_job w history (act.Send of_op number)) then Taken of_op number ∷ history else history

-- what happened to that task
abbrev pub share : Work → ℕ → Events → History
share w n [] = []
share w n (Sent task of_op number lane ∷ before) =
    if task == n then Gave (act.Send of_op number) ∷ with_taken w of_op number (share w n before) else share w n before
share w n (Back lane carried ∷ before) =
    if is_task n carried.job.id.task then Came carried ∷ share w n before else share w n before
share w n (Called task called result ∷ before) =
    if task == n then Returned called result ∷ Gave called ∷ share w n before else share w n before
share w n (Stopped reason ∷ before) = Cancelled reason ∷ share w n before
share w n (Made fits ∷ before) = share w n before
share w n (Lined ∷ before) = share w n before

-- A task that was not made has no outcome, one that found no memory has failed, and any other ends by its share.
abbrev pub outcome_in : Work → ℕ → Events → Option Outcome
outcome_in w n events =
    if nat_lt n (made_count events)
    then (if lacks_memory n events then Some (outcome.Failed cause.Memory) else outcome_of w (share w n events))
    else None
