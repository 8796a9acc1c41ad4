-- Jobs as the journal and the logs show them: each dispatch of a job with its attempts.
use Rattle.std.specs.Prelude.{◌+◌, ◌==◌, ℕ, Bool, List, [], ◌∷◌, Option, Some}
use Rattle.std.specs.Prelude.{None, filter, length, drop, nat_lt, if◌then◌else◌, sum_by, reverse}
use Rattle.s3_model.specs.declared.outcomes.JobId.{JobId}
use Rattle.s3_model.specs.declared.outcomes.Event.{Event}
use Rattle.s3_model.specs.declared.outcomes.Event.TheVariants as entry
use Rattle.s3_model.specs.declared.requests.Ask.{Ask}
use Rattle.s3_model.specs.declared.tries.Mark.{Mark}
use Rattle.s3_model.specs.Talks.{Talk}
use Rattle.job_terms.specs.Jobs.{is_job}

-- ---- dispatches

-- one attempt: what was marked, and the talk that was made
pub record Attempt : Type 0 where
  pub mark : Mark
  pub talk : Talk

-- A job given once to a lane. Places count the events of the journal from 0.
pub record Dispatch : Type 0 where
  pub job : JobId
  pub lane : ℕ
  pub given_at : ℕ
  pub came_at : Option ℕ
  -- how many attempts an earlier dispatch of the job made
  pub earlier : ℕ
  -- whether the job was given before
  pub is_second : Bool
  pub attempts : List Attempt

-- where the job comes next, and with which marks
abbrev pub next_came : JobId → ℕ → List Event → Option (ℕ × List Mark)
next_came job at [] = None
next_came job at (entry.Given other lane ∷ events) = next_came job (at + 1) events
next_came job at (entry.Came other lane tries ∷ events) =
    if is_job job other then Some (at, tries) else next_came job (at + 1) events

abbrev pub place_of : Option (ℕ × List Mark) → Option ℕ
place_of None = None
place_of (Some came) = Some came.0

abbrev pub next_marks : Option (ℕ × List Mark) → List Mark
next_marks None = []
next_marks (Some came) = came.1

abbrev pub paired : List Mark → List Talk → List Attempt
paired [] talks = []
paired (mark ∷ marks) [] = []
paired (mark ∷ marks) (talk ∷ talks) = record { mark = mark; talk = talk } ∷ paired marks talks

abbrev pub earlier_dispatches : JobId → List Dispatch → List Dispatch
earlier_dispatches job dispatches = filter (λ dispatch. is_job dispatch.job job) dispatches

-- The dispatches of a journal, in order, each with the next talks of its lane. `before` are those so far, the newest
-- first.
abbrev pub dispatches_from : (ℕ → List Talk) → List Dispatch → ℕ → List Event → List Dispatch
dispatches_from logs before at [] = reverse before
dispatches_from logs before at (entry.Came job lane tries ∷ events) = dispatches_from logs before (at + 1) events
dispatches_from logs before at (entry.Given job lane ∷ events) =
    let came = next_came job (at + 1) events in
    let same = earlier_dispatches job before in
    dispatches_from (λ other. if other == lane then drop (length (next_marks came)) (logs other) else logs other)
    (record {
      job = job;
      lane = lane;
      given_at = at;
      came_at = place_of came;
      earlier = sum_by (λ dispatch. length dispatch.attempts) same;
      is_second = nat_lt 0 (length same);
      attempts = paired (next_marks came) (logs lane);
    } ∷ before)
    (at + 1) events

-- what the logs gained, by lane
abbrev pub dispatches : List Event → (ℕ → List Talk) → List Dispatch
dispatches journal logs = dispatches_from logs [] 0 journal

-- a dispatch with its ask, its body, the greatest length of a 2xx body, and the size of the task's source
pub record Dispatched : Type 0 where
  pub dispatch : Dispatch
  pub ask : Ask
  pub body : List ℕ
  pub limit : ℕ
  pub size : ℕ

abbrev pub last_of : {A : Type 0} → List A → Option A
last_of [] = None
last_of (x ∷ []) = Some x
last_of (x ∷ y ∷ xs) = last_of (y ∷ xs)
