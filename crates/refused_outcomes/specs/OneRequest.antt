-- Runs of one request: a Get of a small download, and a small copy that was refused.
use Rattle.std.specs.Prelude.{◌≡◌, ℕ, false, List, [], ◌∷◌, codes}
use Rattle.std.specs.FinMap.{empty}
use Rattle.s3_model.specs.declared.answers.Listed.{Listed}
use Rattle.s3_model.specs.declared.outcomes.Cause.TheVariants as cause
use Rattle.s3_model.specs.declared.outcomes.Event.TheVariants as entry
use Rattle.s3_model.specs.declared.outcomes.Outcome.{Outcome}
use Rattle.s3_model.specs.declared.outcomes.Outcome.TheVariants as outcome
use Rattle.s3_model.specs.declared.requests.Ask.{Ask}
use Rattle.s3_model.specs.declared.requests.Op.{Op}
use Rattle.s3_model.specs.declared.requests.Op.TheVariants as op
use Rattle.s3_model.specs.declared.tasks.Task.{Task}
use Rattle.s3_model.specs.declared.tries.Mark.{Mark}
use Rattle.s3_model.specs.declared.tries.Mark.TheVariants as mark
use Rattle.s3_model.specs.Files.{HeldFile}
use Rattle.s3_model.specs.Maps.{MapOf}
use Rattle.s3_model.specs.Talks.{Closed, Ending, Finished, Talk}
use Rattle.job_terms.specs.Attempts.{in_first}
use Rattle.job_terms.specs.Dispatches.{Dispatched}
use Rattle.job_terms.specs.Jobs.{job_of}
use Rattle.run_promise.specs.Outcomes.{HasOutcome}
use Rattle.run_promise.specs.Schedule.{Setting}
use Rattle.world_laws.specs.ExampleTasks as tasks
use Rattle.promise_examples.specs.Reading.{HasNoStatus, NeverFailed, Reads}
use Rattle.promise_examples.specs.Refused.{a_talk, setting}
use Rattle.promise_examples.specs.Runs.{Example}
use Rattle.refused_outcomes.specs.Told.{IsReading}
use Rattle.refused_outcomes.specs.Untried.{fresh_load, load}

-- ---- the runs

-- one task, and these files at the start
abbrev pub with_files : Task → MapOf HeldFile → Setting
with_files task held = record setting { tasks = task ∷ []; held = held }

abbrev pub talk_with : Ending → List ℕ → Talk
talk_with ending got = record { host = []; port = 80; sent = 5 ∷ []; got = got; ending = ending }

-- one request of the task, over one attempt
abbrev pub one_request : Setting → Op → Mark → Ending → List ℕ → Example
one_request s of_op of_mark ending got = record {
  setting = s;
  outcomes = [];
  journal = entry.Given (job_of 0 of_op 0) 0 ∷ entry.Came (job_of 0 of_op 0) 0 (of_mark ∷ []) ∷ [];
  logs = in_first (talk_with ending got ∷ []);
  notes = in_first a_talk;
}

-- the Get of a download of two bytes brought these
abbrev pub gets : Task → MapOf HeldFile → List ℕ → Example
gets task held got = one_request (with_files task held) op.Get mark.Success Finished got

abbrev pub two_bytes : List ℕ
two_bytes = 7 ∷ 8 ∷ []

abbrev pub three_bytes : List ℕ
three_bytes = 7 ∷ 8 ∷ 9 ∷ []

-- a copy of two bytes, which was denied
abbrev pub copied : Task
copied = record (tasks.moved_copy (98 ∷ []) (117 ∷ []) (98 ∷ []) (120 ∷ []) (1 ∷ []) 2) { moves = false }

abbrev pub denied : List ℕ
denied = codes "AccessDenied"

abbrev pub denied_copy : Example
denied_copy = one_request (with_files copied setting.held) op.Copy mark.Refusal Closed denied

-- ---- what they came to

-- each answer has that HTTP status
abbrev pub IsStatus : ℕ → Ask → ℕ → Talk → ℕ → Type 0
IsStatus all asked limit talk status = status ≡ all

module _ (page_of : List ℕ → Listed) where
  module _ (HasStatus : Ask → ℕ → Talk → ℕ → Type 0) (e : Example) (task : Task) where
    abbrev pub Has : List Dispatched → List Dispatched → Outcome → Type 0
    Has dispatched coming how = HasOutcome (Reads page_of) HasStatus NeverFailed e.setting dispatched coming 0 task how

    -- its jobs can be read so that its task has that outcome, or cannot
    abbrev pub IsToldWith : Outcome → Type 0
    IsToldWith how = (dispatched : List Dispatched) × (coming : List Dispatched)
        × IsReading page_of NeverFailed e task dispatched coming × Has dispatched coming how

    abbrev pub IsRefusedWith : Outcome → Type 0
    IsRefusedWith how = (dispatched coming : List Dispatched)
        → IsReading page_of NeverFailed e task dispatched coming → ¬ (Has dispatched coming how)

  pub record RequestCausesAreMet : Type 0 where
    -- a Get brought more than the whole
    pub bad_get : IsToldWith HasNoStatus (gets load setting.held three_bytes) load
        (outcome.Failed (cause.BadReply op.Get))
    -- the whole: it replaced the file that stood there, or, where it is not to replace, nothing stood there
    pub replaces : IsToldWith HasNoStatus (gets load setting.held two_bytes) load outcome.Done
    pub free_place : IsToldWith HasNoStatus (gets fresh_load empty two_bytes) fresh_load outcome.Done
    -- a copy was denied with status 412, or with status 403
    pub changed : IsToldWith (IsStatus 412) denied_copy copied (outcome.Failed cause.Changed)
    pub denied : IsToldWith (IsStatus 403) denied_copy copied (outcome.Failed (cause.Service op.Copy denied []))

  pub record RequestCausesAreRefused : Type 0 where
    pub good_get : IsRefusedWith HasNoStatus (gets load setting.held two_bytes) load
        (outcome.Failed (cause.BadReply op.Get))
    pub bad_done : IsRefusedWith HasNoStatus (gets load setting.held three_bytes) load outcome.Done
    -- a Get of a download that is not to replace was given where something stood at its place: no outcome is that
    pub taken_place : (how : Outcome)
        → IsRefusedWith HasNoStatus (gets fresh_load setting.held two_bytes) fresh_load how
    pub other_status : IsRefusedWith (IsStatus 403) denied_copy copied (outcome.Failed cause.Changed)
    pub same_status : IsRefusedWith (IsStatus 412) denied_copy copied
        (outcome.Failed (cause.Service op.Copy denied []))

abbrev pub EachRequestCauseIsMet : Type 0
EachRequestCauseIsMet = (page_of : List ℕ → Listed) → RequestCausesAreMet page_of

abbrev pub EachRequestCauseIsRefused : Type 0
EachRequestCauseIsRefused = (page_of : List ℕ → Listed) → RequestCausesAreRefused page_of
