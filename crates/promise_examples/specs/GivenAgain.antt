-- A Put that was refused and is given again: not where the refusal is for good, and where it would be tried again.
use Rattle.std.specs.Prelude.{◌≡◌, ◌<◌, ℕ, false, List, [], ◌∷◌, Some, None, codes, slice_get}
use Rattle.std.specs.FinMap.{insert, empty}
use Rattle.s3_model.specs.declared.requests.Ask.{Ask}
use Rattle.s3_model.specs.declared.requests.Ask.TheVariants as ask
use Rattle.s3_model.specs.declared.requests.Op.TheVariants as op
use Rattle.s3_model.specs.declared.answers.Class.{Class}
use Rattle.s3_model.specs.declared.answers.Class.TheVariants as class
use Rattle.s3_model.specs.declared.answers.Listed.{Listed}
use Rattle.s3_model.specs.declared.answers.Reply.TheVariants as reply
use Rattle.s3_model.specs.declared.outcomes.JobId.{JobId}
use Rattle.s3_model.specs.declared.outcomes.Event.{Event}
use Rattle.s3_model.specs.declared.outcomes.Event.TheVariants as entry
use Rattle.s3_model.specs.declared.outcomes.Outcome.TheVariants as outcome
use Rattle.s3_model.specs.declared.settings.Limits.{Limits}
use Rattle.s3_model.specs.declared.tasks.Task.{Task}
use Rattle.s3_model.specs.declared.tries.Mark.TheVariants as mark
use Rattle.s3_model.specs.Classes.{is_tried_again}
use Rattle.s3_model.specs.Talks.{Talk, Note, Closed, Finished, Moment, Pause, Began}
use Rattle.s3_service.specs.ServiceState.{State, with_object}
use Rattle.s3_service.specs.Serves.{Replied, Refused}
use Rattle.run_promise.specs.Carried.{IsCarried}
use Rattle.job_terms.specs.Attempts.{in_first}
use Rattle.job_terms.specs.Dispatches.{Attempt, Dispatched, last_of}
use Rattle.run_promise.specs.Schedule.{Setting, IsSchedule}
use Rattle.run_promise.specs.Traces.{SentRequest, Step, Given, Begin, Serve, Came}
use Rattle.world_laws.specs.ExampleTasks as tasks
use Rattle.promise_examples.specs.Runs.{Example, IsMet}
use Rattle.promise_examples.specs.Services.{object_of, one_bucket}

abbrev pub put_job : JobId
put_job = record { task = Some 0; op = op.Put; number = 0 }

-- the Put is given, refused, given again and stored
abbrev pub twice : List Event
twice =
    entry.Given put_job 0 ∷ entry.Came put_job 0 (mark.Refusal ∷ []) ∷ entry.Given put_job 0
    ∷ entry.Came put_job 0 (mark.Success ∷ []) ∷ []

module _ (Shows : Ask → ℕ → Talk → Class → List ℕ → Type 0) (Plans : List Dispatched → Type 0) where
  -- whatever was asked, the talk shows a refusal with this code and nothing else
  abbrev pub IsRefusedBy : Talk → List ℕ → Type 0
  IsRefusedBy talk code = (asked : Ask) (limit : ℕ) (shown : Class) (bytes : List ℕ)
      → Shows asked limit talk shown bytes → (message : List ℕ) × (shown ≡ class.Refusal code message)

  -- No job is given again after a last attempt that would not be tried again.
  abbrev pub RefusedForGood : Type 0
  RefusedForGood = (request_text : Ask → List ℕ → ℕ → List ℕ) (host : List ℕ) (port : ℕ) (s : Setting)
      (journal : List Event) (logs : ℕ → List Talk) (notes : ℕ → List Note)
      (dispatched coming : List Dispatched)
      → IsCarried Shows request_text host port s journal logs notes dispatched coming
      → (a b : Dispatched) (i j : ℕ) (attempt : Attempt) → i < j → slice_get dispatched i ≡ Some a
      → slice_get dispatched j ≡ Some b → a.dispatch.job ≡ b.dispatch.job
      → last_of a.dispatch.attempts ≡ Some attempt
      → ((shown : Class) (bytes : List ℕ) → Shows a.ask a.limit attempt.talk shown bytes
      → is_tried_again shown ≡ false) → ⊥

  -- So a Put that was refused with AccessDenied is not given again and stored, whatever the setting, the rest of the
  -- logs and the notes.
  abbrev pub DeniedIsNotGivenAgain : Type 0
  DeniedIsNotGivenAgain = (request_text : Ask → List ℕ → ℕ → List ℕ) (host : List ℕ) (port : ℕ) (s : Setting)
      (logs : ℕ → List Talk) (notes : ℕ → List Note)
      (dispatched coming : List Dispatched) (talk : Talk) (rest : List Talk)
      → IsRefusedBy talk (codes "AccessDenied") → logs 0 ≡ talk ∷ rest
      → IsSchedule Shows s Plans dispatched coming
      → IsCarried Shows request_text host port s twice logs notes dispatched coming → ⊥

-- ---- the neighbour: the service was busy

abbrev pub busy : List ℕ
busy = codes "SlowDown"

-- the bytes of its file
abbrev pub bytes : List ℕ
bytes = 1 ∷ 2 ∷ []

module _ (bucket key path : List ℕ) where
  abbrev pub upload : Task
  upload = tasks.upload bucket key path 2 false

  abbrev pub put : Ask
  put = ask.Put bucket key None false

  abbrev pub request : ℕ → SentRequest
  request number = record { job = put_job; number = number; ask = put; body = bytes }

  -- one Put, refused at its first attempt and stored at its second, over one lane
  abbrev pub busy_run : Limits → Example
  busy_run limits = record {
    setting = record {
      config = record { threshold = 3; chunk = 1; lanes = 1; queue = 1; buffers = 1; attempts = 2 };
      limits = limits;
      lanes = 1;
      tasks = upload ∷ [];
      dryrun = false;
      held = insert empty path (record { bytes = bytes; micros = 0 });
      others = [];
      file_failed = λ task. false;
      cancelled_at = None;
      wanted_memory = λ task. false;
    };
    outcomes = outcome.Done ∷ [];
    journal = twice;
    logs = in_first (record { host = []; port = 80; sent = 5 ∷ bytes; got = busy; ending = Closed }
        ∷ record { host = []; port = 80; sent = 7 ∷ bytes; got = []; ending = Finished } ∷ []);
    notes = in_first (Moment 5 ∷ Began ∷ Pause 1 ∷ Moment 7 ∷ Began ∷ []);
  }

  abbrev pub stored : State
  stored = with_object (one_bucket bucket) bucket key (object_of bytes)

  abbrev pub busy_trace : List Step
  busy_trace =
      record { event = Given put_job 0; state = one_bucket bucket }
      ∷ record { event = Begin 0 (request 1); state = one_bucket bucket }
      ∷ record { event = Serve (request 1) (Refused busy); state = one_bucket bucket }
      ∷ record { event = Came put_job 0 (mark.Refusal ∷ []); state = one_bucket bucket }
      ∷ record { event = Given put_job 0; state = one_bucket bucket }
      ∷ record { event = Begin 0 (request 2); state = one_bucket bucket }
      ∷ record { event = Serve (request 2) (Replied reply.Stored []); state = stored }
      ∷ record { event = Came put_job 0 (mark.Success ∷ []); state = stored }
      ∷ []

-- A Put that was refused since the service was busy may be given again and stored.
abbrev pub BusyIsGivenAgain : Type 0
BusyIsGivenAgain = (limits : Limits) (page_of : List ℕ → Listed) (bucket key path : List ℕ)
    → IsMet page_of (λ planning. planning ≡ []) (busy_run bucket key path limits) (one_bucket bucket)
    (busy_trace bucket key path)
