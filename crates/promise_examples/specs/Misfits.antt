-- Traces with one thing changed, which do not fit a run of one small upload that was stored.
use Rattle.std.specs.Prelude.{◌≡◌, ℕ, List, [], ◌∷◌, codes, None}
use Rattle.s3_model.specs.declared.answers.Listed.{Listed}
use Rattle.s3_model.specs.declared.answers.Reply.TheVariants as reply
use Rattle.s3_model.specs.declared.tries.Mark.TheVariants as mark
use Rattle.s3_service.specs.ServiceState.{Object, State, with_object, without_object}
use Rattle.s3_service.specs.Serves.{Replied, Refused, Removes, Writes}
use Rattle.run_promise.specs.Carried.{IsCarried}
use Rattle.job_terms.specs.Dispatches.{Dispatched}
use Rattle.run_promise.specs.Fits.{Fits}
use Rattle.run_promise.specs.Schedule.{IsSchedule}
use Rattle.run_promise.specs.Traces.{SentRequest, Step, Given, Begin, Serve, Came, External, IsTrace, IsHonest}
use Rattle.run_promise.specs.Traces.{events_of}
use Rattle.run_promise.specs.Truthful.{IsDest}
use Rattle.promise_examples.specs.GivenAgain as given_again
use Rattle.promise_examples.specs.GivenAgain.{put_job}
use Rattle.promise_examples.specs.Reading.{Reads, signed_body}
use Rattle.promise_examples.specs.Refused.{whole_run, path}
use Rattle.promise_examples.specs.Runs.{IsMet}
use Rattle.promise_examples.specs.Services.{object_of, one_bucket}

abbrev pub bucket : List ℕ
bucket = 98 ∷ []

abbrev pub key : List ℕ
key = 117 ∷ []

abbrev pub request : ℕ → SentRequest
request number = given_again.request bucket key path number

abbrev pub before : State
before = one_bucket bucket

abbrev pub stored : State
stored = given_again.stored bucket key path

-- ---- what may happen

abbrev pub given : Step
given = record { event = Given put_job 0; state = before }

abbrev pub begun : ℕ → ℕ → State → Step
begun lane number state = record { event = Begin lane (request number); state = state }

abbrev pub answered : ℕ → Step
answered number = record { event = Serve (request number) (Replied reply.Stored []); state = stored }

abbrev pub came : State → Step
came state = record { event = Came put_job 0 (mark.Success ∷ []); state = state }

-- the trace that fits
abbrev pub whole_trace : List Step
whole_trace = given ∷ begun 0 1 before ∷ answered 1 ∷ came stored ∷ []

-- the same bytes are written once more
abbrev pub written_again : State
written_again = with_object stored bucket key (object_of given_again.bytes)

-- ---- what is changed

abbrev pub served_twice : List Step
served_twice = given ∷ begun 0 1 before ∷ answered 1
    ∷ record { event = Serve (request 1) (Replied reply.Stored []); state = written_again } ∷ came written_again ∷ []

abbrev pub served_before_begun : List Step
served_before_begun = given ∷ answered 1 ∷ begun 0 1 stored ∷ came stored ∷ []

abbrev pub never_served : List Step
never_served = given ∷ begun 0 1 before ∷ came before ∷ []

abbrev pub served_after_came : List Step
served_after_came = given ∷ begun 0 1 before ∷ came before ∷ answered 1 ∷ []

abbrev pub other_answer : List Step
other_answer = given ∷ begun 0 1 before
    ∷ record { event = Serve (request 1) (Refused (codes "AccessDenied")); state = before } ∷ came before ∷ []

abbrev pub begun_before_given : List Step
begun_before_given = begun 0 1 before ∷ given ∷ answered 1 ∷ came stored ∷ []

abbrev pub begun_after_came : List Step
begun_after_came = given ∷ came before ∷ begun 0 1 before ∷ answered 1 ∷ []

-- of an upload that was lost twice, the second attempt begins after it came
abbrev pub begun_late : List Step
begun_late = given ∷ begun 0 1 before
    ∷ record { event = Came put_job 0 (mark.Uncertain ∷ mark.Uncertain ∷ []); state = before }
    ∷ begun 0 2 before ∷ []

abbrev pub other_number : List Step
other_number = given ∷ begun 0 2 before ∷ answered 2 ∷ came stored ∷ []

abbrev pub other_lane : List Step
other_lane = given ∷ begun 1 1 before ∷ answered 1 ∷ came stored ∷ []

abbrev pub begun_twice : List Step
begun_twice = given ∷ begun 0 1 before ∷ begun 0 1 before ∷ answered 1 ∷ came stored ∷ []

abbrev pub never_given : List Step
never_given = begun 0 1 before ∷ answered 1 ∷ came stored ∷ []

-- somebody else writes the destination
abbrev pub overwritten : List Step
overwritten = given ∷ begun 0 1 before ∷ answered 1 ∷ came stored
    ∷ record { event = External (Writes bucket key (object_of given_again.bytes)); state = written_again } ∷ []

-- or removes it
abbrev pub removed : List Step
removed = given ∷ begun 0 1 before ∷ answered 1 ∷ came stored
    ∷ record { event = External (Removes bucket key); state = without_object stored bucket key } ∷ []

-- somebody else writes two contents of one key under one ETag
abbrev pub other_key : List ℕ
other_key = 118 ∷ []

abbrev pub with_byte : ℕ → Object
with_byte byte = record { bytes = byte ∷ []; etag = []; micros = 0 }

abbrev pub first_content : State
first_content = with_object stored bucket other_key (with_byte 8)

abbrev pub two_contents : List Step
two_contents = given ∷ begun 0 1 before ∷ answered 1 ∷ came stored
    ∷ record { event = External (Writes bucket other_key (with_byte 8)); state = first_content }
    ∷ record {
      event = External (Writes bucket other_key (with_byte 9));
      state = with_object first_content bucket other_key (with_byte 9);
    } ∷ []

module _ (page_of : List ℕ → Listed) where
  -- however the jobs are read, it is no honest trace that fits
  abbrev pub IsUnfit : List Step → Type 0
  IsUnfit trace = (dispatched coming : List Dispatched)
      → IsSchedule (Reads page_of) whole_run.setting (λ planning. planning ≡ []) dispatched coming
      → IsCarried (Reads page_of) signed_body [] 80 whole_run.setting whole_run.journal whole_run.logs whole_run.notes
      dispatched coming
      → IsTrace whole_run.setting.limits [] before trace → IsHonest before trace (IsDest whole_run.setting.tasks)
      → Fits (Reads page_of) None (events_of trace) whole_run.journal dispatched → ⊥

  pub record TracesAreRefused : Type 0 where
    pub whole : IsMet page_of (λ planning. planning ≡ []) whole_run before whole_trace
    pub served_twice : IsUnfit served_twice
    pub served_before_begun : IsUnfit served_before_begun
    pub never_served : IsUnfit never_served
    pub served_after_came : IsUnfit served_after_came
    pub other_answer : IsUnfit other_answer
    pub begun_before_given : IsUnfit begun_before_given
    pub begun_after_came : IsUnfit begun_after_came
    pub other_number : IsUnfit other_number
    pub other_lane : IsUnfit other_lane
    pub begun_twice : IsUnfit begun_twice
    pub never_given : IsUnfit never_given
    pub overwritten : IsUnfit overwritten
    pub removed : IsUnfit removed
    pub two_contents : IsUnfit two_contents

abbrev pub EachTraceIsRefused : Type 0
EachTraceIsRefused = (page_of : List ℕ → Listed) → TracesAreRefused page_of
