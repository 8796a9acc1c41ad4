-- An upload in parts over two lanes that failed: one part was denied, the other one cut short after that, and the
-- upload aborted.
use Rattle.std.specs.Prelude.{◌≡◌, ℕ, List, [], ◌∷◌, codes}
use Rattle.s3_model.specs.declared.answers.Listed.{Listed}
use Rattle.s3_model.specs.declared.answers.Reply.TheVariants as reply
use Rattle.s3_model.specs.declared.outcomes.Cause.TheVariants as cause
use Rattle.s3_model.specs.declared.outcomes.Event.{Event}
use Rattle.s3_model.specs.declared.outcomes.Event.TheVariants as entry
use Rattle.s3_model.specs.declared.outcomes.Outcome.TheVariants as outcome
use Rattle.s3_model.specs.declared.requests.Ask.{Ask}
use Rattle.s3_model.specs.declared.requests.Ask.TheVariants as ask
use Rattle.s3_model.specs.declared.requests.Op.TheVariants as op
use Rattle.s3_model.specs.declared.tries.Mark.TheVariants as mark
use Rattle.s3_model.specs.Talks.{Talk, Failed, Moment, Began}
use Rattle.s3_service.specs.ServiceState.{State, Aborted, with_ended, with_part, with_upload}
use Rattle.s3_service.specs.Serves.{Refused}
use Rattle.run_promise.specs.Traces.{SentRequest, Step, Given, Begin, Serve, Came}
use Rattle.promise_examples.specs.Everything.{bucket, uploaded, id, second_etag, upload, create_job, part_job}
use Rattle.promise_examples.specs.Everything.{create_answered, unused, second_part, talk, step, request, create_request}
use Rattle.promise_examples.specs.Everything.{part_request, other_request, answered, in_two, eventful_run}
use Rattle.promise_examples.specs.Orders.{abort_job, part_denied, abort_answered}
use Rattle.promise_examples.specs.Runs.{Example, IsMet}
use Rattle.promise_examples.specs.Services.{one_bucket}

abbrev pub abort : Ask
abort = ask.Abort bucket uploaded id

abbrev pub abort_request : SentRequest
abort_request = request abort_job 1 abort []

abbrev pub other_lost : Talk
other_lost = talk 3 (2 ∷ []) Failed []

abbrev pub denied : List ℕ
denied = codes "AccessDenied"

abbrev pub events : List Event
events =
    entry.Given create_job 0
    ∷ entry.Came create_job 0 (mark.Success ∷ [])
    ∷ entry.Given (part_job 1) 0
    ∷ entry.Given (part_job 2) 1
    ∷ entry.Came (part_job 1) 0 (mark.Refusal ∷ [])
    ∷ entry.Came (part_job 2) 1 (mark.Uncertain ∷ [])
    ∷ entry.Given abort_job 0
    ∷ entry.Came abort_job 0 (mark.Success ∷ [])
    ∷ []

abbrev pub failed_run : Example
failed_run = record {
  setting = record eventful_run.setting { tasks = upload ∷ [] };
  outcomes = outcome.Failed (cause.Service op.Part denied []) ∷ [];
  journal = events;
  logs = in_two (create_answered ∷ part_denied ∷ abort_answered ∷ []) (other_lost ∷ []);
  notes = in_two (Moment 2 ∷ Began ∷ Moment 3 ∷ Began ∷ Moment 6 ∷ Began ∷ []) (Moment 3 ∷ Began ∷ []);
}

-- ---- the trace: the part that was lost was stored

abbrev pub start : State
start = one_bucket bucket

abbrev pub created : State
created = with_upload start id unused

abbrev pub after_second : State
after_second = with_part created id unused 2 second_part

abbrev pub aborted : State
aborted = with_ended after_second id Aborted

abbrev pub failed_trace : List Step
failed_trace =
    step (Given create_job 0) start
    ∷ step (Begin 0 (create_request 1)) start
    ∷ step (answered (create_request 1) (reply.Created id)) created
    ∷ step (Came create_job 0 (mark.Success ∷ [])) created
    ∷ step (Given (part_job 1) 0) created
    ∷ step (Given (part_job 2) 1) created
    ∷ step (Begin 0 (part_request 1)) created
    ∷ step (Begin 1 other_request) created
    ∷ step (Serve (part_request 1) (Refused denied)) created
    ∷ step (Came (part_job 1) 0 (mark.Refusal ∷ [])) created
    ∷ step (answered other_request (reply.PartStored second_etag)) after_second
    ∷ step (Came (part_job 2) 1 (mark.Uncertain ∷ [])) after_second
    ∷ step (Given abort_job 0) after_second
    ∷ step (Begin 0 abort_request) after_second
    ∷ step (answered abort_request reply.Gone) aborted
    ∷ step (Came abort_job 0 (mark.Success ∷ [])) aborted
    ∷ []

abbrev pub FailedUploadIsMet : Type 0
FailedUploadIsMet = (page_of : List ℕ → Listed)
    → IsMet page_of (λ planning. planning ≡ []) failed_run start failed_trace
