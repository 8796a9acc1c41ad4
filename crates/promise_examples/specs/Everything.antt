-- A run over two lanes: an upload in parts whose Create was lost and then answered, with a part that was cut short,
-- given again and also
-- served late, and a Complete that was lost and then answered again; and a copy that is moved, whose Delete was lost.
use Rattle.std.specs.Prelude.{◌≡◌, ◌==◌, ℕ, false, List, [], ◌∷◌, None, if◌then◌else◌}
use Rattle.std.specs.FinMap.{insert, empty}
use Rattle.s3_model.specs.declared.requests.Ask.{Ask}
use Rattle.s3_model.specs.declared.requests.Ask.TheVariants as ask
use Rattle.s3_model.specs.declared.requests.Op.TheVariants as op
use Rattle.s3_model.specs.declared.answers.Listed.{Listed}
use Rattle.s3_model.specs.declared.answers.Reply.{Reply}
use Rattle.s3_model.specs.declared.answers.Reply.TheVariants as reply
use Rattle.s3_model.specs.declared.answers.Why.TheVariants as why
use Rattle.s3_model.specs.declared.outcomes.Cause.TheVariants as cause
use Rattle.s3_model.specs.declared.outcomes.JobId.{JobId}
use Rattle.s3_model.specs.declared.outcomes.Event.{Event}
use Rattle.s3_model.specs.declared.outcomes.Event.TheVariants as entry
use Rattle.s3_model.specs.declared.outcomes.Outcome.TheVariants as outcome
use Rattle.s3_model.specs.declared.settings.Limits.{Limits}
use Rattle.s3_model.specs.declared.tasks.Task.{Task}
use Rattle.s3_model.specs.declared.tries.Mark.TheVariants as mark
use Rattle.s3_model.specs.Documents.{document_of}
use Rattle.s3_model.specs.Talks.{Talk, Note, Ending, Failed, Finished, Moment, Pause, Began}
use Rattle.s3_service.specs.ServiceState.{State, Upload, StoredPart, CompletedBy, with_object, without_object}
use Rattle.s3_service.specs.ServiceState.{with_upload, with_part, with_ended}
use Rattle.s3_service.specs.Serves.{Replied}
use Rattle.job_terms.specs.Jobs.{job_of}
use Rattle.run_promise.specs.Traces.{SentRequest, Step, TraceEvent, Given, Begin, Serve, Came}
use Rattle.world_laws.specs.ExampleTasks as tasks
use Rattle.promise_examples.specs.Runs.{Example, IsMet}
use Rattle.promise_examples.specs.Services.{object_of, one_bucket}

-- ---- places

abbrev pub bucket : List ℕ
bucket = 98 ∷ []

-- the destination of the upload
abbrev pub uploaded : List ℕ
uploaded = 117 ∷ []

-- the source and the destination of the copy
abbrev pub source : List ℕ
source = 120 ∷ []

abbrev pub copied : List ℕ
copied = 121 ∷ []

-- the file
abbrev pub path : List ℕ
path = 102 ∷ []

abbrev pub bytes : List ℕ
bytes = 1 ∷ 2 ∷ []

abbrev pub source_etag : List ℕ
source_etag = 9 ∷ []

-- the id that was lost, and the one that was answered
abbrev pub lost_id : List ℕ
lost_id = 73 ∷ []

abbrev pub id : List ℕ
id = 74 ∷ []

abbrev pub first_etag : List ℕ
first_etag = 51 ∷ []

abbrev pub second_etag : List ℕ
second_etag = 52 ∷ []

-- ---- the plan

-- a file of two bytes, in two parts
abbrev pub upload : Task
upload = tasks.upload bucket uploaded path 2 false

-- an object of one byte
abbrev pub copy : Task
copy = tasks.moved_copy bucket copied bucket source source_etag 1

abbrev pub limits : Limits
limits = record { min_part = 1; max_part = 1; max_parts = 2; max_object = 2 }

-- ---- the requests

abbrev pub create_job : JobId
create_job = job_of 0 op.Create 0

abbrev pub part_job : ℕ → JobId
part_job number = job_of 0 op.Part number

abbrev pub complete_job : JobId
complete_job = job_of 0 op.Complete 0

abbrev pub copy_job : JobId
copy_job = job_of 1 op.Copy 0

abbrev pub delete_job : JobId
delete_job = job_of 1 op.Delete 0

abbrev pub create : Ask
create = ask.Create bucket uploaded None

abbrev pub part : ℕ → Ask
part number = ask.Part bucket uploaded id number

abbrev pub complete : Ask
complete = ask.Complete bucket uploaded id (record { items = first_etag ∷ second_etag ∷ []; spare = 0 }) false

abbrev pub copy_ask : Ask
copy_ask = ask.Copy bucket copied bucket source source_etag

abbrev pub delete : Ask
delete = ask.Delete bucket source

abbrev pub document : List ℕ
document = document_of complete

-- ---- the wires

abbrev pub talk : ℕ → List ℕ → Ending → List ℕ → Talk
talk moment body ending got = record { host = []; port = 80; sent = moment ∷ body; got = got; ending = ending }

abbrev pub create_lost : Talk
create_lost = talk 1 [] Failed []

abbrev pub create_answered : Talk
create_answered = talk 2 [] Finished id

abbrev pub part_lost : Talk
part_lost = talk 3 (1 ∷ []) Failed []

abbrev pub part_stored : Talk
part_stored = talk 4 (1 ∷ []) Finished first_etag

abbrev pub complete_lost : Talk
complete_lost = talk 5 document Failed []

abbrev pub complete_again : Talk
complete_again = talk 6 document Finished []

abbrev pub copy_answered : Talk
copy_answered = talk 1 [] Finished []

abbrev pub other_stored : Talk
other_stored = talk 3 (2 ∷ []) Finished second_etag

abbrev pub delete_lost : Talk
delete_lost = talk 4 [] Failed []

abbrev pub delete_again : Talk
delete_again = talk 6 [] Failed []

abbrev pub first_talks : List Talk
first_talks = create_lost ∷ create_answered ∷ part_lost ∷ part_stored ∷ complete_lost ∷ complete_again ∷ []

abbrev pub second_talks : List Talk
second_talks = copy_answered ∷ other_stored ∷ delete_lost ∷ delete_again ∷ []

abbrev pub first_notes : List Note
first_notes =
    Moment 1 ∷ Began ∷ Pause 1 ∷ Moment 2 ∷ Began ∷ Moment 3 ∷ Began ∷ Pause 1 ∷ Moment 4 ∷ Began ∷ Moment 5 ∷ Began
    ∷ Pause 1 ∷ Moment 6 ∷ Began ∷ []

abbrev pub second_notes : List Note
second_notes = Moment 1 ∷ Began ∷ Moment 3 ∷ Began ∷ Moment 4 ∷ Began ∷ Pause 1 ∷ Moment 6 ∷ Began ∷ []

-- what is in the first lane, and what in the second
abbrev pub in_two : {A : Type 0} → List A → List A → ℕ → List A
in_two first second lane = if lane == 0 then first else if lane == 1 then second else []

-- ---- the run

abbrev pub events : List Event
events =
    entry.Given create_job 0
    ∷ entry.Given copy_job 1
    ∷ entry.Came create_job 0 (mark.Uncertain ∷ mark.Success ∷ [])
    ∷ entry.Came copy_job 1 (mark.Success ∷ [])
    ∷ entry.Given (part_job 1) 0
    ∷ entry.Given (part_job 2) 1
    ∷ entry.Came (part_job 1) 0 (mark.Uncertain ∷ [])
    ∷ entry.Given (part_job 1) 0
    ∷ entry.Came (part_job 2) 1 (mark.Success ∷ [])
    ∷ entry.Given delete_job 1
    ∷ entry.Came delete_job 1 (mark.Uncertain ∷ mark.Uncertain ∷ [])
    ∷ entry.Came (part_job 1) 0 (mark.Success ∷ [])
    ∷ entry.Given complete_job 0
    ∷ entry.Came complete_job 0 (mark.Uncertain ∷ mark.Success ∷ [])
    ∷ []

abbrev pub eventful_run : Example
eventful_run = record {
  setting = record {
    config = record { threshold = 2; chunk = 1; lanes = 2; queue = 2; buffers = 2; attempts = 2 };
    limits = limits;
    lanes = 2;
    tasks = upload ∷ copy ∷ [];
    dryrun = false;
    held = insert empty path (record { bytes = bytes; micros = 0 });
    others = [];
    file_failed = λ task. false;
    cancelled_at = None;
    wanted_memory = λ task. false;
  };
  outcomes = outcome.Done ∷ outcome.Copied (cause.Lost op.Delete why.WireFailed) ∷ [];
  journal = events;
  logs = in_two first_talks second_talks;
  notes = in_two first_notes second_notes;
}

-- ---- the service

abbrev pub unused : Upload
unused = record { bucket = bucket; key = uploaded; parts = empty }

abbrev pub first_part : StoredPart
first_part = record { bytes = 1 ∷ []; etag = first_etag }

abbrev pub second_part : StoredPart
second_part = record { bytes = 2 ∷ []; etag = second_etag }

-- the upload with its second part, with both, and with the first one stored once more
abbrev pub with_second : Upload
with_second = record unused { parts = insert unused.parts 2 second_part }

abbrev pub with_both : Upload
with_both = record with_second { parts = insert with_second.parts 1 first_part }

abbrev pub once_more : Upload
once_more = record with_both { parts = insert with_both.parts 1 first_part }

abbrev pub start : State
start = with_object (one_bucket bucket) bucket source (object_of source_etag)

-- the Create that was lost was served, too
abbrev pub once_created : State
once_created = with_upload start lost_id unused

abbrev pub twice_created : State
twice_created = with_upload once_created id unused

abbrev pub after_copy : State
after_copy = with_object twice_created bucket copied (object_of source_etag)

abbrev pub after_second : State
after_second = with_part after_copy id unused 2 second_part

abbrev pub after_first : State
after_first = with_part after_second id with_second 1 first_part

abbrev pub after_delete : State
after_delete = without_object after_first bucket source

abbrev pub after_late : State
after_late = with_part after_delete id with_both 1 first_part

abbrev pub joined : State
joined = with_object after_late bucket uploaded (object_of bytes)

abbrev pub completed : State
completed = with_ended joined id (CompletedBy (first_etag ∷ second_etag ∷ []))

abbrev pub after_all : State
after_all = without_object completed bucket source

-- ---- the trace

abbrev pub step : TraceEvent → State → Step
step event state = record { event = event; state = state }

abbrev pub request : JobId → ℕ → Ask → List ℕ → SentRequest
request job number asked body = record { job = job; number = number; ask = asked; body = body }

abbrev pub create_request : ℕ → SentRequest
create_request number = request create_job number create []

abbrev pub copy_request : SentRequest
copy_request = request copy_job 1 copy_ask []

abbrev pub part_request : ℕ → SentRequest
part_request number = request (part_job 1) number (part 1) (1 ∷ [])

abbrev pub other_request : SentRequest
other_request = request (part_job 2) 1 (part 2) (2 ∷ [])

abbrev pub delete_request : ℕ → SentRequest
delete_request number = request delete_job number delete []

abbrev pub complete_request : ℕ → SentRequest
complete_request number = request complete_job number complete document

abbrev pub answered : SentRequest → Reply → TraceEvent
answered sent said = Serve sent (Replied said [])

-- the part that was cut short is served after its Came, and the second Delete after all
abbrev pub eventful_trace : List Step
eventful_trace =
    step (Given create_job 0) start
    ∷ step (Given copy_job 1) start
    ∷ step (Begin 0 (create_request 1)) start
    ∷ step (Begin 1 copy_request) start
    ∷ step (answered (create_request 1) (reply.Created lost_id)) once_created
    ∷ step (Begin 0 (create_request 2)) once_created
    ∷ step (answered (create_request 2) (reply.Created id)) twice_created
    ∷ step (answered copy_request reply.Copied) after_copy
    ∷ step (Came create_job 0 (mark.Uncertain ∷ mark.Success ∷ [])) after_copy
    ∷ step (Came copy_job 1 (mark.Success ∷ [])) after_copy
    ∷ step (Given (part_job 1) 0) after_copy
    ∷ step (Given (part_job 2) 1) after_copy
    ∷ step (Begin 0 (part_request 1)) after_copy
    ∷ step (Begin 1 other_request) after_copy
    ∷ step (Came (part_job 1) 0 (mark.Uncertain ∷ [])) after_copy
    ∷ step (Given (part_job 1) 0) after_copy
    ∷ step (answered other_request (reply.PartStored second_etag)) after_second
    ∷ step (Came (part_job 2) 1 (mark.Success ∷ [])) after_second
    ∷ step (Given delete_job 1) after_second
    ∷ step (Begin 0 (part_request 2)) after_second
    ∷ step (answered (part_request 2) (reply.PartStored first_etag)) after_first
    ∷ step (Begin 1 (delete_request 1)) after_first
    ∷ step (answered (delete_request 1) reply.Gone) after_delete
    ∷ step (Begin 1 (delete_request 2)) after_delete
    ∷ step (Came delete_job 1 (mark.Uncertain ∷ mark.Uncertain ∷ [])) after_delete
    ∷ step (answered (part_request 1) (reply.PartStored first_etag)) after_late
    ∷ step (Came (part_job 1) 0 (mark.Success ∷ [])) after_late
    ∷ step (Given complete_job 0) after_late
    ∷ step (Begin 0 (complete_request 1)) after_late
    ∷ step (answered (complete_request 1) reply.Completed) completed
    ∷ step (Begin 0 (complete_request 2)) completed
    ∷ step (answered (complete_request 2) reply.Completed) completed
    ∷ step (Came complete_job 0 (mark.Uncertain ∷ mark.Success ∷ [])) completed
    ∷ step (answered (delete_request 2) reply.Gone) after_all
    ∷ []

abbrev pub EverythingIsMet : Type 0
EverythingIsMet = (page_of : List ℕ → Listed)
    → IsMet page_of (λ planning. planning ≡ []) eventful_run start eventful_trace
