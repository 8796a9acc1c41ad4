-- A plan of both kinds of task: an upload, two downloads of which one failed and left its temporary file, and a file
-- that is removed.
use Rattle.std.specs.Prelude.{◌≡◌, ℕ, true, false, List, [], ◌∷◌, Some, None, Ok, codes, map}
use Rattle.std.specs.FinMap.{empty, insert, remove}
use Rattle.s3_model.specs.declared.answers.Listed.{Listed}
use Rattle.s3_model.specs.declared.answers.Reply.TheVariants as reply
use Rattle.s3_model.specs.declared.outcomes.Cause.TheVariants as cause
use Rattle.s3_model.specs.declared.outcomes.Event.{Event}
use Rattle.s3_model.specs.declared.outcomes.Event.TheVariants as entry
use Rattle.s3_model.specs.declared.outcomes.JobId.{JobId}
use Rattle.s3_model.specs.declared.outcomes.Outcome.TheVariants as outcome
use Rattle.s3_model.specs.declared.places.Place.TheVariants as place
use Rattle.s3_model.specs.declared.requests.Ask.{Ask}
use Rattle.s3_model.specs.declared.requests.Ask.TheVariants as ask
use Rattle.s3_model.specs.declared.requests.Op.TheVariants as op
use Rattle.s3_model.specs.declared.settings.Config.{Config}
use Rattle.s3_model.specs.declared.settings.Limits.{Limits}
use Rattle.s3_model.specs.declared.tasks.Kind.TheVariants as kind
use Rattle.s3_model.specs.declared.tasks.Task.{Task}
use Rattle.s3_model.specs.declared.tries.Mark.TheVariants as mark
use Rattle.s3_model.specs.Files.{HeldFile}
use Rattle.s3_model.specs.Maps.{MapOf}
use Rattle.s3_model.specs.Talks.{Talk, Note, Closed, Finished, Moment, Began}
use Rattle.s3_service.specs.ServiceState.{State, with_object}
use Rattle.s3_service.specs.Serves.{Replied, Refused}
use Rattle.job_terms.specs.Dispatches.{Dispatched}
use Rattle.run_promise.specs.Runs.{HasJournal, IsFitting}
use Rattle.job_terms.specs.Jobs.{job_of}
use Rattle.run_promise.specs.Traces.{SentRequest, Step, Given, Begin, Serve, Came, IsWilling}
use Rattle.run_promise.specs.Truthful.{AreCertain, IsAlone, IsDest, Shown}
use Rattle.job_terms.specs.Attempts.{in_first}
use Rattle.local_files.specs.Calls.{Call, DropTemp, MakeTemp, Remove, Rename, Stamp, WriteAt, written_at}
use Rattle.world_laws.specs.Completeness.{AreCallsCounted}
use Rattle.world_laws.specs.ExampleTasks as tasks
use Rattle.world_laws.specs.Promises.{run_of}
use Rattle.file_laws.specs.FileEnds.{HasFailedCall}
use Rattle.run_promise.specs.FileCalls.{TaskCall}
use Rattle.file_laws.specs.FileWitnesses.{file_removal}
use Rattle.file_laws.specs.PlanEnds.{IsPlanCarriedOut}
use Rattle.file_completeness.specs.FileCompleteness.{IsDownloadThere}
use Rattle.promise_examples.specs.Everything.{step}
use Rattle.promise_examples.specs.Reading.{Reads, HasNoStatus, signed_body}
use Rattle.promise_examples.specs.Services.{object_of, one_bucket}

-- ---- the plan

abbrev pub bucket : List ℕ
bucket = 98 ∷ []

-- where the upload goes, and what is downloaded
abbrev pub stored_key : List ℕ
stored_key = 117 ∷ []

abbrev pub first_key : List ℕ
first_key = 120 ∷ []

abbrev pub second_key : List ℕ
second_key = 121 ∷ []

-- the files: of the upload, of both downloads with their temporary files, and the one that is removed
abbrev pub source_path : List ℕ
source_path = codes "f"

abbrev pub first_path : List ℕ
first_path = codes "k"

abbrev pub first_temp : List ℕ
first_temp = codes "k.0a1b2c3d.s3part"

abbrev pub second_path : List ℕ
second_path = codes "l"

abbrev pub second_temp : List ℕ
second_temp = codes "l.0a1b2c3d.s3part"

abbrev pub removed_path : List ℕ
removed_path = codes "r"

abbrev pub bytes : List ℕ
bytes = 1 ∷ 2 ∷ []

-- the content of the first object, which is its ETag
abbrev pub content : List ℕ
content = 7 ∷ 8 ∷ []

abbrev pub download : (key etag path : List ℕ) → (size : ℕ) → Task
download key etag path size = record {
  kind = kind.Download;
  moves = false;
  source = Some (place.Object bucket key);
  dest = place.File path;
  size = size;
  etag = etag;
  micros = 5;
  content = None;
  fresh = false;
}

abbrev pub upload : Task
upload = tasks.upload bucket stored_key source_path 2 false

abbrev pub first_load : Task
first_load = download first_key content first_path 2

abbrev pub second_load : Task
second_load = download second_key (9 ∷ []) second_path 1

abbrev pub plan : List Task
plan = upload ∷ first_load ∷ second_load ∷ file_removal removed_path ∷ []

abbrev pub limits : Limits
limits = record { min_part = 1; max_part = 64; max_parts = 4; max_object = 64 }

abbrev pub config : Config
config = record { threshold = 3; chunk = 1; lanes = 1; queue = 1; buffers = 1; attempts = 1 }

-- ---- the requests

abbrev pub put_job : JobId
put_job = job_of 0 op.Put 0

abbrev pub get_job : ℕ → JobId
get_job n = job_of n op.Get 0

abbrev pub put : Ask
put = ask.Put bucket stored_key None false

abbrev pub first_get : Ask
first_get = ask.Get bucket first_key content None

abbrev pub second_get : Ask
second_get = ask.Get bucket second_key (9 ∷ []) None

abbrev pub denied : List ℕ
denied = codes "AccessDenied"

abbrev pub put_talk : Talk
put_talk = record { host = []; port = 80; sent = 1 ∷ bytes; got = []; ending = Finished }

abbrev pub first_talk : Talk
first_talk = record { host = []; port = 80; sent = 2 ∷ []; got = content; ending = Finished }

abbrev pub second_talk : Talk
second_talk = record { host = []; port = 80; sent = 3 ∷ []; got = denied; ending = Closed }

abbrev pub journal : List Event
journal =
    entry.Given put_job 0 ∷ entry.Came put_job 0 (mark.Success ∷ [])
    ∷ entry.Given (get_job 1) 0 ∷ entry.Came (get_job 1) 0 (mark.Success ∷ [])
    ∷ entry.Given (get_job 2) 0 ∷ entry.Came (get_job 2) 0 (mark.Refusal ∷ [])
    ∷ []

abbrev pub talks : List Talk
talks = put_talk ∷ first_talk ∷ second_talk ∷ []

abbrev pub notes : List Note
notes = Moment 1 ∷ Began ∷ Moment 2 ∷ Began ∷ Moment 3 ∷ Began ∷ []

-- ---- the calls on files

abbrev pub with_bytes : List ℕ → HeldFile
with_bytes of_file = record { bytes = of_file; micros = 0 }

abbrev pub held : MapOf HeldFile
held = insert (insert empty source_path (with_bytes bytes)) removed_path (with_bytes [])

abbrev pub after_removal : MapOf HeldFile
after_removal = remove held removed_path

abbrev pub with_temp : MapOf HeldFile
with_temp = insert after_removal first_temp (with_bytes [])

abbrev pub written : List ℕ
written = written_at 0 content []

abbrev pub filled : MapOf HeldFile
filled = insert with_temp first_temp (with_bytes written)

abbrev pub renamed : MapOf HeldFile
renamed = insert (remove filled first_temp) first_path (with_bytes written)

abbrev pub stamped : MapOf HeldFile
stamped = insert renamed first_path (record { bytes = written; micros = 5 })

abbrev pub left_over : MapOf HeldFile
left_over = insert stamped second_temp (with_bytes [])

abbrev pub call_of : (task events_before : ℕ) → Call → MapOf HeldFile → TaskCall
call_of task before call after =
    record { task = task; events_before = before; step = record { call = call; held = after } }

abbrev pub removes : TaskCall
removes = call_of 3 0 (Remove removed_path true) after_removal

abbrev pub makes_first : TaskCall
makes_first = call_of 1 2 (MakeTemp first_path (Ok first_temp)) with_temp

abbrev pub writes_first : TaskCall
writes_first = call_of 1 4 (WriteAt first_temp 0 content true) filled

abbrev pub renames_first : TaskCall
renames_first = call_of 1 4 (Rename first_temp first_path None) renamed

abbrev pub stamps_first : TaskCall
stamps_first = call_of 1 4 (Stamp first_path 5 true) stamped

abbrev pub makes_second : TaskCall
makes_second = call_of 2 4 (MakeTemp second_path (Ok second_temp)) left_over

-- the temporary file could not be dropped, and a warning names it
abbrev pub drops_second : TaskCall
drops_second = call_of 2 6 (DropTemp second_temp false) left_over

abbrev pub calls : List TaskCall
calls = removes ∷ makes_first ∷ writes_first ∷ renames_first ∷ stamps_first ∷ makes_second ∷ drops_second ∷ []

-- ---- the run

abbrev pub shown : Shown
shown = record {
  setting = record {
    config = config;
    limits = limits;
    lanes = 1;
    tasks = plan;
    dryrun = false;
    held = held;
    others = [];
    file_failed = λ task. false;
    cancelled_at = None;
    wanted_memory = λ task. false;
  };
  status = 1;
  outcomes = outcome.Done ∷ outcome.Done ∷ outcome.Failed (cause.Service op.Get denied []) ∷ outcome.Done ∷ [];
  journal = journal;
  logs = in_first talks;
  notes = in_first notes;
  held_after = left_over;
  excused = record { left = second_temp ∷ []; untimed = []; wanted_memory = false };
  file_calls = map (λ (c : TaskCall). c.step.call) calls;
  refused_page = None;
}

-- ---- the trace

abbrev pub start : State
start = with_object (one_bucket bucket) bucket first_key (object_of content)

abbrev pub stored : State
stored = with_object start bucket stored_key (object_of bytes)

abbrev pub sent : JobId → Ask → List ℕ → SentRequest
sent job asked body = record { job = job; number = 1; ask = asked; body = body }

abbrev pub trace : List Step
trace =
    step (Given put_job 0) start
    ∷ step (Begin 0 (sent put_job put bytes)) start
    ∷ step (Serve (sent put_job put bytes) (Replied reply.Stored [])) stored
    ∷ step (Came put_job 0 (mark.Success ∷ [])) stored
    ∷ step (Given (get_job 1) 0) stored
    ∷ step (Begin 0 (sent (get_job 1) first_get [])) stored
    ∷ step (Serve (sent (get_job 1) first_get []) (Replied (reply.Got 200 None 2) content)) stored
    ∷ step (Came (get_job 1) 0 (mark.Success ∷ [])) stored
    ∷ step (Given (get_job 2) 0) stored
    ∷ step (Begin 0 (sent (get_job 2) second_get [])) stored
    ∷ step (Serve (sent (get_job 2) second_get []) (Refused denied)) stored
    ∷ step (Came (get_job 2) 0 (mark.Refusal ∷ [])) stored
    ∷ []

-- It is carried out over wires and files, and this trace is one that fits it. It is that of a service which does what it
-- may, and the object of the first download is there as planned.
pub record IsMetByBoth (page_of : List ℕ → Listed) : Type 0 where
  pub dispatched : List Dispatched
  pub carried_out : IsPlanCarriedOut (Reads page_of) HasNoStatus (λ planning. planning ≡ []) (HasFailedCall calls)
      signed_body [] 80 shown dispatched dispatched calls
  pub fitting : IsFitting (Reads page_of) limits (run_of shown dispatched start trace) (IsDest plan)
  pub whole : HasJournal journal trace trace
  pub willing : IsWilling limits start trace
  pub certain : AreCertain (Reads page_of) dispatched
  pub alone : IsAlone trace
  pub counted : AreCallsCounted (Reads page_of) HasNoStatus (λ planning. planning ≡ []) (HasFailedCall calls) shown
  pub there : IsDownloadThere plan start 1 first_load

abbrev pub BothKindsAreMet : Type 0
BothKindsAreMet = (page_of : List ℕ → Listed) → IsMetByBoth page_of
