-- A small object that is moved to a file: its download with its calls on files, and the Delete of its source.
use Rattle.std.specs.Prelude.{◌≡◌, ℕ, true, false, List, [], ◌∷◌, None, Ok, codes, map}
use Rattle.std.specs.FinMap.{empty, insert, remove}
use Rattle.s3_model.specs.declared.answers.Listed.{Listed}
use Rattle.s3_model.specs.declared.answers.Reply.TheVariants as reply
use Rattle.s3_model.specs.declared.outcomes.Event.TheVariants as entry
use Rattle.s3_model.specs.declared.outcomes.JobId.{JobId}
use Rattle.s3_model.specs.declared.outcomes.Outcome.TheVariants as outcome
use Rattle.s3_model.specs.declared.requests.Ask.{Ask}
use Rattle.s3_model.specs.declared.requests.Ask.TheVariants as ask
use Rattle.s3_model.specs.declared.requests.Op.TheVariants as op
use Rattle.s3_model.specs.declared.settings.Config.{Config}
use Rattle.s3_model.specs.declared.settings.Limits.{Limits}
use Rattle.s3_model.specs.declared.tasks.Task.{Task}
use Rattle.s3_model.specs.declared.tries.Mark.TheVariants as mark
use Rattle.s3_model.specs.Files.{HeldFile}
use Rattle.s3_model.specs.Maps.{MapOf}
use Rattle.s3_model.specs.Talks.{Began, Finished, Moment, Talk}
use Rattle.s3_service.specs.ServiceState.{State, with_object, without_object}
use Rattle.s3_service.specs.Serves.{Replied}
use Rattle.job_terms.specs.Attempts.{in_first}
use Rattle.job_terms.specs.Dispatches.{Dispatched, dispatches}
use Rattle.job_terms.specs.Jobs.{job_of}
use Rattle.local_files.specs.Calls.{MakeTemp, Rename, Stamp, WriteAt, written_at}
use Rattle.run_promise.specs.Endings.{Excused}
use Rattle.run_promise.specs.FileCalls.{AreCalls, AreFileCalls, FileRun, IsRenamed, TaskCall}
use Rattle.run_promise.specs.FileOutcomes.{HasFailedAct, IsShownByCalls}
use Rattle.run_promise.specs.Schedule.{Setting}
use Rattle.run_promise.specs.Traces.{Begin, Came, Given, SentRequest, Serve, Step}
use Rattle.promise_examples.specs.BothKinds as both
use Rattle.promise_examples.specs.BothKinds.{call_of, with_bytes}
use Rattle.promise_examples.specs.Everything.{step}
use Rattle.promise_examples.specs.Reading.{Reads}
use Rattle.promise_examples.specs.Runs.{Example, IsMet}
use Rattle.promise_examples.specs.Services.{object_of, one_bucket}

-- ---- the task

abbrev pub bucket : List ℕ
bucket = 98 ∷ []

abbrev pub key : List ℕ
key = 120 ∷ []

-- the bytes of the object, which are its ETag
abbrev pub content : List ℕ
content = 7 ∷ 8 ∷ []

abbrev pub path : List ℕ
path = codes "k"

abbrev pub temp : List ℕ
temp = codes "k.0a1b2c3d.s3part"

abbrev pub load : Task
load = record (both.download key content path 2) { moves = true }

abbrev pub config : Config
config = record { threshold = 3; chunk = 1; lanes = 1; queue = 1; buffers = 1; attempts = 1 }

abbrev pub limits : Limits
limits = record { min_part = 1; max_part = 64; max_parts = 4; max_object = 64 }

abbrev pub setting : Setting
setting = record {
  config = config;
  limits = limits;
  lanes = 1;
  tasks = load ∷ [];
  dryrun = false;
  held = empty;
  others = [];
  file_failed = λ task. false;
  cancelled_at = None;
  wanted_memory = λ task. false;
}

-- ---- its requests

abbrev pub get_job : JobId
get_job = job_of 0 op.Get 0

abbrev pub delete_job : JobId
delete_job = job_of 0 op.Delete 0

abbrev pub get_asks : Ask
get_asks = ask.Get bucket key content None

abbrev pub delete_asks : Ask
delete_asks = ask.Delete bucket key

abbrev pub get_talk : Talk
get_talk = record { host = []; port = 80; sent = 1 ∷ []; got = content; ending = Finished }

abbrev pub delete_talk : Talk
delete_talk = record { host = []; port = 80; sent = 2 ∷ []; got = []; ending = Finished }

abbrev pub moved_run : Example
moved_run = record {
  setting = setting;
  outcomes = outcome.Done ∷ [];
  journal = entry.Given get_job 0 ∷ entry.Came get_job 0 (mark.Success ∷ [])
      ∷ entry.Given delete_job 0 ∷ entry.Came delete_job 0 (mark.Success ∷ []) ∷ [];
  logs = in_first (get_talk ∷ delete_talk ∷ []);
  notes = in_first (Moment 1 ∷ Began ∷ Moment 2 ∷ Began ∷ []);
}

-- ---- its calls on files

abbrev pub with_temp : MapOf HeldFile
with_temp = insert empty temp (with_bytes [])

abbrev pub written : List ℕ
written = written_at 0 content []

abbrev pub filled : MapOf HeldFile
filled = insert with_temp temp (with_bytes written)

abbrev pub renamed : MapOf HeldFile
renamed = insert (remove filled temp) path (with_bytes written)

abbrev pub stamped : MapOf HeldFile
stamped = insert renamed path (record { bytes = written; micros = 5 })

abbrev pub makes : TaskCall
makes = call_of 0 0 (MakeTemp path (Ok temp)) with_temp

abbrev pub writes : TaskCall
writes = call_of 0 2 (WriteAt temp 0 content true) filled

-- when so many events of the journal stood before it
abbrev pub renames_at : ℕ → TaskCall
renames_at place = call_of 0 place (Rename temp path None) renamed

abbrev pub stamps_at : ℕ → TaskCall
stamps_at place = call_of 0 place (Stamp path 5 true) stamped

-- it is renamed at that place
abbrev pub calls_with : ℕ → List TaskCall
calls_with place = makes ∷ writes ∷ renames_at place ∷ stamps_at place ∷ []

-- before the Delete of its source is given
abbrev pub calls : List TaskCall
calls = calls_with 2

abbrev pub excused : Excused
excused = record { left = []; untimed = []; wanted_memory = false }

-- ---- the trace

abbrev pub start : State
start = with_object (one_bucket bucket) bucket key (object_of content)

abbrev pub gone : State
gone = without_object start bucket key

abbrev pub sent : JobId → Ask → SentRequest
sent job asked = record { job = job; number = 1; ask = asked; body = [] }

abbrev pub trace : List Step
trace = step (Given get_job 0) start ∷ step (Begin 0 (sent get_job get_asks)) start
    ∷ step (Serve (sent get_job get_asks) (Replied (reply.Got 200 None 2) content)) start
    ∷ step (Came get_job 0 (mark.Success ∷ [])) start
    ∷ step (Given delete_job 0) start ∷ step (Begin 0 (sent delete_job delete_asks)) start
    ∷ step (Serve (sent delete_job delete_asks) (Replied reply.Gone [])) gone
    ∷ step (Came delete_job 0 (mark.Success ∷ [])) gone ∷ []

-- ---- the run

module _ (page_of : List ℕ → Listed) where
  abbrev pub file_run : (dispatched coming : List Dispatched) → FileRun
  file_run dispatched coming = record {
    setting = setting;
    excused = excused;
    dispatched = dispatched;
    coming = coming;
    calls = calls;
  }

  -- It meets every definition, its calls keep to their clauses, and they show that the task is done.
  pub record IsMovedDownloadMet : Type 0 where
    pub met : IsMet page_of (λ planning. planning ≡ []) moved_run start trace
    pub are_calls : AreCalls (Reads page_of) (file_run met.dispatched met.coming)
    pub shown : IsShownByCalls outcome.Done (IsRenamed calls 0) (HasFailedAct calls 0)

  -- The Delete of its source was given before the file was renamed.
  abbrev pub IsLateRename : Type 0
  IsLateRename = (dispatched coming : List Dispatched)
      → map (λ (c : Dispatched). c.dispatch) dispatched ≡ dispatches moved_run.journal moved_run.logs
      → ¬ (AreFileCalls (Reads page_of) setting excused dispatched coming (calls_with 3))

abbrev pub MovedDownloadIsMet : Type 0
MovedDownloadIsMet = (page_of : List ℕ → Listed) → IsMovedDownloadMet page_of

abbrev pub LateRenameIsRefused : Type 0
LateRenameIsRefused = (page_of : List ℕ → Listed) → IsLateRename page_of
