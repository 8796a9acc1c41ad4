-- An object of two bytes that is copied in two parts.
use Rattle.std.specs.Prelude.{◌-◌, ℕ, false, List, [], ◌∷◌, None}
use Rattle.std.specs.FinMap.{empty, insert}
use Rattle.s3_model.specs.declared.outcomes.JobId.{JobId}
use Rattle.s3_model.specs.declared.outcomes.Outcome.TheVariants as outcome
use Rattle.s3_model.specs.declared.requests.Ask.{Ask}
use Rattle.s3_model.specs.declared.requests.Ask.TheVariants as ask
use Rattle.s3_model.specs.declared.requests.Op.TheVariants as op
use Rattle.s3_model.specs.declared.settings.Config.{Config}
use Rattle.s3_model.specs.declared.settings.Limits.{Limits}
use Rattle.s3_model.specs.declared.tasks.Task.{Task}
use Rattle.s3_model.specs.Documents.{document_of}
use Rattle.s3_service.specs.ServiceState.{CompletedBy, State, StoredPart, Upload, with_ended, with_object, with_part}
use Rattle.s3_service.specs.ServiceState.{with_upload}
use Rattle.job_terms.specs.Dispatches.{Dispatched}
use Rattle.job_terms.specs.Jobs.{job_of}
use Rattle.run_promise.specs.Outcomes.{HasOutcome}
use Rattle.run_promise.specs.Runs.{HasJournal, IsFitting, Run}
use Rattle.run_promise.specs.Schedule.{IsSchedule, Setting}
use Rattle.run_promise.specs.Truthful.{IsDest}
use Rattle.world_laws.specs.ExampleTasks as tasks
use Rattle.world_laws.specs.Rounds.{AreNone, NeverFailed, Round, Told, ToldStatus, dispatched_from, journal_of}
use Rattle.world_laws.specs.Rounds.{steps_from}
use Rattle.promise_examples.specs.Services.{object_of, one_bucket}

-- ---- the task

abbrev pub bucket : List ℕ
bucket = 98 ∷ []

abbrev pub key : List ℕ
key = 117 ∷ []

abbrev pub from_key : List ℕ
from_key = 115 ∷ []

-- the bytes of the source, which are its ETag
abbrev pub content : List ℕ
content = 7 ∷ 8 ∷ []

abbrev pub task : Task
task = record (tasks.moved_copy bucket key bucket from_key content 2) { moves = false }

-- each part has one byte
abbrev pub config : Config
config = record { threshold = 1; chunk = 1; lanes = 1; queue = 1; buffers = 1; attempts = 1 }

abbrev pub limits : Limits
limits = record { min_part = 1; max_part = 64; max_parts = 4; max_object = 64 }

abbrev pub setting : Setting
setting = record {
  config = config;
  limits = limits;
  lanes = 1;
  tasks = task ∷ [];
  dryrun = false;
  held = empty;
  others = [];
  file_failed = λ n. false;
  cancelled_at = None;
  wanted_memory = λ n. false;
}

-- ---- the states of the service

abbrev pub id : List ℕ
id = 105 ∷ []

abbrev pub start : State
start = with_object (one_bucket bucket) bucket from_key (object_of content)

-- a part of one byte, under its ETag
abbrev pub part : (byte etag : ℕ) → StoredPart
part byte etag = record { bytes = byte ∷ []; etag = etag ∷ [] }

abbrev pub no_part : Upload
no_part = record { bucket = bucket; key = key; parts = empty }

abbrev pub one_part : Upload
one_part = record no_part { parts = insert no_part.parts 1 (part 7 49) }

abbrev pub both_parts : Upload
both_parts = record no_part { parts = insert one_part.parts 2 (part 8 50) }

abbrev pub created : State
created = with_upload start id no_part

abbrev pub after_one : State
after_one = with_part created id no_part 1 (part 7 49)

abbrev pub after_both : State
after_both = with_part after_one id one_part 2 (part 8 50)

abbrev pub stored : State
stored = with_object after_both bucket key (object_of content)

abbrev pub etags : List (List ℕ)
etags = (49 ∷ []) ∷ (50 ∷ []) ∷ []

abbrev pub completed : State
completed = with_ended stored id (CompletedBy etags)

-- ---- the requests

abbrev pub part_copy : (number : ℕ) → Ask
part_copy number = ask.PartCopy bucket key id number bucket from_key content (number - 1, number - 1)

abbrev pub complete : Ask
complete = ask.Complete bucket key id (record { items = etags; spare = 0 }) false

-- one that came with success
abbrev pub round : JobId → Ask → (body got : List ℕ) → State → Round
round job asked body got after =
    record { job = job; ask = asked; body = body; refused = false; got = got; size = 2; after = after }

abbrev pub creating : Round
creating = round (job_of 0 op.Create 0) (ask.Create bucket key None) [] id created

abbrev pub copying : (number etag : ℕ) → State → Round
copying number etag after = round (job_of 0 op.PartCopy number) (part_copy number) [] (etag ∷ []) after

abbrev pub completing : Round
completing = round (job_of 0 op.Complete 0) complete (document_of complete) [] completed

abbrev pub rounds : List Round
rounds = creating ∷ copying 1 49 after_one ∷ copying 2 50 after_both ∷ completing ∷ []

-- ---- the run

abbrev pub jobs : List Dispatched
jobs = dispatched_from 0 rounds

abbrev pub run : Run
run = record {
  start = start;
  trace = steps_from 0 start rounds;
  journal = journal_of rounds;
  dispatched = jobs;
  refused_page = None;
}

-- Its jobs keep to the schedule of one copy, and its trace is one that fits. The copy is done.
pub record CopyInPartsIsMet : Type 0 where
  pub schedule : IsSchedule Told setting AreNone jobs jobs
  pub fitting : IsFitting Told limits run (IsDest setting.tasks)
  pub whole : HasJournal run.journal run.trace run.trace
  pub ended : HasOutcome Told ToldStatus NeverFailed setting jobs jobs 0 task outcome.Done
