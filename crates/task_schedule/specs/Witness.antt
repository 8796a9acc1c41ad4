-- A run of one small upload that meets what the law on shares takes.
use Rattle.std.specs.Prelude.{[], ◌∷◌, ◌≡◌, ℕ, true, false, List, Some, None}
use Rattle.std.specs.FinMap.{empty}
use Rattle.jobs.specs.Holders.{Holder}
use Rattle.jobs.specs.Jobs.{IsAskOf}
use Rattle.jobs.specs.declared.what.What.{What}
use Rattle.manager_moves.specs.Examples.{put_out, shared, stored, upload}
use Rattle.manager_moves.specs.Runs.{Called, Events, Lined, Made, share}
use Rattle.job_terms.specs.Dispatches.{Dispatched}
use Rattle.run_promise.specs.Schedule.{Setting, most_body}
use Rattle.job_terms.specs.Jobs.{job_of}
use Rattle.s3_model.specs.Talks.{Closed, Talk}
use Rattle.s3_model.specs.declared.answers.Class.{Class}
use Rattle.s3_model.specs.declared.answers.Class.TheVariants as class
use Rattle.s3_model.specs.declared.answers.Reply.TheVariants as reply
use Rattle.s3_model.specs.declared.bytes.Part.{Part}
use Rattle.s3_model.specs.declared.places.Place.TheVariants as place
use Rattle.s3_model.specs.declared.requests.Ask.{Ask}
use Rattle.s3_model.specs.declared.requests.Ask.TheVariants as ask
use Rattle.s3_model.specs.declared.requests.Op.TheVariants as op
use Rattle.s3_model.specs.declared.tasks.Kind.TheVariants as kind
use Rattle.s3_model.specs.declared.tasks.Task.{Task}
use Rattle.s3_model.specs.declared.tries.Mark.TheVariants as mark
use Rattle.task_acts.specs.declared.acts.Act.TheVariants as act
use Rattle.task_acts.specs.declared.acts.FileCame.TheVariants as file
use Rattle.kept_jobs.specs.Steps.{IsStepOf}
use Rattle.task_schedule.specs.Journals.{IsRunOf, ShowOne}

abbrev pub small_task : Task
small_task = record {
  kind = kind.Upload;
  moves = false;
  source = None;
  dest = place.Object [] [];
  size = 5;
  etag = [];
  micros = 0;
  content = None;
  fresh = false;
}

abbrev pub small_setting : Setting
small_setting = record {
  config = record { threshold = 10; chunk = 10; lanes = 1; queue = 1; buffers = 1; attempts = 3 };
  limits = record { min_part = 1; max_part = 10; max_parts = 10; max_object = 100 };
  lanes = 1;
  tasks = small_task ∷ [];
  dryrun = false;
  held = empty;
  others = [];
  file_failed = λ n. false;
  cancelled_at = None;
  wanted_memory = λ n. false;
}

-- every talk shows that the object was stored
abbrev pub ShowsStored : Ask → ℕ → Talk → Class → List ℕ → Type 0
ShowsStored asked limit talk shown bytes = shown ≡ class.Success reply.Stored

abbrev pub no_talk : Talk
no_talk = record { host = []; port = 0; sent = []; got = []; ending = Closed }

abbrev pub small_put : Dispatched
small_put = record {
  dispatch = record {
    job = job_of 0 op.Put 0;
    lane = 0;
    given_at = 0;
    came_at = Some 1;
    earlier = 0;
    is_second = false;
    attempts = record { mark = mark.Success; talk = no_talk } ∷ [];
  };
  ask = ask.Put [] [] None false;
  body = [];
  limit = most_body;
  size = 5;
}

-- with another size of its source
abbrev pub sized_put : ℕ → Dispatched
sized_put size = record small_put { size = size }

-- before it comes back
abbrev pub open_put : Dispatched
open_put = record small_put { dispatch = record small_put.dispatch { came_at = None; attempts = [] } }

-- the file was read
abbrev pub read_run : Events
read_run = Called 0 (act.Read 0) file.Fine ∷ Made true ∷ []

module _ (for : What) (cell : Holder) (part : Part) where
  -- its Put was sent, and came back with success
  abbrev pub put_back : Events
  put_back = stored for cell part 0 0 ∷ put_out for cell part 0 0 (Made true ∷ [])

  -- and its line was due
  abbrev pub put_run : Events
  put_run = Lined ∷ put_back

-- Whatever a job keeps of its task, its cell and its part.
abbrev pub RunIsMet : Type 0
RunIsMet = (for : What) (cell : Holder) (part : Part)
    → IsStepOf small_task upload (share upload 0 read_run) op.Put 0 for
    → IsAskOf (job_of 0 op.Put 0) for small_put.ask
    → ShowOne ShowsStored × IsRunOf ShowsStored (shared (upload ∷ []) 1 1 1) small_setting 0 (put_run for cell part)
    (small_put ∷ []) (small_put ∷ [])
