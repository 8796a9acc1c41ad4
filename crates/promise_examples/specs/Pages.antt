-- A run whose planning lists a bucket in two pages.
use Rattle.std.specs.Prelude.{ℕ, true, false, List, [], ◌∷◌, Option, Some, None}
use Rattle.std.specs.FinMap.{empty}
use Rattle.s3_model.specs.declared.requests.Ask.{Ask}
use Rattle.s3_model.specs.declared.requests.Ask.TheVariants as ask
use Rattle.s3_model.specs.declared.requests.Op.TheVariants as op
use Rattle.s3_model.specs.declared.answers.Listed.{Listed}
use Rattle.s3_model.specs.declared.answers.Reply.TheVariants as reply
use Rattle.s3_model.specs.declared.outcomes.JobId.{JobId}
use Rattle.s3_model.specs.declared.outcomes.Event.TheVariants as entry
use Rattle.s3_model.specs.declared.places.Entry.{Entry}
use Rattle.s3_model.specs.declared.settings.Limits.{Limits}
use Rattle.s3_model.specs.declared.tries.Mark.TheVariants as mark
use Rattle.s3_model.specs.Talks.{Talk, Finished, Moment, Began}
use Rattle.s3_service.specs.ServiceState.{State, Object, with_object, with_token}
use Rattle.s3_service.specs.Serves.{Replied}
use Rattle.run_promise.specs.Planning.{Listing, PlansFor}
use Rattle.run_promise.specs.Traces.{SentRequest, Step, Given, Begin, Serve, Came}
use Rattle.job_terms.specs.Attempts.{in_first}
use Rattle.promise_examples.specs.Reading.{Reads}
use Rattle.promise_examples.specs.Services.{object_of, one_bucket}
use Rattle.promise_examples.specs.Runs.{Example, IsMet}

-- ---- the bucket `b`, with an object of one byte under `a`, and one under `c`

abbrev pub bucket : List ℕ
bucket = 98 ∷ []

abbrev pub first_key : List ℕ
first_key = 97 ∷ []

abbrev pub last_key : List ℕ
last_key = 99 ∷ []

abbrev pub an_object : Object
an_object = object_of (1 ∷ [])

abbrev pub full : State
full = with_object (with_object (one_bucket bucket) bucket last_key an_object) bucket first_key an_object

-- ---- its pages

abbrev pub entry_of : List ℕ → Entry
entry_of key = record { key = key; size = 1; etag = 1 ∷ []; micros = 0 }

abbrev pub token : List ℕ
token = 116 ∷ []

-- the page that a text says: the first where it is a token, and else the last; `spare` is as its reader has it
abbrev pub page_with : ℕ → List ℕ → Listed
page_with spare [] = record {
  entries = record { items = entry_of last_key ∷ []; spare = spare };
  prefixes = record { items = []; spare = spare };
  more = false;
  token = None;
}
page_with spare (byte ∷ bytes) = record {
  entries = record { items = entry_of first_key ∷ []; spare = spare };
  prefixes = record { items = []; spare = spare };
  more = true;
  token = Some (byte ∷ bytes);
}

-- ---- the run

abbrev pub list_job : ℕ → JobId
list_job number = record { task = None; op = op.List; number = number }

abbrev pub list_after : Option (List ℕ) → Ask
list_after token = ask.List bucket [] false token

abbrev pub talk_of : ℕ → List ℕ → Talk
talk_of moment got = record { host = []; port = 80; sent = moment ∷ []; got = got; ending = Finished }

-- planning alone, over one lane
abbrev pub listing_run : Limits → Example
listing_run limits = record {
  setting = record {
    config = record { threshold = 1; chunk = 1; lanes = 1; queue = 1; buffers = 1; attempts = 1 };
    limits = limits;
    lanes = 1;
    tasks = [];
    dryrun = false;
    held = empty;
    others = [];
    file_failed = λ task. false;
    cancelled_at = None;
    wanted_memory = λ task. false;
  };
  outcomes = [];
  journal = entry.Given (list_job 0) 0 ∷ entry.Came (list_job 0) 0 (mark.Success ∷ []) ∷ entry.Given (list_job 1) 0
      ∷ entry.Came (list_job 1) 0 (mark.Success ∷ []) ∷ [];
  logs = in_first (talk_of 5 token ∷ talk_of 6 [] ∷ []);
  notes = in_first (Moment 5 ∷ Began ∷ Moment 6 ∷ Began ∷ []);
}

-- ---- the trace: the service answers with pages whose lists have no room

abbrev pub request : ℕ → Option (List ℕ) → SentRequest
request number after = record { job = list_job number; number = 1; ask = list_after after; body = [] }

abbrev pub listed : State
listed = with_token full token first_key

abbrev pub listing_trace : List Step
listing_trace =
    record { event = Given (list_job 0) 0; state = full }
    ∷ record { event = Begin 0 (request 0 None); state = full }
    ∷ record { event = Serve (request 0 None) (Replied (reply.Listed (page_with 0 token)) []); state = listed }
    ∷ record { event = Came (list_job 0) 0 (mark.Success ∷ []); state = listed }
    ∷ record { event = Given (list_job 1) 0; state = listed }
    ∷ record { event = Begin 0 (request 1 (Some token)); state = listed }
    ∷ record { event = Serve (request 1 (Some token)) (Replied (reply.Listed (page_with 0 [])) []); state = listed }
    ∷ record { event = Came (list_job 1) 0 (mark.Success ∷ []); state = listed }
    ∷ []

-- The planning needs this listing, and has it in two pages, whatever room the reader's lists have.
abbrev pub TwoPagesAreMet : Type 0
TwoPagesAreMet = (limits : Limits) (spare : ℕ)
    → IsMet (page_with spare) (PlansFor (Reads (page_with spare)) (λ prefix pages. ⊥) ⊥ None
    (Listing bucket [] false ∷ [])) (listing_run limits) full listing_trace
