-- Runs that make one request after another, each answered at once: they show that the laws can be met.
use Rattle.std.specs.Prelude.{◌≡◌, ◌+◌, ℕ, Bool, true, false, List, [], ◌∷◌, Some, None, length}
use Rattle.s3_model.specs.declared.requests.Ask.{Ask}
use Rattle.s3_model.specs.declared.requests.Ask.TheVariants as ask
use Rattle.s3_model.specs.declared.answers.Listed.{Listed}
use Rattle.s3_model.specs.declared.answers.Reply.{Reply}
use Rattle.s3_model.specs.declared.answers.Reply.TheVariants as reply
use Rattle.s3_model.specs.declared.answers.Class.{Class}
use Rattle.s3_model.specs.declared.outcomes.Cause.{Cause}
use Rattle.s3_model.specs.declared.answers.Class.TheVariants as class
use Rattle.s3_model.specs.declared.answers.Why.TheVariants as why
use Rattle.s3_model.specs.declared.outcomes.JobId.{JobId}
use Rattle.s3_model.specs.declared.outcomes.Event.{Event}
use Rattle.s3_model.specs.declared.outcomes.Event.TheVariants as entry
use Rattle.s3_model.specs.declared.settings.Limits.{Limits}
use Rattle.s3_model.specs.declared.tries.Mark.{Mark}
use Rattle.s3_model.specs.declared.tries.Mark.TheVariants as mark
use Rattle.s3_model.specs.Talks.{Talk, Ending, Failed, Closed, Finished}
use Rattle.s3_service.specs.ServiceState.{State}
use Rattle.s3_service.specs.Serves.{Answer, Replied, Refused, Serves}
use Rattle.job_terms.specs.Dispatches.{Attempt, Dispatched}
use Rattle.run_promise.specs.Traces.{Step, Given, Begin, Serve, Came}
use Rattle.run_promise.specs.Fits.{request_at}
use Rattle.run_promise.specs.Schedule.{most_body}

-- ---- a reading of talks

-- a page of one object, whose bytes are its ETag
abbrev pub page_of : List ℕ → List ℕ → Listed
page_of key bytes = record {
  entries = record { items = record { key = key; size = length bytes; etag = bytes; micros = 0 } ∷ []; spare = 0 };
  prefixes = record { items = []; spare = 0 };
  more = false;
  token = None;
}

-- the reply to a request, where an id, an ETag or the bytes of an object are the text that came back; `size` is that of
-- the whole object
abbrev pub reply_to : Ask → List ℕ → ℕ → Reply
reply_to (ask.Get bucket key etag None) got size = reply.Got 200 None (length got)
reply_to (ask.Get bucket key etag (Some range)) got size = reply.Got 206 (Some (range.0, range.1, size)) (length got)
reply_to (ask.Head bucket key) got size = reply.Found (length got) got 0
reply_to (ask.Copy bucket key from_bucket from_key etag) got size = reply.Copied
reply_to (ask.Delete bucket key) got size = reply.Gone
reply_to (ask.Create bucket key content) got size = reply.Created got
reply_to (ask.Part bucket key upload number) got size = reply.PartStored got
reply_to (ask.PartCopy bucket key upload number from_bucket from_key etag range) got size = reply.PartStored got
reply_to (ask.Complete bucket key upload etags fresh) got size = reply.Completed
reply_to (ask.Abort bucket key upload) got size = reply.Gone
reply_to (ask.List bucket prefix delimited token) got size = reply.Listed (page_of prefix got)
reply_to asked got size = reply.Stored

-- the body of an answer, where a Get's is told
abbrev pub body_by : Ask → List ℕ → List ℕ
body_by (ask.Get bucket key etag range) got = got
body_by asked got = []

-- a talk that finished is a success, one that the other side closed a refusal, and one that failed is lost; its port
-- stands for the size
abbrev pub class_by : Ending → Ask → List ℕ → ℕ → Class
class_by Finished asked got size = class.Success (reply_to asked got size)
class_by Closed asked got size = class.Refusal got []
class_by Failed asked got size = class.Uncertain why.WireFailed

abbrev pub Told : Ask → ℕ → Talk → Class → List ℕ → Type 0
Told asked limit talk shown bytes = (shown ≡ class_by talk.ending asked talk.got talk.port)
    × (bytes ≡ body_by asked talk.got)

abbrev pub status_by : Ending → ℕ
status_by Finished = 200
status_by Closed = 403
status_by Failed = 0

abbrev pub ToldStatus : Ask → ℕ → Talk → ℕ → Type 0
ToldStatus asked limit talk status = status ≡ status_by talk.ending

-- a command that plans without a request
abbrev pub AreNone : List Dispatched → Type 0
AreNone jobs = jobs ≡ []

-- every text is empty
abbrev pub no_text : Ask → List ℕ → ℕ → List ℕ
no_text asked body moment = []

-- ---- rounds

-- a job with its request, whether it was refused, the text that came back, the size of the source of its task, and the
-- state after it
pub record Round : Type 0 where
  pub job : JobId
  pub ask : Ask
  pub body : List ℕ
  pub refused : Bool
  pub got : List ℕ
  pub size : ℕ
  pub after : State

abbrev pub answer_by : Bool → Ask → List ℕ → ℕ → Answer
answer_by true asked got size = Refused got
answer_by false asked got size = Replied (reply_to asked got size) (body_by asked got)

abbrev pub ending_by : Bool → Ending
ending_by true = Closed
ending_by false = Finished

abbrev pub mark_by : Bool → Mark
mark_by true = mark.Refusal
mark_by false = mark.Success

abbrev pub attempt_of : Round → Attempt
attempt_of r = record {
  mark = mark_by r.refused;
  talk = record { host = []; port = r.size; sent = []; got = r.got; ending = ending_by r.refused };
}

-- the dispatch of a round, given at a place of the journal
abbrev pub dispatch_at : ℕ → Round → Dispatched
dispatch_at place r = record {
  dispatch = record {
    job = r.job;
    lane = 0;
    given_at = place;
    came_at = Some (place + 1);
    earlier = 0;
    is_second = false;
    attempts = attempt_of r ∷ [];
  };
  ask = r.ask;
  body = r.body;
  limit = most_body;
  size = r.size;
}

abbrev pub dispatched_from : ℕ → List Round → List Dispatched
dispatched_from place [] = []
dispatched_from place (r ∷ rounds) = dispatch_at place r ∷ dispatched_from (place + 2) rounds

abbrev pub journal_of : List Round → List Event
journal_of [] = []
journal_of (r ∷ rounds) = entry.Given r.job 0 ∷ entry.Came r.job 0 (mark_by r.refused ∷ []) ∷ journal_of rounds

-- each is given, begins, is served and comes
abbrev pub steps_from : ℕ → State → List Round → List Step
steps_from place old [] = []
steps_from place old (r ∷ rounds) =
    record { event = Given r.job 0; state = old }
    ∷ record { event = Begin 0 (request_at (dispatch_at place r) 0); state = old }
    ∷ record {
      event =
          Serve (request_at (dispatch_at place r) 0) (answer_by r.refused r.ask r.got r.size);
      state = r.after;
    }
    ∷ record { event = Came r.job 0 (mark_by r.refused ∷ []); state = r.after } ∷ steps_from (place + 2) r.after rounds

-- each is served as it says
abbrev pub AreServed : Limits → State → List Round → Type 0
AreServed limits old [] = Unit {0}
AreServed limits old (r ∷ rounds) = Serves limits old r.ask r.body (answer_by r.refused r.ask r.got r.size) r.after
    × AreServed limits r.after rounds

-- no call on files failed
abbrev pub NeverFailed : ℕ → Cause → Type 0
NeverFailed n why = ⊥
