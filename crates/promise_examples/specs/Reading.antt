-- A reading of talks for examples: what came back is a text, and how the talk ended says what it means.
use Rattle.std.specs.Prelude.{◌≡◌, ℕ, List, [], ◌∷◌, None, length}
use Rattle.s3_model.specs.declared.requests.Ask.{Ask}
use Rattle.s3_model.specs.declared.requests.Ask.TheVariants as ask
use Rattle.s3_model.specs.declared.answers.Listed.{Listed}
use Rattle.s3_model.specs.declared.answers.Reply.{Reply}
use Rattle.s3_model.specs.declared.answers.Reply.TheVariants as reply
use Rattle.s3_model.specs.declared.answers.Class.{Class}
use Rattle.s3_model.specs.declared.answers.Class.TheVariants as class
use Rattle.s3_model.specs.declared.answers.Why.TheVariants as why
use Rattle.s3_model.specs.declared.outcomes.Cause.{Cause}
use Rattle.s3_model.specs.Replies.{IsSameClass}
use Rattle.s3_model.specs.Talks.{Talk, Ending, Failed, Closed, Finished}

-- `page_of text`: the page that a text says
module _ (page_of : List ℕ → Listed) where
  -- the reply to a request, where an id, an ETag or the bytes of an object are the text that came back
  abbrev pub reply_to : Ask → List ℕ → Reply
  reply_to (ask.Get bucket key etag range) got = reply.Got 200 None (length got)
  reply_to (ask.Copy bucket key from_bucket from_key etag) got = reply.Copied
  reply_to (ask.Delete bucket key) got = reply.Gone
  reply_to (ask.Create bucket key content) got = reply.Created got
  reply_to (ask.Part bucket key upload number) got = reply.PartStored got
  reply_to (ask.Complete bucket key upload etags fresh) got = reply.Completed
  reply_to (ask.Abort bucket key upload) got = reply.Gone
  reply_to (ask.List bucket prefix delimited token) got = reply.Listed (page_of got)
  reply_to asked got = reply.Stored

  -- a talk that finished is a success, one that the other side closed a refusal with that code, and one that failed
  -- is lost
  abbrev pub class_by : Ending → Ask → List ℕ → Class
  class_by Finished asked got = class.Success (reply_to asked got)
  class_by Closed asked got = class.Refusal got []
  class_by Failed asked got = class.Uncertain why.WireFailed

  -- the bytes of an answer, where a Get's are shown
  abbrev pub body_by : Ask → List ℕ → List ℕ
  body_by (ask.Get bucket key etag range) got = got
  body_by asked got = []

  -- A page is shown by its items alone: how many more would fit its lists without memory is left open.
  abbrev pub Reads : Ask → ℕ → Talk → Class → List ℕ → Type 0
  Reads asked limit talk shown bytes =
      IsSameClass (class_by talk.ending asked talk.got) shown × (bytes ≡ body_by asked talk.got)

-- no talk shows a status
abbrev pub HasNoStatus : Ask → ℕ → Talk → ℕ → Type 0
HasNoStatus asked limit talk status = ⊥

-- no call on files failed
abbrev pub NeverFailed : ℕ → Cause → Type 0
NeverFailed n why = ⊥

-- the text of a request is its moment and its body
abbrev pub signed_body : Ask → List ℕ → ℕ → List ℕ
signed_body asked body moment = moment ∷ body
