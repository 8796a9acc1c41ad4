-- Of what came back for a request: a break or an answer, and where memory is wanted to say what it means.
use Rattle.std.specs.Prelude.{◌≡◌, ◌≤◌, ◌<◌, ◌⊎◌, ⊤, ℕ}
use Rattle.s3_model.specs.declared.requests.Ask.{Ask}
use Rattle.s3_model.specs.declared.requests.Ask.TheVariants as ask
use Rattle.s3_model.specs.declared.answers.Answered.{Answered}
use Rattle.s3_model.specs.declared.answers.Class.{Class}
use Rattle.s3_model.specs.declared.answers.Class.TheVariants as class
use Rattle.s3_model.specs.declared.answers.Talked.{Talked}
use Rattle.s3_model.specs.declared.answers.Talked.TheVariants as talked
use Rattle.s3_model.specs.declared.answers.Why.{Why}
use Rattle.s3_model.specs.declared.answers.Why.TheVariants as why
use Rattle.s3_model.specs.Classes.{IsTwoHundred}
use Rattle.answer_classes.specs.Showing.{HasClass}

abbrev pub IfBroken : Talked → (Why → Type 0) → Type 0
IfBroken (talked.Broken reason) P = P reason
IfBroken (talked.Answered answered) P = ⊤

abbrev pub IfAnswered : Talked → (Answered → Type 0) → Type 0
IfAnswered (talked.Broken reason) P = ⊤
IfAnswered (talked.Answered answered) P = P answered

-- the requests whose success stands in the document of its answer
abbrev pub NeedsDocument : Ask → Type 0
NeedsDocument (ask.Copy bucket key from_bucket from_key etag) = ⊤
NeedsDocument (ask.PartCopy bucket key upload number from_bucket from_key etag range) = ⊤
NeedsDocument (ask.Create bucket key content) = ⊤
NeedsDocument (ask.Complete bucket key upload etags fresh) = ⊤
NeedsDocument (ask.List bucket prefix delimited token) = ⊤
NeedsDocument ask.Buckets = ⊤
NeedsDocument asked = ⊥

-- a success that no document decides: its class is the same with any
abbrev pub IsUnread : Ask → (status : ℕ) → Type 0
IsUnread asked status = IsTwoHundred status × (NeedsDocument asked → ⊥)

-- the answers whose document is read, or whose refusal gets the text of its status: for no other does memory run out
abbrev pub WantsMemory : Ask → (status : ℕ) → Type 0
WantsMemory asked status =
    (IsTwoHundred status × NeedsDocument asked) ⊎ ((300 ≤ status) × (status < 500)) ⊎ (status ≡ 503)

-- The class of an answer, unless memory ran out where it is wanted. The body of the answer is its document.
abbrev pub IsClassed : Ask → Answered → Class → Type 0
IsClassed asked answered shown =
    HasClass asked answered answered.body.bytes shown
    ⊎ ((shown ≡ class.Uncertain why.Memory) × WantsMemory asked answered.status)
