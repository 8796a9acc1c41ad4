-- What one talk shows of its request: its answer, the class of it, or the reason for which there is none.
use Rattle.std.specs.Prelude.{◌≡◌, ◌⊎◌, ◌↔◌, ℕ, Bool, true, false, List, [], Some}
use Rattle.s3_model.specs.declared.requests.Ask.{Ask}
use Rattle.s3_model.specs.declared.requests.Ask.TheVariants as ask
use Rattle.s3_model.specs.declared.answers.Answered.{Answered}
use Rattle.s3_model.specs.declared.answers.Class.{Class}
use Rattle.s3_model.specs.declared.answers.Class.TheVariants as class
use Rattle.s3_model.specs.declared.answers.Why.{Why}
use Rattle.s3_model.specs.declared.answers.Why.TheVariants as why
use Rattle.s3_model.specs.Classes.{IsClass}
use Rattle.s3_model.specs.Replies.{IsSameClass}
use Rattle.s3_model.specs.Talks.{Talk, Failed}
use Rattle.answer_grammar.specs.Answer.{HasAnswer, IsOfTalk}
use Rattle.answer_grammar.specs.Breaks.{IsBreak}
use Rattle.answer_classes.specs.Documents.{ReadsError, ReadsReply}

-- the answer to a HEAD has no body
abbrev pub is_head : Ask → Bool
is_head (ask.Head bucket key) = true
is_head asked = false

-- The answer to the request has this class. `document` is the body that the grammar of the answer gives.
abbrev pub HasClass : Ask → Answered → (document : List ℕ) → Class → Type 0
HasClass asked answered document shown = IsClass ReadsError ReadsReply asked answered document shown

-- the bytes that came are this answer with this body, which for a 2xx has at most `limit` bytes
abbrev pub IsAnswered : Ask → (limit : ℕ) → Talk → Answered → (body : List ℕ) → Type 0
IsAnswered asked limit talk answered body = HasAnswer (is_head asked) (Some limit) talk.got talk.ending answered body

-- a break of the talk: what its bytes and its ending come to; and a call of the wire failed in it exactly where that
-- is the reason
pub record IsBroken (asked : Ask) (limit : ℕ) (talk : Talk) (reason : Why) : Type 0 where
  pub of_talk : IsOfTalk reason
  pub breaks : IsBreak (is_head asked) (Some limit) talk.got talk.ending reason
  pub failed : (reason ≡ why.WireFailed) ↔ (talk.ending ≡ Failed)

-- The talk has that class for the request, and its answer that body.
abbrev pub Shows : Ask → (limit : ℕ) → Talk → Class → (bytes : List ℕ) → Type 0
Shows asked limit talk shown bytes =
    ((answered : Answered) × IsAnswered asked limit talk answered bytes × HasClass asked answered bytes shown)
    ⊎ ((reason : Why) × IsBroken asked limit talk reason × (shown ≡ class.Uncertain reason) × (bytes ≡ []))

-- the answer of the talk has that HTTP status
abbrev pub HasStatus : Ask → (limit : ℕ) → Talk → (status : ℕ) → Type 0
HasStatus asked limit talk status =
    (answered : Answered) × (body : List ℕ) × IsAnswered asked limit talk answered body × (answered.status ≡ status)

-- No talk shows two classes or two bodies. A page and a list of buckets are compared by their items.
abbrev pub OneShown : Type 0
OneShown = (asked : Ask) (limit : ℕ) (talk : Talk) (one same : Class) (bytes body : List ℕ)
    → Shows asked limit talk one bytes → Shows asked limit talk same body → IsSameClass one same × (bytes ≡ body)
