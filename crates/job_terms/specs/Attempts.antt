-- What a wire shows of the attempts of jobs: talks, pauses, moments, and the texts that were sent.
use Rattle.std.specs.Prelude.{◌≡◌, ◌+◌, ◌-◌, ◌^◌, ◌≤◌, ◌++◌, ◌⊎◌, ◌==◌, ℕ, List, [], ◌∷◌, Option, Some}
use Rattle.std.specs.Prelude.{None, map, filter, filter_map, length, Contains}
use Rattle.std.specs.Prelude.{min, nat_le, if◌then◌else◌}
use Rattle.s3_model.specs.declared.requests.Ask.{Ask}
use Rattle.s3_model.specs.declared.answers.Class.{Class}
use Rattle.s3_model.specs.declared.answers.Class.TheVariants as class
use Rattle.s3_model.specs.declared.tries.Mark.{Mark}
use Rattle.s3_model.specs.declared.tries.Mark.TheVariants as mark
use Rattle.s3_model.specs.Talks.{Talk, Note, Moment, Pause, Began}
use Rattle.job_terms.specs.Dispatches.{Attempt, Dispatched}

abbrev pub mark_of : Class → Mark
mark_of (class.Success reply) = mark.Success
mark_of (class.Refusal code message) = mark.Refusal
mark_of (class.Uncertain why) = mark.Uncertain

abbrev pub talks_of : Dispatched → List Talk
talks_of c = map (λ (attempt : Attempt). attempt.talk) c.dispatch.attempts

abbrev pub IsPrefixOf : List ℕ → List ℕ → Type 0
IsPrefixOf xs ys = (rest : List ℕ) × (xs ++ rest ≡ ys)

-- the pauses before the nth attempt of a job
abbrev pub pauses_before : ℕ → List ℕ
pauses_before n = if nat_le n 1 then [] else min 20 (2 ^ (n - 2)) ∷ []

abbrev pub pause_of : Note → Option ℕ
pause_of (Pause seconds) = Some seconds
pause_of (Moment seconds) = None
pause_of Began = None

-- an attempt with the job that it is of, and its number, counted from 1
pub record Numbered : Type 0 where
  pub of : Dispatched
  pub number : ℕ
  pub attempt : Attempt

abbrev pub numbered_from : Dispatched → ℕ → List Attempt → List Numbered
numbered_from c k [] = []
numbered_from c k (attempt ∷ attempts) =
    record { of = c; number = c.dispatch.earlier + k + 1; attempt = attempt } ∷ numbered_from c (k + 1) attempts

abbrev pub in_lane : ℕ → List Dispatched → List Dispatched
in_lane lane dispatched = filter (λ (c : Dispatched). c.dispatch.lane == lane) dispatched

-- what is in the first lane alone
abbrev pub in_first : {A : Type 0} → List A → ℕ → List A
in_first given lane = if lane == 0 then given else []

-- `Shows ask limit talk class bytes`: the talk has that class for the ask, and its answer that body;
-- `request_text ask body moment`: the text of a request, signed at that moment
module _ (Shows : Ask → ℕ → Talk → Class → List ℕ → Type 0) (request_text : Ask → List ℕ → ℕ → List ℕ)
    (host : List ℕ) (port : ℕ) where
  -- the whole text was sent, or a beginning of it where the answer leaves it open
  abbrev pub SaysAll : Class → List ℕ → List ℕ → Type 0
  SaysAll (class.Success reply) sent text = sent ≡ text
  SaysAll (class.Refusal code message) sent text = sent ≡ text
  SaysAll (class.Uncertain why) sent text = IsPrefixOf sent text

  -- the talk goes to the endpoint and says the request at that moment
  pub record IsSaid (a : Numbered) (moment : ℕ) : Type 0 where
    pub to_host : a.attempt.talk.host ≡ host
    pub to_port : a.attempt.talk.port ≡ port
    pub text : (shown : Class) (bytes : List ℕ) → Shows a.of.ask a.of.limit a.attempt.talk shown bytes
        → SaysAll shown a.attempt.talk.sent (request_text a.of.ask a.of.body moment)
    pub beginning : IsPrefixOf a.attempt.talk.sent (request_text a.of.ask a.of.body moment)

  -- The notes of a wire: before each attempt its pause and then a moment, at which it is signed.
  -- Of the pauses so many may be followed by no attempt, those after which memory ran out.
  abbrev pub AreNoted : (unused : ℕ) → List Numbered → List Note → Type 0
  AreNoted unused [] notes =
      ¬ (Contains notes Began) × ((filter_map pause_of notes ≡ []) ⊎ (length (filter_map pause_of notes) ≤ unused))
  AreNoted unused (a ∷ attempts) notes =
      (front : List Note) × (seconds : ℕ) × (rest : List Note) × (extra : List ℕ)
      × (notes ≡ front ++ Moment seconds ∷ Began ∷ rest) × ¬ (Contains front Began)
      × (filter_map pause_of front ≡ extra ++ pauses_before a.number) × ((extra ≡ []) ⊎ (length extra ≤ unused))
      × IsSaid a seconds
      × AreNoted (unused - length extra) attempts rest
