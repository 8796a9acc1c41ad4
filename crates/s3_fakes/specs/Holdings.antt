-- What a service in memory holds, and how it may change.
use Rattle.std.specs.Prelude.{◌≡◌, ℕ, Bool, List, [], ◌∷◌, refl}
use Rattle.std.specs.Coded.{Coded, code_by, coded×, coded_bool, coded_ℕ}
use Rattle.s3_model.specs.declared.answers.Reply.{Reply}
use Rattle.s3_model.specs.declared.requests.Ask.{Ask}
use Rattle.s3_model.specs.declared.settings.Limits.{Limits}
use Rattle.object_table.specs.Codes.{state_code}
use Rattle.object_table.specs.declared.fault.Refusal.{Refusal}
use Rattle.s3_service.specs.Willing.{HasRange, IsWholeObject, SaysIfThere}
use Rattle.s3_service.specs.ServiceState.{State, HasBucket}
use Rattle.s3_service.specs.Serves.{ExternalWrite, Succeeds, after_external, bucket_of}
use Rattle.service_answers.specs.Statuses.{refusal_code}
use Rattle.service_answers.specs.declared.gained.Gained.{Gained}
use Rattle.table_service.specs.Served.{IsServed, reply_of}

-- what a service holds, the limits of its uploads in parts, and whether a script or somebody else steps in
pub record Holdings : Type 0 where
  pub limits : Limits
  pub state : State
  pub is_scripted : Bool

abbrev pub limits_code : Coded Limits
limits_code = code_by (ℕ × (ℕ × (ℕ × ℕ))) (coded× coded_ℕ (coded× coded_ℕ (coded× coded_ℕ coded_ℕ)))
    (λ l. (l.min_part, (l.max_part, (l.max_parts, l.max_object))))
    (λ p. record { min_part = p.0; max_part = p.1.0; max_parts = p.1.1.0; max_object = p.1.1.1 }) (λ _. refl)

abbrev pub holdings_code : Coded Holdings
holdings_code = code_by (Limits × (State × Bool)) (coded× limits_code (coded× state_code coded_bool))
    (λ h. (h.limits, (h.state, h.is_scripted)))
    (λ p. record { limits = p.0; state = p.1.0; is_scripted = p.1.1 }) (λ _. refl)

-- what happens to a service: a request is served, refused or not understood, or somebody else writes
pub data Happening : Type 0 where
  Serves : (asked : Ask) → (body : List ℕ) → (got : Gained) → Happening
  Refuses : (asked : Ask) → (body : List ℕ) → (why : Refusal) → Happening
  Misreads : Happening
  Writes : (write : ExternalWrite) → Happening

abbrev pub IsRequest : Happening → Type 0
IsRequest (Writes write) = ⊥
IsRequest happening = Unit {0}

-- A request is refused only where it cannot succeed, and says so where it is not to replace what is there.
pub record IsRefused (limits : Limits) (old : State) (asked : Ask) (body : List ℕ) (why : Refusal) : Type 0 where
  pub cannot : (answered : Reply) (bytes : List ℕ) (new : State) → ¬ (Succeeds limits old asked body answered bytes new)
  pub says : SaysIfThere old asked (refusal_code why)

-- one of these makes the new state of the old one
abbrev pub Happens : Limits → State → Happening → State → Type 0
Happens limits old (Serves asked body got) new =
    IsServed limits old asked body got new × (HasRange asked → ¬ (IsWholeObject (reply_of got)))
Happens limits old (Refuses asked body why) new = (new ≡ old) × IsRefused limits old asked body why
Happens limits old Misreads new = new ≡ old
Happens limits old (Writes write) new = HasBucket old (bucket_of write) × (new ≡ after_external write old)

-- these happened one after the other, the last of them first
abbrev pub Happened : Limits → State → List Happening → State → Type 0
Happened limits old [] new = new ≡ old
Happened limits old (last ∷ before) new =
    (mid : State) × Happened limits old before mid × Happens limits mid last new

-- Between the two nothing happened but requests and writes of somebody else.
pub record Follows (old new : Holdings) : Type 0 where
  pub limits : new.limits ≡ old.limits
  pub scripted : new.is_scripted ≡ old.is_scripted
  pub state : (happenings : List Happening) × Happened old.limits old.state happenings new.state

-- Between the two one request was served, refused or not understood, and nothing else happened.
pub record IsAnswered (old new : Holdings) : Type 0 where
  pub limits : new.limits ≡ old.limits
  pub scripted : new.is_scripted ≡ old.is_scripted
  pub happening : Happening
  pub request : IsRequest happening
  pub happens : Happens old.limits old.state happening new.state
