-- What the wires show of a run without a job.
use Rattle.std.proofs.Common.{◌≡◌, ◌==◌, ◌≤◌, ℕ, zero, suc, false, List, [], refl, sym, subst, inl, arith}
use Rattle.s3_model.specs.declared.requests.Ask.{Ask}
use Rattle.s3_model.specs.declared.answers.Class.{Class}
use Rattle.s3_model.specs.declared.outcomes.Event.TheVariants as entry
use Rattle.s3_model.specs.Talks.{Talk, Note, Began}
use Rattle.run_promise.specs.Schedule.{Setting}
use Rattle.run_promise.specs.Carried.{IsCarried}
use Rattle.job_terms.specs.Attempts.{AreNoted, Numbered, in_first}
use Rattle.shared_lemmas.proofs.Clashes.{none_is_some}
use Rattle.upload_promise.specs.Puts.{AreIdle}
use Rattle.upload_promise.proofs.JobLemmas.{in_none}

pub none_idle : AreIdle []
none_idle = record { no_talk = λ h. in_none Began h; no_pause = refl }

pub in_first_none : {A : Type 0} (lane : ℕ) → in_first {A = A} [] lane ≡ []
in_first_none zero = refl
in_first_none (suc lane) = let other : (suc lane == 0) ≡ false = grind arith in rw other refl

pub in_first_other : {A : Type 0} (given : List A) (lane : ℕ) → in_first given (suc lane) ≡ []
in_first_other given lane = let other : (suc lane == 0) ≡ false = grind arith in rw other refl

-- beyond the lanes used, which are the first
pub beyond_first : {A : Type 0} (given : List A) (lane : ℕ) → 1 ≤ lane → in_first given lane ≡ []
beyond_first given zero beyond = absurd (omega arith)
beyond_first given (suc lane) beyond = in_first_other given lane

idle_in : (notes : List Note) → AreIdle notes → (lane : ℕ) → AreIdle (in_first notes lane)
idle_in notes idle zero = idle
idle_in notes idle (suc lane) = subst (λ (all : List Note). AreIdle all) (sym (in_first_other notes lane)) none_idle

module _ (Shows : Ask → ℕ → Talk → Class → List ℕ → Type 0) (request_text : Ask → List ℕ → ℕ → List ℕ) (host : List ℕ) (port : ℕ) where
  abbrev Noted : List Numbered → List Note → Type 0
  Noted attempts notes = AreNoted Shows request_text host port 0 attempts notes

  idle_noted : (notes : List Note) → AreIdle notes → Noted [] notes
  idle_noted notes idle = (idle.no_talk, inl idle.no_pause)

  -- ---- no job

  pub none_carried : (s : Setting) (notes : List Note) → AreIdle notes → 1 ≤ s.lanes → IsCarried Shows request_text host port s [] (in_first []) (in_first notes) [] []
  none_carried s notes idle has_lane = record {
    shown = refl;
    comes = λ c known. absurd (in_none c known);
    lanes = λ c known. absurd (in_none c known);
    unused_lanes = λ lane beyond. (in_first_none lane, beyond_first notes lane (omega arith));
    nothing_else = λ at lane j marks e. absurd (none_is_some (entry.Came j lane marks) e);
    in_turn = λ lane i j d before inside. absurd (omega arith);
    gained = λ lane. in_first_none lane;
    noted = λ lane. (0, omega arith, idle_noted (in_first notes lane) (idle_in notes idle lane));
    marks = λ c k a known at_k. absurd (in_none c known);
    again = λ c k a known at_k more. absurd (in_none c known);
    given_again = λ i j d before inside. absurd (omega arith);
    at_most = λ c known. absurd (in_none c known);
    to_the_end = λ c a known last goes_on. absurd (in_none c known);
    silent = λ c known none. absurd (in_none c known);
  }
