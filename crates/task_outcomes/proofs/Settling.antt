-- When a task has ended, and what first failed in it.
use Rattle.std.proofs.Common.{◌≡◌, ◌∙◌, ◌&&◌, ◌||◌, ◌++◌, ℕ, Bool, true, false, [], ◌∷◌, Option, Some, None, refl, sym, subst, ap, inl, inr}
use Rattle.std.specs.Option.{option_or}
use Rattle.std.specs.Prelude.{is_some, if◌then◌else◌}
use Rattle.jobs.specs.Endings.{SeenCarried}
use Rattle.s3_model.specs.declared.outcomes.Cause.{Cause}
use Rattle.s3_model.specs.declared.outcomes.Outcome.{Outcome}
use Rattle.s3_model.specs.declared.outcomes.Reason.{Reason}
use Rattle.s3_model.specs.declared.requests.Op.{Op}
use Rattle.task_acts.specs.declared.acts.Act.{Act}
use Rattle.task_acts.specs.declared.acts.FileCame.{FileCame}
use Rattle.task_acts.specs.declared.work.Work.{Work}
use Rattle.task_acts.specs.Ends.{decides, has_tries, how_ended, last_cause, outcome_of, settled}
use Rattle.task_acts.specs.Failures.{carried_cause, failure_by, first_failure, is_memory, wanted_memory}
use Rattle.task_acts.specs.Histories.{Came, Cancelled, Gave, Happening, History, Returned, Taken, sent}
use Rattle.task_acts.specs.Kept.{IsHistory}
use Rattle.shared_lemmas.proofs.Clashes.{none_is_some, some_is}
use Rattle.shared_lemmas.proofs.Members.{Has, has-append_cases}
use Rattle.task_progress.specs.Progress.{HasPiece}
use Rattle.task_progress.proofs.Endings.{no}
use Rattle.task_progress.proofs.Quiet.{IsQuiet, not_out, not_ready, outcome_quiet}
use Rattle.task_schedule.proofs.EventStops.{or_none}
use Rattle.task_schedule.proofs.Shown.{settled_how}

-- ---- the end

-- it changes nothing of a task that has ended
abbrev pub IsIdle : Happening → Type 0
IsIdle (Cancelled reason) = Unit {0}
IsIdle (Taken o k) = Unit {0}
IsIdle e = ⊥

-- where it ended
pub record Ended (w : Work) (h : History) (how : Outcome) : Type 0 where
  pub later : History
  pub then_ : History
  pub is : h ≡ later ++ then_
  pub so : how_ended w then_ ≡ Some how
  pub idle : (e : Happening) → Has later e → IsIdle e

ended_here : (w : Work) (h : History) (how : Outcome) → settled w h ≡ Some how → Ended w h how
ended_here w h how e = record { later = []; then_ = h; is = refl; so = settled_how w h how e; idle = λ x none. absurd none }

module _ (w : Work) (piece : HasPiece w) where
  nothing_more : (e : Happening) (h : History) → IsHistory w (e ∷ h) → IsQuiet w h → IsIdle e
  nothing_more (Gave a) h is quiet = no (not_ready w h piece is.1 quiet a is.0)
  nothing_more (Came c) h is quiet = no (not_out w h piece is.1 quiet (sent c) is.0.0)
  nothing_more (Returned a r) h is quiet = no (not_out w h piece is.1 quiet a is.0.1)
  nothing_more (Cancelled reason) h is quiet = tt
  nothing_more (Taken o k) h is quiet = tt

  pub ended_at : (h : History) (how : Outcome) → IsHistory w h → outcome_of w h ≡ Some how → Ended w h how
  ended_at [] how is e = ended_here w [] how e
  ended_at (event ∷ h) how is e = by (outcome_of w h) refl e (λ x f. ended_at h x is.1 f)
    where
      one_on : (x : Outcome) → outcome_of w h ≡ Some x → Ended w h x → Ended w (event ∷ h) x
      one_on x f ends = record {
        later = event ∷ ends.later;
        then_ = ends.then_;
        is = ap (λ (z : History). event ∷ z) ends.is;
        so = ends.so;
        idle = idle;
      }
        where
          idle : (y : Happening) → Has (event ∷ ends.later) y → IsIdle y
          idle y (inl same) = subst IsIdle same (nothing_more event h is (outcome_quiet w h piece is.1 (ap (λ (z : Option Outcome). is_some z) f)))
          idle y (inr known) = ends.idle y known

      by : (x : Option Outcome) → outcome_of w h ≡ x → option_or x (settled w (event ∷ h)) ≡ Some how → ((y : Outcome) → outcome_of w h ≡ Some y → Ended w h y) → Ended w (event ∷ h) how
      by None f g rest = ended_here w (event ∷ h) how g
      by (Some y) f g rest = subst (Ended w (event ∷ h)) (some_is y how g) (one_on y f (rest y f))

-- ---- what is idle

idle_no_failure : (w : Work) (e : Happening) → IsIdle e → failure_by w e ≡ None
idle_no_failure w (Cancelled reason) i = refl
idle_no_failure w (Taken o k) i = refl
idle_no_failure w e i = absurd i

idle_first : (w : Work) (later h : History) → ((e : Happening) → Has later e → IsIdle e) → first_failure w (later ++ h) ≡ first_failure w h
idle_first w [] h idle = refl
idle_first w (e ∷ later) h idle =
    ap (λ (x : Option Cause). option_or (first_failure w (later ++ h)) x) (idle_no_failure w e (idle e (inl refl))) ∙ or_none (first_failure w (later ++ h))
    ∙ idle_first w later h (λ x known. idle x (inr known))

module _ (w : Work) (h : History) (how : Outcome) (ends : Ended w h how) where
  pub failure_then : first_failure w h ≡ first_failure w ends.then_
  failure_then = ap (first_failure w) ends.is ∙ idle_first w ends.later ends.then_ ends.idle

  -- each return came before the end
  pub back_then : (e : Happening) → (IsIdle e → ⊥) → Has h e → Has ends.then_ e
  back_then e busy known = elim (has-append_cases ends.later ends.then_ e (subst (λ (z : History). Has z e) ends.is known)) [
    | inl late ↦ absurd (busy (ends.idle e late))
    | inr there ↦ there
  ]

-- ---- the first failure

pub record FailsFirst (w : Work) (h : History) (why : Cause) : Type 0 where
  pub later : History
  pub event : Happening
  pub before : History
  pub is : h ≡ later ++ event ∷ before
  pub none : first_failure w before ≡ None
  pub failure : failure_by w event ≡ Some why

module _ (w : Work) where
  pub fails_first : (h : History) (why : Cause) → first_failure w h ≡ Some why → FailsFirst w h why
  fails_first [] why e = absurd (none_is_some why e)
  fails_first (event ∷ h) why e = by (first_failure w h) refl e (λ x f. fails_first h x f)
    where
      one_on : (x : Cause) → FailsFirst w h x → FailsFirst w (event ∷ h) x
      one_on x f = record { later = event ∷ f.later; event = f.event; before = f.before; is = ap (λ (z : History). event ∷ z) f.is; none = f.none; failure = f.failure }

      by : (x : Option Cause) → first_failure w h ≡ x → option_or x (failure_by w event) ≡ Some why → ((y : Cause) → first_failure w h ≡ Some y → FailsFirst w h y) → FailsFirst w (event ∷ h) why
      by None none f rest = record { later = []; event = event; before = h; is = refl; none = none; failure = f }
      by (Some y) some f rest = subst (FailsFirst w (event ∷ h)) (some_is y why f) (one_on y (rest y some))

  -- memory ran out in none of it
  pub none_forgotten : (h : History) → wanted_memory w h ≡ false → (e : Happening) → Has h e → is_memory (failure_by w e) ≡ false
  none_forgotten [] none e known = absurd known
  none_forgotten (x ∷ h) none e known = by known (neither (wanted_memory w h) (is_memory (failure_by w x)) none) (λ f g. none_forgotten h f e g)
    where
      neither : (a b : Bool) → (a || b) ≡ false → (a ≡ false) × (b ≡ false)
      neither true b f = no (sym f)
      neither false b f = (refl, f)

      by : Has (x ∷ h) e → (wanted_memory w h ≡ false) × (is_memory (failure_by w x) ≡ false) → (wanted_memory w h ≡ false → Has h e → is_memory (failure_by w e) ≡ false) → is_memory (failure_by w e) ≡ false
      by (inl same) two rest = subst (λ (y : Happening). is_memory (failure_by w y) ≡ false) same two.1
      by (inr there) two rest = rest two.0 there

-- ---- the last attempt of the deciding request

pub record TriedLast (w : Work) (h : History) (why : Cause) : Type 0 where
  pub later : History
  pub carried : SeenCarried
  pub before : History
  pub is : h ≡ later ++ Came carried ∷ before
  pub decided : decides w carried ≡ true
  pub tried : has_tries carried ≡ true
  pub cause_is : carried_cause w carried ≡ Some why
  pub none : (c : SeenCarried) → Has later (Came c) → decides w c ≡ true → has_tries c ≡ false

module _ (w : Work) where
  one_later : (e : Happening) (h : History) (why : Cause) → ((c : SeenCarried) → e ≡ Came c → decides w c ≡ true → has_tries c ≡ false) → TriedLast w h why → TriedLast w (e ∷ h) why
  one_later e h why apart t = record {
    later = e ∷ t.later;
    carried = t.carried;
    before = t.before;
    is = ap (λ (z : History). e ∷ z) t.is;
    decided = t.decided;
    tried = t.tried;
    cause_is = t.cause_is;
    none = none;
  }
    where
      none : (c : SeenCarried) → Has (e ∷ t.later) (Came c) → decides w c ≡ true → has_tries c ≡ false
      none c (inl same) d = apart c same d
      none c (inr known) d = t.none c known d

  pub tried_last : (h : History) (why : Cause) → last_cause w h ≡ Some why → TriedLast w h why
  tried_last [] why e = absurd (none_is_some why e)
  tried_last (Came x ∷ h) why e = by (decides w x) refl (has_tries x) refl e (λ f. tried_last h why f)
    where
      same : (c : SeenCarried) → Came x ≡ Came c → x ≡ c
      same c f = cc

      here : decides w x ≡ true → has_tries x ≡ true → carried_cause w x ≡ Some why → TriedLast w (Came x ∷ h) why
      here d t f = record { later = []; carried = x; before = h; is = refl; decided = d; tried = t; cause_is = f; none = λ c none. absurd none }

      by : (d : Bool) → decides w x ≡ d → (t : Bool) → has_tries x ≡ t → (if d && t then carried_cause w x else last_cause w h) ≡ Some why → (last_cause w h ≡ Some why → TriedLast w h why)
          → TriedLast w (Came x ∷ h) why
      by true d true t f rest = here d t f
      by true d false t f rest = one_later (Came x) h why (λ c e d. subst (λ (z : SeenCarried). has_tries z ≡ false) (same c e) t) (rest f)
      by false d t u f rest = one_later (Came x) h why (λ c e g. no (sym d ∙ subst (λ (z : SeenCarried). decides w z ≡ true) (sym (same c e)) g)) (rest f)
  tried_last (Gave a ∷ h) why e = one_later (Gave a) h why (λ c f. absurd (clash a c f)) (tried_last h why e)
    where
      clash : (a : Act) (c : SeenCarried) → Gave a ≡ Came c → ⊥
      clash a c f = cc
  tried_last (Returned a r ∷ h) why e = one_later (Returned a r) h why (λ c f. absurd (clash a r c f)) (tried_last h why e)
    where
      clash : (a : Act) (r : FileCame) (c : SeenCarried) → Returned a r ≡ Came c → ⊥
      clash a r c f = cc
  tried_last (Cancelled reason ∷ h) why e = one_later (Cancelled reason) h why (λ c f. absurd (clash reason c f)) (tried_last h why e)
    where
      clash : (r : Reason) (c : SeenCarried) → Cancelled r ≡ Came c → ⊥
      clash r c f = cc
  tried_last (Taken o k ∷ h) why e = one_later (Taken o k) h why (λ c f. absurd (clash o k c f)) (tried_last h why e)
    where
      clash : (o : Op) (k : ℕ) (c : SeenCarried) → Taken o k ≡ Came c → ⊥
      clash o k c f = cc
