-- Wires and jobs that are written out: when they are carried.
use Rattle.std.proofs.Common.{◌≡◌, ◌∙◌, ◌⊎◌, ◌==◌, ◌+◌, ◌<◌, ◌≤◌, ℕ, zero, suc, Bool, true, false, List, [], ◌∷◌, Option, Some, None, refl, sym, ap, subst, inl, inr, Contains, filter, length, slice_get, map, arith}
use Rattle.std.specs.Prelude.{flat_map}
use Rattle.s3_model.specs.declared.answers.Class.{Class}
use Rattle.s3_model.specs.declared.answers.Class.TheVariants as class
use Rattle.s3_model.specs.declared.answers.Listed.{Listed}
use Rattle.s3_model.specs.declared.outcomes.Event.{Event}
use Rattle.s3_model.specs.declared.outcomes.Event.TheVariants as entry
use Rattle.s3_model.specs.declared.tries.Mark.{Mark}
use Rattle.s3_model.specs.Classes.{is_tried_again}
use Rattle.s3_model.specs.Replies.{IsSameClass}
use Rattle.s3_model.specs.Talks.{Talk, Note, Began}
use Rattle.job_terms.specs.Dispatches.{Attempt, Dispatched, dispatches, last_of}
use Rattle.run_promise.specs.Schedule.{Setting, IsBefore}
use Rattle.run_promise.specs.Carried.{IsCarried, WouldGoOn, MayStop, IsWanting}
use Rattle.job_terms.specs.Attempts.{AreNoted, in_lane, numbered_from, talks_of, mark_of, in_first}
use Rattle.promise_examples.specs.Everything.{in_two}
use Rattle.promise_examples.specs.Reading.{Reads, body_by, signed_body}
use Rattle.promise_examples.proofs.Concrete.{Each, each, has, Slots, slot, Pairs, pairs, none_is_some, some_is}
use Rattle.promise_examples.proofs.Readings.{never_memory, shown_by, reads}
use Rattle.promise_examples.proofs.Repeats.{Repeats, all_repeats}

-- ---- lanes

filter_none : {X : Type 0} (test : X → Bool) (xs : List X) → Each (λ x. test x ≡ false) xs → filter test xs ≡ []
filter_none test [] all = refl
filter_none test (x ∷ xs) all = rw all.0 (filter_none test xs all.1)

other_lane : (lane n other : ℕ) → lane < n → n ≤ other → (lane == other) ≡ false
other_lane lane n other inside beyond = grind arith

abbrev pub IsInLanes : ℕ → Dispatched → Type 0
IsInLanes n c = c.dispatch.lane < n

apart : (n other : ℕ) (xs : List Dispatched) → Each (IsInLanes n) xs → n ≤ other → Each (λ (c : Dispatched). (c.dispatch.lane == other) ≡ false) xs
apart n other [] all beyond = tt
apart n other (c ∷ xs) all beyond = (other_lane c.dispatch.lane n other all.0 beyond, apart n other xs all.1 beyond)

-- no job stands in a lane that is not used
pub none_beyond : (n other : ℕ) (xs : List Dispatched) → Each (IsInLanes n) xs → n ≤ other → in_lane other xs ≡ []
none_beyond n other xs all beyond = filter_none (λ (c : Dispatched). c.dispatch.lane == other) xs (apart n other xs all beyond)

-- what stands in the first lane alone stands in no other
pub none_in : {X : Type 0} (given : List X) (lane : ℕ) → 1 ≤ lane → in_first given lane ≡ []
none_in given zero beyond = absurd (omega arith)
none_in given (suc lane) beyond = let other : (suc lane == 0) ≡ false = grind arith in rw other refl

-- what stands in the first two lanes stands in no other
pub none_in_two : {A : Type 0} (first second : List A) (lane : ℕ) → 2 ≤ lane → in_two first second lane ≡ []
none_in_two first second zero beyond = absurd (omega arith)
none_in_two first second (suc zero) beyond = absurd (omega arith)
none_in_two first second (suc (suc lane)) beyond =
    let a : (suc (suc lane) == 0) ≡ false = grind arith in
    let b : (suc (suc lane) == 1) ≡ false = grind arith in
    rw (a, b) refl

-- ---- classes that are the same

pub same_again : (a b : Class) → IsSameClass a b → is_tried_again a ≡ is_tried_again b
same_again (class.Success a) (class.Success b) h = refl
same_again (class.Success a) b h = ap is_tried_again h
same_again a b h = ap is_tried_again h

pub nothing_begins : ¬ (Contains [] Began)
nothing_begins h = has [] Began h

module _ (page_of : List ℕ → Listed) (s : Setting) (coming : List Dispatched) where
  abbrev pub Goes : Dispatched → Attempt → Type 0
  Goes c attempt = is_tried_again (shown_by page_of c.ask attempt.talk) ≡ true

  pub would_go_on : (c : Dispatched) (attempt : Attempt) → Goes c attempt → WouldGoOn (Reads page_of) signed_body [] 80 c attempt
  would_go_on c attempt e = (shown_by page_of c.ask attempt.talk, body_by page_of c.ask attempt.talk.got, reads page_of c.ask c.limit attempt.talk, e)

  pub goes_on : (c : Dispatched) (attempt : Attempt) → WouldGoOn (Reads page_of) signed_body [] 80 c attempt → Goes c attempt
  goes_on c attempt h = same_again (shown_by page_of c.ask attempt.talk) h.0 h.2.0 ∙ h.3

  -- ---- the clauses, by what is written out

  abbrev pub IsMarked : Dispatched → ℕ → Attempt → Type 0
  IsMarked c k attempt = attempt.mark ≡ mark_of (shown_by page_of c.ask attempt.talk)

  abbrev pub GoesOn : Dispatched → ℕ → Attempt → Type 0
  GoesOn c k attempt = k + 1 < length c.dispatch.attempts → Goes c attempt

  abbrev pub MayEnd : Dispatched → Type 0
  MayEnd c = (c.dispatch.earlier + length c.dispatch.attempts ≡ s.config.attempts) ⊎ IsWanting (Reads page_of) signed_body [] 80 s c ⊎ MayStop (Reads page_of) signed_body [] 80 s coming c

  abbrev pub EndRule : Dispatched → Option Attempt → Type 0
  EndRule c None = IsWanting (Reads page_of) signed_body [] 80 s c ⊎ MayStop (Reads page_of) signed_body [] 80 s coming c
  EndRule c (Some attempt) = Goes c attempt → MayEnd c

  abbrev pub LastGoes : Dispatched → Option Attempt → Type 0
  LastGoes c None = Unit {0}
  LastGoes c (Some attempt) = Goes c attempt

  -- its last attempt would be tried again, and it had not used all of them
  abbrev pub GoesFurther : Dispatched → Type 0
  GoesFurther c = LastGoes c (last_of c.dispatch.attempts) × (length c.dispatch.attempts < s.config.attempts)

  of_last : (c : Dispatched) (last : Option Attempt) (attempt : Attempt) → EndRule c last → last ≡ Some attempt → Goes c attempt → MayEnd c
  of_last c None attempt rule e = absurd (none_is_some attempt e)
  of_last c (Some last) attempt rule e = λ goes. rule (subst (Goes c) (sym (some_is last attempt e)) goes)

  last_goes : (c : Dispatched) (last : Option Attempt) (attempt : Attempt) → LastGoes c last → last ≡ Some attempt → Goes c attempt
  last_goes c None attempt rule e = absurd (none_is_some attempt e)
  last_goes c (Some last) attempt rule e = subst (Goes c) (some_is last attempt e) rule

  abbrev pub ComesOf : List Dispatched → List Event → Dispatched → Type 0
  ComesOf dispatched journal c = (place : ℕ) × (tries : List Mark) × (c.dispatch.came_at ≡ Some place)
      × (slice_get journal place ≡ Some (entry.Came c.dispatch.job c.dispatch.lane tries)) × (length tries ≡ length c.dispatch.attempts)

  abbrev pub IsKnown : List Dispatched → ℕ → Event → Type 0
  IsKnown dispatched place (entry.Came job lane tries) = (c : Dispatched) × Contains dispatched c × (c.dispatch.came_at ≡ Some place)
  IsKnown dispatched place (entry.Given job lane) = Unit {0}

  abbrev pub InTurn : Dispatched → Dispatched → Type 0
  InTurn a b = (place : ℕ) → b.dispatch.came_at ≡ Some place → IsBefore a.dispatch.came_at place

  -- what the wire of a lane is to show
  pub record IsLane (logs : ℕ → List Talk) (notes : ℕ → List Note) (dispatched : List Dispatched) (lane : ℕ) : Type 0 where
    pub in_turn : Pairs InTurn (in_lane lane dispatched)
    pub gained : logs lane ≡ flat_map talks_of (in_lane lane dispatched)
    pub noted : AreNoted (Reads page_of) signed_body [] 80 0 (flat_map (λ (c : Dispatched). numbered_from c 0 c.dispatch.attempts) (in_lane lane dispatched)) (notes lane)

  pub record IsWritten (journal : List Event) (logs : ℕ → List Talk) (notes : ℕ → List Note) (dispatched : List Dispatched) : Type 0 where
    pub shown : map (λ (c : Dispatched). c.dispatch) dispatched ≡ dispatches journal logs
    pub comes : Each (ComesOf dispatched journal) dispatched
    pub inside : Each (IsInLanes s.lanes) dispatched
    pub unused : (lane : ℕ) → s.lanes ≤ lane → (logs lane ≡ []) × (notes lane ≡ [])
    pub known : Slots (IsKnown dispatched) journal
    pub lanes : (lane : ℕ) → lane < s.lanes → IsLane logs notes dispatched lane
    pub marks : Each (λ (c : Dispatched). Slots (IsMarked c) c.dispatch.attempts) dispatched
    pub again : Each (λ (c : Dispatched). Slots (GoesOn c) c.dispatch.attempts) dispatched
    pub given_again : Repeats (λ (a b : Dispatched). GoesFurther a) dispatched
    pub at_most : Each (λ (c : Dispatched). c.dispatch.earlier + length c.dispatch.attempts ≤ s.config.attempts) dispatched
    pub ends : Each (λ (c : Dispatched). EndRule c (last_of c.dispatch.attempts)) dispatched

  module _ (journal : List Event) (logs : ℕ → List Talk) (notes : ℕ → List Note) (dispatched : List Dispatched) (w : IsWritten journal logs notes dispatched) where
    beyond_is : (lane : ℕ) → s.lanes ≤ lane → in_lane lane dispatched ≡ []
    beyond_is lane beyond = none_beyond s.lanes lane dispatched w.inside beyond

    nothing : (lane : ℕ) → s.lanes ≤ lane → IsLane logs notes dispatched lane
    nothing lane beyond = record {
      in_turn = subst (Pairs InTurn) (sym (beyond_is lane beyond)) tt;
      gained = (w.unused lane beyond).0 ∙ sym (ap (flat_map talks_of) (beyond_is lane beyond));
      noted = subst (λ (all : List Dispatched). AreNoted (Reads page_of) signed_body [] 80 0 (flat_map (λ (c : Dispatched). numbered_from c 0 c.dispatch.attempts) all) (notes lane)) (sym (beyond_is lane beyond))
          (subst (λ (all : List Note). AreNoted (Reads page_of) signed_body [] 80 0 [] all) (sym (w.unused lane beyond).1) (nothing_begins, inl refl));
    }

    one_of : (lane n : ℕ) → (lane < n) ⊎ (n ≤ lane)
    one_of zero zero = inr (omega arith)
    one_of zero (suc n) = inl (omega arith)
    one_of (suc lane) zero = inr (omega arith)
    one_of (suc lane) (suc n) = elim (one_of lane n) [ inl h ↦ inl (omega arith) | inr h ↦ inr (omega arith) ]

    lane_is : (lane : ℕ) → IsLane logs notes dispatched lane
    lane_is lane = elim (one_of lane s.lanes) [ inl used ↦ w.lanes lane used | inr beyond ↦ nothing lane beyond ]

    abbrev Last : Dispatched → Type 0
    Last a = (attempt : Attempt) → last_of a.dispatch.attempts ≡ Some attempt → WouldGoOn (Reads page_of) signed_body [] 80 a attempt × (length a.dispatch.attempts < s.config.attempts)

    is_silent : (c : Dispatched) (attempts : List Attempt) → EndRule c (last_of attempts) → attempts ≡ [] → IsWanting (Reads page_of) signed_body [] 80 s c ⊎ MayStop (Reads page_of) signed_body [] 80 s coming c
    is_silent c [] rule e = rule
    is_silent c (a ∷ attempts) rule e = cc

    pub carried : IsCarried (Reads page_of) signed_body [] 80 s journal logs notes dispatched coming
    carried = record {
      shown = w.shown;
      comes = λ c known. each (ComesOf dispatched journal) dispatched w.comes c known;
      lanes = λ c known. each (IsInLanes s.lanes) dispatched w.inside c known;
      unused_lanes = w.unused;
      nothing_else = λ place lane job tries at. slot (IsKnown dispatched) journal w.known place (entry.Came job lane tries) at;
      in_turn = λ lane. pairs InTurn (in_lane lane dispatched) (lane_is lane).in_turn;
      gained = λ lane. (lane_is lane).gained;
      noted = λ lane. (0, omega arith, (lane_is lane).noted);
      marks = λ c k attempt known at.
          inl (shown_by page_of c.ask attempt.talk, body_by page_of c.ask attempt.talk.got, reads page_of c.ask c.limit attempt.talk, slot (IsMarked c) c.dispatch.attempts (each (λ (d : Dispatched). Slots (IsMarked d) d.dispatch.attempts) dispatched w.marks c known) k attempt at, λ wanting. absurd (never_memory page_of attempt.talk.ending c.ask attempt.talk.got wanting));
      again = λ c k attempt known at more.
          would_go_on c attempt (slot (GoesOn c) c.dispatch.attempts (each (λ (d : Dispatched). Slots (GoesOn d) d.dispatch.attempts) dispatched w.again c known) k attempt at more);
      given_again = all_repeats (λ (a b : Dispatched). Last a) dispatched
          (repeated dispatched w.given_again);
      at_most = λ c known. each (λ (d : Dispatched). d.dispatch.earlier + length d.dispatch.attempts ≤ s.config.attempts) dispatched w.at_most c known;
      to_the_end = λ c attempt known last goes. of_last c (last_of c.dispatch.attempts) attempt (each (λ (d : Dispatched). EndRule d (last_of d.dispatch.attempts)) dispatched w.ends c known) last (goes_on c attempt goes);
      silent = λ c known none. is_silent c c.dispatch.attempts (each (λ (d : Dispatched). EndRule d (last_of d.dispatch.attempts)) dispatched w.ends c known) none;
    }
      where
        all_last : (a : Dispatched) (later : List Dispatched) → Each (λ (b : Dispatched). GoesFurther a) later → Each (λ (b : Dispatched). Last a) later
        all_last a [] all = tt
        all_last a (b ∷ later) all = ((λ attempt e. (would_go_on a attempt (last_goes a (last_of a.dispatch.attempts) attempt all.0.0 e), all.0.1)), all_last a later all.1)

        repeated : (xs : List Dispatched) → Repeats (λ (a b : Dispatched). GoesFurther a) xs → Repeats (λ (a b : Dispatched). Last a) xs
        repeated [] all = tt
        repeated (a ∷ later) all = (all_last a _ all.0, repeated later all.1)
