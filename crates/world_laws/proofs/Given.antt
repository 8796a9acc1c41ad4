-- Where the dispatches of a journal stand in it.
use Rattle.shared_lemmas.proofs.Clashes.{some_is}
use Rattle.shared_lemmas.proofs.Members.{contains_of, Has, has, has-map, in_reverse, mapped, place_middle, reversed}
use Rattle.std.proofs.Common.{append_assoc, ◌≡◌, ◌∙◌, ◌+◌, ◌<◌, ◌≤◌, ℕ, zero, suc, Bool, true, false, cond, List, [], ◌∷◌, ◌++◌, Option, Some, None, refl, sym, ap, subst, inl, inr, Contains, length, map, slice_get, arith}
use Rattle.std.proofs.lemmas.List.{length-append}
use Rattle.s3_model.specs.declared.outcomes.JobId.{JobId}
use Rattle.s3_model.specs.declared.outcomes.Event.{Event}
use Rattle.s3_model.specs.declared.outcomes.Event.TheVariants as entry
use Rattle.s3_model.specs.declared.tries.Mark.{Mark}
use Rattle.s3_model.specs.Talks.{Talk}
use Rattle.job_terms.specs.Dispatches.{Dispatch, Dispatched, next_came, place_of, dispatches_from, dispatches}
use Rattle.job_terms.specs.Jobs.{is_job}

-- ---- where a job comes next

next_is_after : (job : JobId) (events : List Event) (at place : ℕ) → place_of (next_came job at events) ≡ Some place → at ≤ place
next_is_after job [] at place e = absurd (none_is_some place e)
  where
    none_is_some : (n : ℕ) → ◌≡◌ {A = Option ℕ} None (Some n) → ⊥
    none_is_some n e = cc
next_is_after job (entry.Given other lane ∷ events) at place e = let rest = next_is_after job events (at + 1) place e in omega arith
next_is_after job (entry.Came other lane tries ∷ events) at place e =
    here (is_job job other) (λ f. next_is_after job events (at + 1) place f) e
  where
    here : (test : Bool) → (place_of (next_came job (at + 1) events) ≡ Some place → at + 1 ≤ place) → place_of (cond test (Some (at, tries)) (next_came job (at + 1) events)) ≡ Some place → at ≤ place
    here true later f = let same = some_is at place f in omega arith
    here false later f = let rest = later f in omega arith

-- ---- where a dispatch stands

-- it was given at its place, and came after it
pub record StandsIn (journal : List Event) (d : Dispatch) : Type 0 where
  pub given : slice_get journal d.given_at ≡ Some (entry.Given d.job d.lane)
  pub in_order : (place : ℕ) → d.came_at ≡ Some place → d.given_at < place

module _ (journal : List Event) where
  one_on : (front : List Event) (event : Event) (at : ℕ) → length front ≡ at → length (front ++ event ∷ []) ≡ at + 1
  one_on front event at long = length-append front (event ∷ []) ∙ ap (λ n. n + 1) long

  newest_too : (new : Dispatch) (before : List Dispatch) → StandsIn journal new → ((d : Dispatch) → Has before d → StandsIn journal d) → (d : Dispatch) → Has (new ∷ before) d → StandsIn journal d
  newest_too new before here stands d (inl e) = subst (StandsIn journal) e here
  newest_too new before here stands d (inr h) = stands d h

  stands_here : (new : Dispatch) (events : List Event) → slice_get journal new.given_at ≡ Some (entry.Given new.job new.lane) → new.came_at ≡ place_of (next_came new.job (new.given_at + 1) events) → StandsIn journal new
  stands_here new events there next = record { given = there; in_order = λ place e. let later = next_is_after new.job events (new.given_at + 1) place (sym next ∙ e) in omega arith }

  given_here : (front : List Event) (job : JobId) (lane : ℕ) (events : List Event) (at : ℕ) → journal ≡ front ++ entry.Given job lane ∷ events → length front ≡ at → slice_get journal at ≡ Some (entry.Given job lane)
  given_here front job lane events at is long =
      ap (λ (j : List Event). slice_get j at) is ∙ ap (slice_get (front ++ entry.Given job lane ∷ events)) (sym long) ∙ place_middle front (entry.Given job lane) events

  each_stands : (events front : List Event) (logs : ℕ → List Talk) (before : List Dispatch) (at : ℕ) → journal ≡ front ++ events → length front ≡ at
      → ((d : Dispatch) → Has before d → StandsIn journal d) → (d : Dispatch) → Has (dispatches_from logs before at events) d → StandsIn journal d
  each_stands [] front logs before at is long stand d h = stand d (reversed before d h)
  each_stands (entry.Came job lane tries ∷ events) front logs before at is long stand d h =
      each_stands events (front ++ entry.Came job lane tries ∷ []) logs before (at + 1) (is ∙ sym (append_assoc front (entry.Came job lane tries ∷ []) events)) (one_on front (entry.Came job lane tries) at long) stand d h
  each_stands (entry.Given job lane ∷ events) front logs before at is long stand d h =
      each_stands events (front ++ entry.Given job lane ∷ []) _ _ (at + 1) (is ∙ sym (append_assoc front (entry.Given job lane ∷ []) events)) (one_on front (entry.Given job lane) at long)
      (newest_too _ before (stands_here _ events (given_here front job lane events at is long) refl) stand) d h

-- ---- each Given has its dispatch

-- those so far are among all
stays_among : (events : List Event) (logs : ℕ → List Talk) (before : List Dispatch) (at : ℕ) (d : Dispatch) → Has before d → Has (dispatches_from logs before at events) d
stays_among [] logs before at d h = in_reverse before d h
stays_among (entry.Came job lane tries ∷ events) logs before at d h = stays_among events logs before (at + 1) d h
stays_among (entry.Given job lane ∷ events) logs before at d h = stays_among events _ _ (at + 1) d (inr h)

-- the dispatch of that job, given at that place
pub record IsGivenAt (all : List Dispatch) (job : JobId) (place : ℕ) : Type 0 where
  pub dispatch : Dispatch
  pub among : Has all dispatch
  pub of_job : dispatch.job ≡ job
  pub at_place : dispatch.given_at ≡ place

given_is : (job other : JobId) (lane lane' : ℕ) → Some (entry.Given job lane) ≡ Some (entry.Given other lane') → job ≡ other
given_is job other lane lane' e = cc

not_given : (job other : JobId) (lane lane' : ℕ) (tries : List Mark) → Some (entry.Came job lane tries) ≡ Some (entry.Given other lane') → ⊥
not_given job other lane lane' tries e = cc

none_given : (job : JobId) (lane : ℕ) → ◌≡◌ {A = Option Event} None (Some (entry.Given job lane)) → ⊥
none_given job lane e = cc

given_has : (events : List Event) (logs : ℕ → List Talk) (before : List Dispatch) (at k : ℕ) (job : JobId) (lane : ℕ) → slice_get events k ≡ Some (entry.Given job lane)
    → IsGivenAt (dispatches_from logs before at events) job (at + k)
given_has [] logs before at k job lane e = absurd (none_given job lane e)
given_has (entry.Came other l tries ∷ events) logs before at zero job lane e = absurd (not_given other job l lane tries e)
given_has (entry.Came other l tries ∷ events) logs before at (suc k) job lane e =
    let rest = given_has events logs before (at + 1) k job lane e in
    record { dispatch = rest.dispatch; among = rest.among; of_job = rest.of_job; at_place = rest.at_place ∙ omega arith }
given_has (entry.Given other l ∷ events) logs before at zero job lane e = record {
  dispatch = _;
  among = stays_among events _ _ (at + 1) _ (inl refl);
  of_job = given_is other job l lane e;
  at_place = omega arith;
}
given_has (entry.Given other l ∷ events) logs before at (suc k) job lane e =
    let rest = given_has events _ _ (at + 1) k job lane e in
    record { dispatch = rest.dispatch; among = rest.among; of_job = rest.of_job; at_place = rest.at_place ∙ omega arith }

-- ---- of a list of dispatches with their asks

module _ (journal : List Event) (logs : ℕ → List Talk) (dispatched : List Dispatched) (shown : map (λ (c : Dispatched). c.dispatch) dispatched ≡ dispatches journal logs) where
  pub stands : (c : Dispatched) → Contains dispatched c → StandsIn journal c.dispatch
  stands c known =
      each_stands journal journal [] logs [] 0 refl refl (λ d h. absurd h) c.dispatch
      (subst (λ (all : List Dispatch). Has all c.dispatch) shown (has-map (λ (d : Dispatched). d.dispatch) dispatched c (has dispatched c known)))

  pub given_is_dispatched : (place lane : ℕ) (job : JobId) → slice_get journal place ≡ Some (entry.Given job lane) → (c : Dispatched) × Contains dispatched c × (c.dispatch.job ≡ job) × (c.dispatch.given_at ≡ place)
  given_is_dispatched place lane job e =
      let found = given_has journal logs [] 0 place job lane e in
      let of_list = mapped (λ (d : Dispatched). d.dispatch) dispatched found.dispatch (subst (λ (all : List Dispatch). Has all found.dispatch) (sym shown) found.among) in (
        of_list.0,
        contains_of dispatched of_list.0 of_list.1,
        ap (λ (d : Dispatch). d.job) of_list.2 ∙ found.of_job,
        ap (λ (d : Dispatch). d.given_at) of_list.2 ∙ found.at_place ∙ omega arith,
      )
