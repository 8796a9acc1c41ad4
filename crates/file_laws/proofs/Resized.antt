-- A trace that fits dispatched requests fits them too with another limit and size, where talks are read without these.
use Rattle.std.proofs.Common.{◌≡◌, ◌∙◌, ◌+◌, ◌==◌, ◌++◌, ◌<◌, ℕ, Bool, true, false, cond, List, [], ◌∷◌, Some, refl, sym, ap, subst, Contains, filter, length, map, slice_get, Option}
use Rattle.std.specs.Prelude.{filter_map, flat_map}
use Rattle.s3_model.specs.declared.answers.Class.{Class}
use Rattle.s3_model.specs.declared.answers.Class.TheVariants as class
use Rattle.s3_model.specs.declared.outcomes.Event.{Event}
use Rattle.s3_model.specs.declared.outcomes.Event.TheVariants as entry
use Rattle.s3_model.specs.declared.outcomes.JobId.{JobId}
use Rattle.s3_model.specs.declared.tries.Mark.{Mark}
use Rattle.s3_service.specs.Serves.{Answer}
use Rattle.job_terms.specs.Dispatches.{Attempt, Dispatched}
use Rattle.run_promise.specs.Fits.{Fits, IsCertain, Names, request_at, requests_from, requests_of}
use Rattle.run_promise.specs.Traces.{SentRequest, Came, Serve, TraceEvent, event_of}
use Rattle.world_laws.specs.Premises.{AreGiven, HasCome}
use Rattle.world_laws.specs.Rounds.{Told}
use Rattle.shared_lemmas.proofs.Members.{contains_of, Has, has, has-map, mapped}

module _ (limit size : ℕ) where
  abbrev pub resized : Dispatched → Dispatched
  resized c = record c { limit = limit; size = size }

  abbrev pub all_resized : List Dispatched → List Dispatched
  all_resized dispatched = map resized dispatched

  pub among : (dispatched : List Dispatched) (c : Dispatched) → Contains (all_resized dispatched) c → (first : Dispatched) × Contains dispatched first × (resized first ≡ c)
  among dispatched c known = let found = mapped resized dispatched c (has (all_resized dispatched) c known) in (found.0, contains_of dispatched found.0 found.1, found.2)

  pub resized_known : (dispatched : List Dispatched) (c : Dispatched) → Contains dispatched c → Contains (all_resized dispatched) (resized c)
  resized_known dispatched c known = contains_of (all_resized dispatched) (resized c) (has-map resized dispatched c (has dispatched c known))

  same_requests : (c : Dispatched) (k : ℕ) (attempts : List Attempt) → requests_from (resized c) k attempts ≡ requests_from c k attempts
  same_requests c k [] = refl
  same_requests c k (attempt ∷ attempts) = ap (λ (rest : List SentRequest). request_at c k ∷ rest) (same_requests c (k + 1) attempts)

  same_begins : (lane : ℕ) (dispatched : List Dispatched)
      → flat_map requests_of (filter (λ (c : Dispatched). c.dispatch.lane == lane) dispatched) ≡ flat_map requests_of (filter (λ (c : Dispatched). c.dispatch.lane == lane) (all_resized dispatched))
  same_begins lane [] = refl
  same_begins lane (c ∷ rest) = by (c.dispatch.lane == lane) (same_begins lane rest)
    where
      by : (b : Bool) → flat_map requests_of (filter (λ (d : Dispatched). d.dispatch.lane == lane) rest) ≡ flat_map requests_of (filter (λ (d : Dispatched). d.dispatch.lane == lane) (all_resized rest))
          → flat_map requests_of (cond b (c ∷ filter (λ (d : Dispatched). d.dispatch.lane == lane) rest) (filter (λ (d : Dispatched). d.dispatch.lane == lane) rest))
          ≡ flat_map requests_of (cond b (resized c ∷ filter (λ (d : Dispatched). d.dispatch.lane == lane) (all_resized rest)) (filter (λ (d : Dispatched). d.dispatch.lane == lane) (all_resized rest)))
      by true e =
          ap (λ (xs : List SentRequest). xs ++ flat_map requests_of (filter (λ (d : Dispatched). d.dispatch.lane == lane) rest)) (sym (same_requests c 0 c.dispatch.attempts))
          ∙ ap (λ (xs : List SentRequest). requests_from (resized c) 0 c.dispatch.attempts ++ xs) e
      by false e = e

  -- it is as certain
  as_certain : (page : Option ℕ) (c : Dispatched) (shown : Class) → IsCertain page (resized c) shown → IsCertain page c shown
  as_certain page c (class.Success said) certain = certain
  as_certain page c (class.Refusal code message) certain = certain
  as_certain page c (class.Uncertain why) certain = certain

  abbrev ServedAs : Option ℕ → List TraceEvent → Dispatched → Type 0
  ServedAs page trace c = (front back : List TraceEvent) (job : JobId) (lane : ℕ) (tries : List Mark) (place : ℕ) (attempt : Attempt) (shown : Class) (bytes : List ℕ) → trace ≡ front ++ Came job lane tries ∷ back
      → c.dispatch.job ≡ job → c.dispatch.came_at ≡ Some (length (filter_map event_of front)) → slice_get c.dispatch.attempts place ≡ Some attempt → Told c.ask c.limit attempt.talk shown bytes → IsCertain page c shown
      → (answer : Answer) × Contains front (Serve (request_at c place) answer) × Names shown bytes answer

  pub resized_fits : (trace : List TraceEvent) (journal : List Event) (dispatched : List Dispatched) → {page : Option ℕ} → Fits Told page trace journal dispatched → Fits Told page trace journal (all_resized dispatched)
  resized_fits trace journal dispatched {page = page} f = record {
    moves = f.moves;
    begins = λ lane. f.begins lane ∙ same_begins lane dispatched;
    since_given = f.since_given;
    until_came = f.until_came;
    once = f.once;
    answers = λ sent answer h.
        let a = f.answers sent answer h in
        record { of = resized a.of; known = resized_known dispatched a.of a.known; place = a.place; attempt = a.attempt; is_attempt = a.is_attempt; is_sent = a.is_sent; names = λ shown bytes told certain. a.names shown bytes told (as_certain page a.of shown certain) };
    served = λ front back job lane tries c place attempt shown bytes is known same at slot told certain.
        let first = among dispatched c known in
        let as_first : ServedAs page trace (resized first.0) =
        λ front back job lane tries place attempt shown bytes is same at slot told certain. f.served front back job lane tries first.0 place attempt shown bytes is first.1 same at slot told (as_certain page first.0 shown certain) in
        subst (ServedAs page trace) first.2 as_first front back job lane tries place attempt shown bytes is same at slot told certain;
  }

  pub resized_given : (journal : List Event) (dispatched : List Dispatched) → AreGiven journal dispatched → AreGiven journal (all_resized dispatched)
  resized_given journal dispatched g = record {
    given = λ c known. let first = among dispatched c known in subst (λ (d : Dispatched). slice_get journal d.dispatch.given_at ≡ Some (entry.Given d.dispatch.job d.dispatch.lane)) first.2 (g.given first.0 first.1);
    in_order = λ c place known at.
        let first = among dispatched c known in
        let same = sym (ap (λ (d : Dispatched). d.dispatch.given_at) first.2) in
        let before = g.in_order first.0 place first.1 (ap (λ (d : Dispatched). d.dispatch.came_at) first.2 ∙ at) in
        subst (λ (k : ℕ). k < place) (sym same) before;
    each_given = λ place lane job is. let found = g.each_given place lane job is in (resized found.0, resized_known dispatched found.0 found.1, found.2, found.3);
    each_came = λ place lane job tries is. let found = g.each_came place lane job tries is in (resized found.0, resized_known dispatched found.0 found.1, found.2, found.3);
  }

  pub resized_come : (journal : List Event) (dispatched : List Dispatched) → ((c : Dispatched) → Has dispatched c → HasCome journal c) → (c : Dispatched) → Contains (all_resized dispatched) c → HasCome journal c
  resized_come journal dispatched come c known =
      let first = among dispatched c known in
      subst (HasCome journal) first.2 (let h = come first.0 (has dispatched first.0 first.1) in (h.0, h.1, h.2, h.3))
