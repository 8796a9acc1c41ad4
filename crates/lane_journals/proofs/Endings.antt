-- What the dispatch of a job shows of its ending.
use Rattle.std.proofs.Common.{◌≡◌, ◌∙◌, ◌==◌, ◌<◌, ℕ, zero, suc, true, List, [], ◌∷◌, Some, refl, sym, ap, subst, inl, inr, map, length, slice_get, arith}
use Rattle.std.specs.Prelude.{unwrap_or}
use Rattle.answer_classes.specs.Showing.{HasStatus, Shows}
use Rattle.attempts.specs.Attempts.{HasClass, SignedRequest, TellsStatus}
use Rattle.jobs.specs.declared.ending.Ending.{Ending}
use Rattle.jobs.specs.declared.ending.Ending.TheVariants as ending
use Rattle.lane_jobs.specs.Lanes.{HasLastStatus, class_ending}
use Rattle.lane_laws.specs.Runs.{AreCarriedJobs, Giving, IsCarriedJob, given_to}
use Rattle.lane_laws.proofs.AttemptLaw.{as_many, at_place, index_last, last_index, talks_same}
use Rattle.job_terms.specs.Attempts.{mark_of}
use Rattle.job_terms.specs.Dispatches.{Attempt, last_of}
use Rattle.run_promise.specs.Schedule.{most_body}
use Rattle.s3_model.specs.Talks.{Note, Talk}
use Rattle.s3_model.specs.declared.answers.Class.{Class}
use Rattle.s3_model.specs.declared.answers.Class.TheVariants as class
use Rattle.s3_model.specs.declared.answers.Why.TheVariants as why
use Rattle.s3_model.specs.declared.places.Endpoint.{Endpoint}
use Rattle.s3_model.specs.declared.settings.Keys.{Keys}
use Rattle.shared_lemmas.proofs.Clashes.{none_is_some, some_is}
use Rattle.shared_lemmas.proofs.Members.{Has, has-filter}
use Rattle.task_schedule.specs.Journals.{EndsAs}

-- ---- lists

at_index : {A : Type 0} (xs : List A) (k : ℕ) → k < length xs → (a : A) × (slice_get xs k ≡ Some a)
at_index [] k less = absurd (omega arith)
at_index (x ∷ xs) zero less = (x, refl)
at_index (x ∷ xs) (suc k) less = at_index xs k (omega arith)

last_mapped : {A B : Type 0} (f : A → B) (xs : List A) (y : B) → last_of (map f xs) ≡ Some y
    → (x : A) × (last_of xs ≡ Some x) × (f x ≡ y)
last_mapped f [] y e = absurd (none_is_some y e)
last_mapped f (x ∷ []) y e = (x, refl, some_is (f x) y e)
last_mapped f (x ∷ z ∷ xs) y e = last_mapped f (z ∷ xs) y e

same_lane : (lane : ℕ) → (lane == lane) ≡ true
same_lane lane = grind arith

-- ---- the jobs of a lane

module _ (endpoint : Endpoint) (keys : Keys) (attempts : ℕ) where
  -- what one of the jobs of a lane gained
  pub one_of : (givings : List Giving) (talks : List Talk) (notes : List Note)
      → AreCarriedJobs endpoint keys attempts givings talks notes → (g : Giving) → Has givings g
      → (own : List Talk) × (noted : List Note) × IsCarriedJob endpoint keys attempts g own noted
  one_of [] talks notes all g h = absurd h
  one_of (x ∷ givings) talks notes all g (inl e) =
      (all.0, all.2, subst (λ (y : Giving). IsCarriedJob endpoint keys attempts y all.0 all.2) e all.6)
  one_of (x ∷ givings) talks notes all g (inr h) = one_of givings all.1 all.3 all.7 g h

  pub in_its_lane : (givings : List Giving) (g : Giving) → Has givings g → Has (given_to g.of.dispatch.lane givings) g
  in_its_lane givings g h = has-filter (λ (x : Giving). x.of.dispatch.lane == g.of.dispatch.lane) givings g
      (same_lane g.of.dispatch.lane) h

  -- ---- one job

  module _ (g : Giving) (talks : List Talk) (notes : List Note)
      (job : IsCarriedJob endpoint keys attempts g talks notes) where
    abbrev r : SignedRequest
    r = record { endpoint = endpoint; keys = keys; asked = g.of.ask; body = g.of.body; limit = job.limit }

    many : length g.of.dispatch.attempts ≡ length g.classes
    many = ap (λ (xs : List Attempt). length xs) job.attempts_are
        ∙ as_many r job.place g.classes _ talks job.shared.0 job.shared.3

    shown_at : (k : ℕ) (a : Attempt) → slice_get g.of.dispatch.attempts k ≡ Some a
        → (shown : Class) × (slice_get g.classes k ≡ Some shown) × (a.mark ≡ mark_of shown)
        × HasClass r a.talk shown job.place
    shown_at k a e = at_place r job.place g.classes _ talks job.shared.0 job.shared.3 k a
        (subst (λ (xs : List Attempt). slice_get xs k ≡ Some a) job.attempts_are e)

    -- the last talk has the last class
    abbrev HasLast : Class → Type 0
    HasLast shown = (a : Attempt) × (last_of g.of.dispatch.attempts ≡ Some a) × HasClass r a.talk shown job.place

    has_last : (shown : Class) → last_of g.classes ≡ Some shown → HasLast shown
    has_last shown last =
        let (k, end, at) = last_index g.classes shown last in
        let long = many in
        let (a, here) = at_index g.of.dispatch.attempts k (omega arith) in
        let (other, there, mark_is, class_is) = shown_at k a here in (
          a,
          index_last g.of.dispatch.attempts k a here (omega arith),
          subst (λ (c : Class). HasClass r a.talk c job.place) (some_is other shown (sym there ∙ at)) class_is,
        )

    -- ---- its ending

    told : (a : Attempt) (shown : Class) (bytes : List ℕ) → Shows g.of.ask (unwrap_or job.limit most_body) a.talk shown bytes
        → Shows g.of.ask g.of.limit a.talk shown bytes
    told a shown bytes h = subst (λ (most : ℕ). Shows g.of.ask most a.talk shown bytes) job.limit_is h

    by_class : (status : ℕ) (shown : Class) (a : Attempt) → last_of g.of.dispatch.attempts ≡ Some a → (bytes : List ℕ)
        → Shows g.of.ask g.of.limit a.talk shown bytes → EndsAs Shows g.of (class_ending status shown)
    by_class status (class.Success said) a last bytes shows =
        record { attempt = a; last = last; bytes = bytes; shows = shows }
    by_class status (class.Refusal code message) a last bytes shows =
        record { attempt = a; last = last; bytes = bytes; shows = shows }
    by_class status (class.Uncertain why.Memory) a last bytes shows = tt
    by_class status (class.Uncertain reason) a last bytes shows =
        record { attempt = a; last = last; bytes = bytes; shows = shows }

    shown_so : (status : ℕ) (shown : Class) → HasLast shown → EndsAs Shows g.of (class_ending status shown)
    shown_so status shown (a, last, inl memory) =
        subst (λ (c : Class). EndsAs Shows g.of (class_ending status c)) (sym memory) tt
    shown_so status shown (a, last, inr h) = by_class status shown a last h.0 (told a shown h.0 h.1)

    pub ends_as : EndsAs Shows g.of g.ended
    ends_as = elim job.ends [
      | inl h ↦ subst (λ (e : Ending). EndsAs Shows g.of e) (sym h.ending_is) (shown_so h.status h.shown (has_last h.shown h.last))
      | inr others ↦ elim others [
        | inl h ↦ subst (λ (e : Ending). EndsAs Shows g.of e) (sym h.ending_is) tt
        | inr h ↦ subst (λ (e : Ending). EndsAs Shows g.of e) (sym h.ending_is) tt
      ]
    ]

    -- ---- its status

    own_talks : map (λ (a : Attempt). a.talk) g.of.dispatch.attempts ≡ talks
    own_talks = ap (λ (xs : List Attempt). map (λ (a : Attempt). a.talk) xs) job.attempts_are
        ∙ talks_same r job.place g.classes _ talks job.shared.0 job.shared.3

    pub has_status : (status : ℕ) (code message : List ℕ) → g.ended ≡ ending.Refused status code message
        → (a : Attempt) × (last_of g.of.dispatch.attempts ≡ Some a) × HasStatus g.of.ask g.of.limit a.talk status
    has_status status code message is =
        let of_talks : TellsStatus r (Some status) talks = subst (λ (e : Ending). HasLastStatus r e talks) is job.shared.5 in
        let (talk, last, status_is) = of_talks in
        let (a, a_last, same) = last_mapped (λ (x : Attempt). x.talk) g.of.dispatch.attempts talk
        (ap (λ (ts : List Talk). last_of ts) own_talks ∙ last) in (
          a,
          a_last,
          subst (λ (t : Talk). HasStatus g.of.ask g.of.limit t status) (sym same)
              (subst (λ (most : ℕ). HasStatus g.of.ask most talk status) job.limit_is status_is),
        )
