-- All that is said of jobs that lanes carried.
use Rattle.shared_lemmas.proofs.Clashes.{none_is_some, some_is}
use Rattle.shared_lemmas.proofs.Members.{Has, contains_of, has, has-filter, kept, mapped}
use Rattle.std.proofs.Common.{◌≡◌, ◌∙◌, ◌⊎◌, ◌==◌, ◌+◌, ◌<◌, ◌≤◌, ◌++◌, ℕ, Bool, true, false, cond, List, [], ◌∷◌, Option, Some, refl, sym, ap, subst, inl, inr, map, get_or, length, slice_get, Contains, arith}
use Rattle.std.specs.Prelude.{IfSome, IsSome, count_by, flat_map, unwrap_or}
use Rattle.s3_model.specs.declared.answers.Class.{Class}
use Rattle.s3_model.specs.declared.answers.Class.TheVariants as class
use Rattle.s3_model.specs.declared.answers.Why.TheVariants as why
use Rattle.s3_model.specs.declared.outcomes.Event.{Event}
use Rattle.s3_model.specs.declared.places.Endpoint.{Endpoint}
use Rattle.s3_model.specs.declared.settings.Keys.{Keys}
use Rattle.s3_model.specs.declared.tries.Mark.TheVariants as mark
use Rattle.s3_model.specs.Classes.{is_tried_again}
use Rattle.s3_model.specs.Replies.{IsSameClass}
use Rattle.s3_model.specs.Talks.{Talk, Note}
use Rattle.answer_classes.specs.Showing.{Shows}
use Rattle.answer_classes.proofs.OneShown.{one_shown}
use Rattle.attempts.specs.Attempts.{HasClass, SignedRequest, text_of}
use Rattle.jobs.specs.declared.ending.Ending.{Ending}
use Rattle.lane_jobs.specs.Lanes.{class_ending, most_attempts}
use Rattle.run_promise.specs.Carried.{IsCarried, MayStop, WouldGoOn}
use Rattle.job_terms.specs.Attempts.{AreNoted, in_lane, mark_of, numbered_from, talks_of}
use Rattle.job_terms.specs.Dispatches.{Attempt, Dispatched, last_of}
use Rattle.run_promise.specs.Schedule.{Setting, most_body}
use Rattle.lane_laws.specs.Runs.{AreCarriedJobs, Giving, HaveCauses, IsCarriedJob, IsCutShort, IsJournal, JobsAreCarried, RanOut, dispatched_of, given_to}
use Rattle.lane_laws.proofs.AttemptLaw.{as_many, at_place, index_below, index_last, last_index, talks_same}
use Rattle.lane_laws.proofs.NoteLaw.{run_noted}

false_is_true : false ≡ true → ⊥
false_is_true e = cc

split : (n m : ℕ) → n ≤ m → (n < m) ⊎ (n ≡ m)
split n m below = grind arith

-- ---- classes

abbrev IsWanting : Setting → Dispatched → Type 0
IsWanting s c = s.wanted_memory c.dispatch.job.task ≡ true

same_again : (one same : Class) → IsSameClass one same → is_tried_again one ≡ is_tried_again same
same_again (class.Success a) (class.Success b) is = refl
same_again (class.Refusal c m) (class.Refusal d n) is = ap is_tried_again is
same_again (class.Uncertain a) (class.Uncertain b) is = ap is_tried_again is
same_again one same is = ap is_tried_again is

ending_wants : (status : ℕ) (shown : Class) (ended : Ending) → shown ≡ class.Uncertain why.Memory → ended ≡ class_ending status shown → RanOut ended
ending_wants status shown ended is e = inr (e ∙ ap (class_ending status) is)

-- ---- lanes

same_lane : (lane : ℕ) → (lane == lane) ≡ true
same_lane lane = grind arith

in_lane_of : (lane : ℕ) (givings : List Giving) → in_lane lane (dispatched_of givings) ≡ dispatched_of (given_to lane givings)
in_lane_of lane [] = refl
in_lane_of lane (g ∷ givings) = by_test (g.of.dispatch.lane == lane) (in_lane_of lane givings)
  where
    by_test : (b : Bool) → in_lane lane (dispatched_of givings) ≡ dispatched_of (given_to lane givings)
        → cond b (g.of ∷ in_lane lane (dispatched_of givings)) (in_lane lane (dispatched_of givings)) ≡ dispatched_of (cond b (g ∷ given_to lane givings) (given_to lane givings))
    by_test true e = ap (λ (ds : List Dispatched). g.of ∷ ds) e
    by_test false e = e

module _ (endpoint : Endpoint) (keys : Keys) (s : Setting) where
  abbrev Job : Giving → List Talk → List Note → Type 0
  Job g talks notes = IsCarriedJob endpoint keys s.config.attempts g talks notes

  -- what one of the jobs of a lane gained
  one_of : (givings : List Giving) (talks : List Talk) (notes : List Note) → AreCarriedJobs endpoint keys s.config.attempts givings talks notes → (g : Giving) → Has givings g
      → (own : List Talk) × (noted : List Note) × Job g own noted
  one_of [] talks notes all g h = absurd h
  one_of (x ∷ givings) talks notes all g (inl e) = (all.0, all.2, subst (λ (y : Giving). Job y all.0 all.2) e all.6)
  one_of (x ∷ givings) talks notes all g (inr h) = one_of givings all.1 all.3 all.7 g h

  talks_gained : (givings : List Giving) (talks : List Talk) (notes : List Note) → AreCarriedJobs endpoint keys s.config.attempts givings talks notes → talks ≡ flat_map talks_of (dispatched_of givings)
  talks_gained [] talks notes all = all.0
  talks_gained (g ∷ givings) talks notes all =
      let (own, behind, noted_is, made, is_behind, status) = all.6.shared in
      let own_talks : talks_of g.of ≡ all.0 = ap (λ (xs : List Attempt). map (λ (a : Attempt). a.talk) xs) all.6.attempts_are ∙ talks_same _ all.6.place g.classes _ all.0 own made in
      all.4 ∙ ap (λ (ts : List Talk). ts ++ all.1) (sym own_talks) ∙ ap (λ (ts : List Talk). talks_of g.of ++ ts) (talks_gained givings all.1 all.3 all.7)

  -- ---- one job

  module _ (coming : List Dispatched) (g : Giving) (talks : List Talk) (notes : List Note) (job : Job g talks notes) (left : g.of.dispatch.earlier < s.config.attempts)
      (wants : RanOut g.ended → IsWanting s g.of) where
    abbrev r : SignedRequest
    r = record { endpoint = endpoint; keys = keys; asked = g.of.ask; body = g.of.body; limit = job.limit }

    abbrev attempts : List Attempt
    attempts = g.of.dispatch.attempts

    abbrev Told : Attempt → Class → List ℕ → Type 0
    Told a shown bytes = Shows g.of.ask g.of.limit a.talk shown bytes

    many : length attempts ≡ length g.classes
    many = ap (λ (xs : List Attempt). length xs) job.attempts_are ∙ as_many r job.place g.classes _ talks job.shared.0 job.shared.3

    most_is : most_attempts s.config.attempts g.of.dispatch.earlier ≡ s.config.attempts
    most_is = grind arith

    few : g.of.dispatch.earlier + length attempts ≤ s.config.attempts
    few = let most = job.at_most in let is = most_is in let long = many in omega arith

    shown_at : (k : ℕ) (a : Attempt) → slice_get attempts k ≡ Some a → (shown : Class) × (slice_get g.classes k ≡ Some shown) × (a.mark ≡ mark_of shown) × HasClass r a.talk shown job.place
    shown_at k a e = at_place r job.place g.classes _ talks job.shared.0 job.shared.3 k a (subst (λ (xs : List Attempt). slice_get xs k ≡ Some a) job.attempts_are e)

    told_of : (a : Attempt) (shown : Class) (bytes : List ℕ) → Shows g.of.ask (unwrap_or job.limit most_body) a.talk shown bytes → Told a shown bytes
    told_of a shown bytes h = subst (λ (most : ℕ). Shows g.of.ask most a.talk shown bytes) job.limit_is h

    -- where the last class is want of memory, so is the ending
    memory_last : last_of g.classes ≡ Some (class.Uncertain why.Memory) → RanOut g.ended
    memory_last is = elim job.ends [
      | inl h ↦ ending_wants h.status h.shown g.ended (some_is _ _ (sym h.last ∙ is)) h.ending_is
      | inr others ↦ elim others [
        | inl h ↦ absurd (none_is_some _ (ap (λ (cs : List Class). last_of cs) (sym h.none_made) ∙ is))
        | inr h ↦ inl h.ending_is
      ]
    ]

    is_last : (k : ℕ) (shown : Class) → slice_get g.classes k ≡ Some shown → is_tried_again shown ≡ false → k + 1 ≡ length g.classes
    is_last k shown at final = elim (split (k + 1) (length g.classes) (let below = index_below g.classes k shown at in omega arith)) [
      | inl less ↦ absurd (false_is_true (sym final ∙ job.again k shown at less))
      | inr same ↦ same
    ]

    memory_wants : (k : ℕ) (shown : Class) → slice_get g.classes k ≡ Some shown → shown ≡ class.Uncertain why.Memory → (k + 1 ≡ length g.classes) × IsWanting s g.of
    memory_wants k shown at is =
        let last = is_last k shown at (ap is_tried_again is) in
        (last, wants (memory_last (index_last g.classes k _ (at ∙ ap (λ (c : Class). Some c) is) last)))

    abbrev IsMarked : ℕ → Attempt → Type 0
    IsMarked k a =
        ((shown : Class) × (bytes : List ℕ) × Told a shown bytes × (a.mark ≡ mark_of shown) × (shown ≡ class.Uncertain why.Memory → IsWanting s g.of))
        ⊎ ((k + 1 ≡ length attempts) × (a.mark ≡ mark.Uncertain) × IsWanting s g.of)

    marked : (k : ℕ) (a : Attempt) → slice_get attempts k ≡ Some a → IsMarked k a
    marked k a e =
        let (shown, at, is, class_is) = shown_at k a e in
        elim class_is [
          | inl memory ↦ let (last, wanting) = memory_wants k shown at memory in inr (last ∙ sym many, is ∙ ap mark_of memory, wanting)
          | inr h ↦ inl (shown, h.0, told_of a shown h.0 h.1, is, (λ memory. let (last, wanting) = memory_wants k shown at memory in wanting))
        ]

    abbrev GoesOn : Attempt → Type 0
    GoesOn a = WouldGoOn Shows (text_of endpoint keys) endpoint.host endpoint.port g.of a

    goes_on_by : (a : Attempt) (shown : Class) → is_tried_again shown ≡ true → HasClass r a.talk shown job.place → GoesOn a
    goes_on_by a shown again (inl memory) = absurd (false_is_true (sym (ap is_tried_again memory) ∙ again))
    goes_on_by a shown again (inr h) = (shown, h.0, told_of a shown h.0 h.1, again)

    again : (k : ℕ) (a : Attempt) → slice_get attempts k ≡ Some a → k + 1 < length attempts → GoesOn a
    again k a e more =
        let (shown, at, is, class_is) = shown_at k a e in
        let long = many in
        goes_on_by a shown (job.again k shown at (omega arith)) class_is

    last_shown : (a : Attempt) → last_of attempts ≡ Some a → (shown : Class) × (last_of g.classes ≡ Some shown) × HasClass r a.talk shown job.place
    last_shown a e =
        let (k, end, at) = last_index attempts a e in
        let (shown, place, is, class_is) = shown_at k a at in
        (shown, index_last g.classes k shown place (end ∙ many), class_is)

    cut_short : IsCutShort s g → (a : Attempt) → last_of attempts ≡ Some a → GoesOn a × (length attempts < s.config.attempts)
    cut_short cut a e =
        let (shown, last, class_is) = last_shown a e in
        let long = many in
        let fewer = cut.1 in
        (goes_on_by a shown (subst (λ (l : Option Class). IfSome l (λ c. is_tried_again c ≡ true)) last cut.0) class_is, omega arith)

    module _ (stops : IsSome g.gave → IsCutShort s g → MayStop Shows (text_of endpoint keys) endpoint.host endpoint.port s coming g.of) where
      abbrev Stops : Type 0
      Stops = MayStop Shows (text_of endpoint keys) endpoint.host endpoint.port s coming g.of

      abbrev IsEnded : Type 0
      IsEnded = (g.of.dispatch.earlier + length attempts ≡ s.config.attempts) ⊎ IsWanting s g.of ⊎ Stops

      -- the last class is tried again where its talk would go on, unless memory ran out
      tried_again : (a : Attempt) (shown : Class) → HasClass r a.talk shown job.place → last_of g.classes ≡ Some shown → GoesOn a → (is_tried_again shown ≡ true) ⊎ IsWanting s g.of
      tried_again a shown (inl memory) last goes = inr (wants (memory_last (last ∙ ap (λ (c : Class). Some c) memory)))
      tried_again a shown (inr h) last (told, bytes, shows, again) =
          let same = one_shown g.of.ask g.of.limit a.talk told shown bytes h.0 shows (told_of a shown h.0 h.1) in
          inl (sym (same_again told shown same.0) ∙ again)

      through : (shown : Class) → (is_tried_again shown ≡ true) ⊎ IsWanting s g.of → is_tried_again shown ≡ false → IsWanting s g.of
      through shown (inl again) final = absurd (false_is_true (sym final ∙ again))
      through shown (inr wanting) final = wanting

      -- where the cell gave a reason behind a class that is tried again: all attempts are made, or the job was cut short
      stopped : (shown : Class) → last_of g.classes ≡ Some shown → (is_tried_again shown ≡ true) ⊎ IsWanting s g.of → IsSome g.gave → IsEnded
      stopped shown last (inr wanting) given = inr (inl wanting)
      stopped shown last (inl again) given =
          elim (split (g.of.dispatch.earlier + length attempts) s.config.attempts few) [
            | inl less ↦ let long = many in inr (inr (stops given (subst (λ (l : Option Class). IfSome l (λ c. is_tried_again c ≡ true)) (sym last) again, omega arith)))
            | inr same ↦ inl same
          ]

      to_the_end : (a : Attempt) → last_of attempts ≡ Some a → GoesOn a → IsEnded
      to_the_end a e goes =
          let (shown, last, class_is) = last_shown a e in
          let again = tried_again a shown class_is last goes in
          elim job.ends [
            | inl h ↦ elim h.is_through [
              | inl final ↦ inr (inl (through shown again (subst (λ (c : Class). is_tried_again c ≡ false) (some_is _ _ (sym h.last ∙ last)) final)))
              | inr others ↦ elim others [
                | inl all ↦ inl (let long = many in let is = most_is in omega arith)
                | inr given ↦ stopped shown last again given
              ]
            ]
            | inr others ↦ elim others [
              | inl h ↦ absurd (none_is_some shown (ap (λ (cs : List Class). last_of cs) (sym h.none_made) ∙ last))
              | inr h ↦ inr (inl (wants (inl h.ending_is)))
            ]
          ]

      none_last : (cs : List Class) (shown : Class) → length cs ≡ 0 → last_of cs ≡ Some shown → ⊥
      none_last [] shown none last = none_is_some shown last
      none_last (c ∷ cs) shown none last = absurd (omega arith)

      not_begun : g.classes ≡ [] → IsCutShort s g
      not_begun none = subst (λ (cs : List Class). IfSome (last_of cs) (λ c. is_tried_again c ≡ true) × (length cs < s.config.attempts)) (sym none) (cc, omega arith)

      silent : attempts ≡ [] → IsWanting s g.of ⊎ Stops
      silent none =
          let empty : length g.classes ≡ 0 = sym many ∙ ap (λ (xs : List Attempt). length xs) none in
          elim job.ends [
            | inl h ↦ absurd (none_last g.classes h.shown empty h.last)
            | inr others ↦ elim others [
              | inl h ↦ inr (stops (subst (λ (o : Option _). IsSome o) (sym h.gave_is) refl) (not_begun h.none_made))
              | inr h ↦ inl (wants (inl h.ending_is))
            ]
          ]

  -- ---- the run

  module _ (journal : List Event) (logs : ℕ → List Talk) (notes : ℕ → List Note) (givings : List Giving) (coming : List Dispatched) (j : IsJournal s journal logs notes (dispatched_of givings))
      (lanes : (lane : ℕ) → AreCarriedJobs endpoint keys s.config.attempts (given_to lane givings) (logs lane) (notes lane)) (causes : HaveCauses endpoint keys s givings coming) where
    abbrev ds : List Dispatched
    ds = dispatched_of givings

    -- what holds of each job that a lane carried holds of each dispatch
    each : (P : Dispatched → Type 0) → ((g : Giving) (talks : List Talk) (noted : List Note) → Contains givings g → Job g talks noted → P g.of) → (c : Dispatched) → Contains ds c → P c
    each P holds c known =
        let (g, has_g, is) = mapped (λ (g : Giving). g.of) givings c (has ds c known) in
        let lane = g.of.dispatch.lane in
        let (talks, noted, job) = one_of (given_to lane givings) (logs lane) (notes lane) (lanes lane) g (has-filter (λ (x : Giving). x.of.dispatch.lane == lane) givings g (same_lane lane) has_g) in
        subst P is (holds g talks noted (contains_of givings g has_g) job)

    noted_in : (lane : ℕ) → (unused : ℕ) × (unused ≤ count_by (λ (c : Dispatched). s.wanted_memory c.dispatch.job.task) (in_lane lane ds))
        × AreNoted Shows (text_of endpoint keys) endpoint.host endpoint.port unused (flat_map (λ (c : Dispatched). numbered_from c 0 c.dispatch.attempts) (in_lane lane ds)) (notes lane)
    noted_in lane =
        rw (in_lane_of lane givings) (
          0 + count_by (λ (c : Dispatched). s.wanted_memory c.dispatch.job.task) (dispatched_of (given_to lane givings)),
          omega arith,
          run_noted endpoint keys s (given_to lane givings) [] (logs lane) (notes lane) (λ h. h) (lanes lane)
              (λ g known ran. causes.wants g (contains_of givings g (kept (λ (x : Giving). x.of.dispatch.lane == lane) givings g known)) ran),
        )

    given_again : (a b : Dispatched) → (a.dispatch.job ≡ b.dispatch.job → (g : Giving) × Contains givings g × (g.of ≡ a) × IsCutShort s g)
        → a.dispatch.job ≡ b.dispatch.job → (attempt : Attempt) → last_of a.dispatch.attempts ≡ Some attempt
        → WouldGoOn Shows (text_of endpoint keys) endpoint.host endpoint.port a attempt × (length a.dispatch.attempts < s.config.attempts)
    given_again a b cut same =
        let (g, known, is, short) = cut same in
        let lane = g.of.dispatch.lane in
        let (talks, noted, job) = one_of (given_to lane givings) (logs lane) (notes lane) (lanes lane) g (has-filter (λ (x : Giving). x.of.dispatch.lane == lane) givings g (same_lane lane) (has givings g known)) in
        subst (λ (c : Dispatched). (attempt : Attempt) → last_of c.dispatch.attempts ≡ Some attempt
        → WouldGoOn Shows (text_of endpoint keys) endpoint.host endpoint.port c attempt × (length c.dispatch.attempts < s.config.attempts))
        is (cut_short coming g talks noted job (causes.left g known) (causes.wants g known) short)

    pub carried : IsCarried Shows (text_of endpoint keys) endpoint.host endpoint.port s journal logs notes ds coming
    carried = record {
      shown = j.shown;
      comes = j.comes;
      lanes = j.lanes;
      unused_lanes = j.unused_lanes;
      nothing_else = j.nothing_else;
      in_turn = j.in_turn;
      gained = λ lane. talks_gained (given_to lane givings) (logs lane) (notes lane) (lanes lane) ∙ ap (λ (cs : List Dispatched). flat_map talks_of cs) (sym (in_lane_of lane givings));
      noted = noted_in;
      marks = λ c k a known e. each (λ (d : Dispatched). slice_get d.dispatch.attempts k ≡ Some a
          → ((shown : Class) × (bytes : List ℕ) × Shows d.ask d.limit a.talk shown bytes × (a.mark ≡ mark_of shown) × (shown ≡ class.Uncertain why.Memory → IsWanting s d))
          ⊎ ((k + 1 ≡ length d.dispatch.attempts) × (a.mark ≡ mark.Uncertain) × IsWanting s d))
          (λ g talks noted is job at. marked coming g talks noted job (causes.left g is) (causes.wants g is) k a at) c known e;
      again = λ c k a known e more. each (λ (d : Dispatched). slice_get d.dispatch.attempts k ≡ Some a → k + 1 < length d.dispatch.attempts
          → WouldGoOn Shows (text_of endpoint keys) endpoint.host endpoint.port d a)
          (λ g talks noted is job at above. again coming g talks noted job (causes.left g is) (causes.wants g is) k a at above) c known e more;
      given_again = λ i k d before within. given_again (get_or ds i d) (get_or ds k d) (causes.given_again i k d before within);
      at_most = each (λ (d : Dispatched). d.dispatch.earlier + length d.dispatch.attempts ≤ s.config.attempts)
          (λ g talks noted is job. few coming g talks noted job (causes.left g is) (causes.wants g is));
      to_the_end = λ c a known last goes. each (λ (d : Dispatched). last_of d.dispatch.attempts ≡ Some a → WouldGoOn Shows (text_of endpoint keys) endpoint.host endpoint.port d a
          → (d.dispatch.earlier + length d.dispatch.attempts ≡ s.config.attempts) ⊎ IsWanting s d ⊎ MayStop Shows (text_of endpoint keys) endpoint.host endpoint.port s coming d)
          (λ g talks noted is job at on. to_the_end coming g talks noted job (causes.left g is) (causes.wants g is) (causes.stops g is) a at on) c known last goes;
      silent = λ c known none. each (λ (d : Dispatched). d.dispatch.attempts ≡ [] → IsWanting s d ⊎ MayStop Shows (text_of endpoint keys) endpoint.host endpoint.port s coming d)
          (λ g talks noted is job empty. silent coming g talks noted job (causes.left g is) (causes.wants g is) (causes.stops g is) empty) c known none;
    }

pub jobs_are_carried : JobsAreCarried
jobs_are_carried endpoint keys s journal logs notes givings coming j lanes causes = carried endpoint keys s journal logs notes givings coming j lanes causes
