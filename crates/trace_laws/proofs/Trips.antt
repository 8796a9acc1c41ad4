-- The jobs of one lane whose wire is seen: what each of them gained, and that together this is all.
use Rattle.std.proofs.Common.{◌≡◌, ◌∙◌, ◌+◌, ◌++◌, ℕ, suc, List, [], ◌∷◌, Option, Some, None, refl, sym, subst, ap, inl, inr, length, map, append_assoc, append-nil}
use Rattle.std.proofs.lemmas.List.{append_cancel_left}
use Rattle.std.proofs.lemmas.List.Concat.{flat_map-cons}
use Rattle.std.specs.Prelude.{IsSome, flat_map}
use Rattle.bounded_executor.specs.Exchange.{Exchange}
use Rattle.bounded_executor.specs.Runs.{Runs}
use Rattle.job_terms.specs.Gains.{Gains}
use Rattle.jobs.specs.Endings.{SeenCarried}
use Rattle.jobs.specs.Jobs.{SeenJob}
use Rattle.lane_jobs.specs.Lanes.{AreMade, IsCarriedBy, IsSameJob, SeenCarrier, SeenLane}
use Rattle.run_traces.proofs.Steps.{given_in, taken_in}
use Rattle.run_traces.specs.Traces.{RunTrace}
use Rattle.s3_model.specs.Talks.{Note, Talk, WireLog}
use Rattle.s3_model.specs.declared.answers.Class.{Class}
use Rattle.attempts.specs.Attempts.{SignedRequest}
use Rattle.shared_lemmas.proofs.Clashes.{false_true}
use Rattle.shared_lemmas.proofs.Members.{contains_of, has_at}
use Rattle.trace_laws.proofs.Own.{RunsAt, runs_at, same_carrier}
use Rattle.trace_laws.specs.Joined.{CarriesJob, HasGained, HaveGained, IsJoined}

-- ---- one job

-- a job that was carried over a wire that is seen, with its outcome
pub record Trip (carrier : SeenCarrier) : Type 0 where
  pub job : SeenJob
  pub carried : SeenCarried
  pub was : WireLog
  pub now : WireLog
  pub by : IsCarriedBy carrier job (Some was) (Some now) carried
  pub same : IsSameJob job carried.job

module _ {carrier : SeenCarrier} where
  abbrev pub talks_of : Trip carrier → List Talk
  talks_of trip = trip.by.carries.shared.0

  abbrev pub notes_of : Trip carrier → List Note
  notes_of trip = trip.by.carries.shared.1

-- each attempt has its talk
pub many_talks : (r : SignedRequest) (place : List ℕ) (classes : List Class) (number : ℕ) (talks : List Talk) (notes : List Note) → AreMade r number place classes talks notes → length talks ≡ length classes
many_talks r place [] number talks notes made = ap (λ (ts : List Talk). length ts) made.0
many_talks r place (c ∷ classes) number talks notes (first, more, noted, others, t, n, one, rest) =
    let next = many_talks r place classes (number + 1) more others rest in
    ap (λ (ts : List Talk). length ts) (t ∙ ap (λ (ts : List Talk). ts ++ more) one.made.one_talk) ∙ ap suc next

-- ---- the jobs of a lane

some_of : {X : Type 0} (o : Option X) → IsSome o → (x : X) × (o ≡ Some x)
some_of None some = absurd (false_true some)
some_of (Some x) some = (x, refl)

module _ {W : Type 0} (seen : W → Option WireLog) (carrier : SeenCarrier) where
  pub record Trips (begin : Option WireLog) (given : List SeenJob) (taken : List SeenCarried) (end : WireLog) : Type 0 where
    pub trips : List (Trip carrier)
    pub jobs : map (λ (trip : Trip carrier). trip.job) trips ≡ given
    pub outcomes : map (λ (trip : Trip carrier). trip.carried) trips ≡ taken
    pub start : WireLog
    pub starts : begin ≡ Some start
    pub talks : end.talks ≡ start.talks ++ flat_map talks_of trips
    pub notes : end.notes ≡ start.notes ++ flat_map notes_of trips

  -- a wire that is seen behind a job was seen before it
  seen_before : (o : Option WireLog) (mid : WireLog) (job : SeenJob) (done : SeenCarried) → IsCarriedBy carrier job o (Some mid) done → (was : WireLog) × (o ≡ Some was)
  seen_before None mid job done by = absurd by.carries.shared
  seen_before (Some was) mid job done by = (was, refl)

  joined_parts : {X : Type 0} (end mid was own more all : List X) → end ≡ mid ++ more → mid ≡ was ++ own → all ≡ own ++ more → end ≡ was ++ all
  joined_parts {X} end mid was own more all e m a =
      e ∙ ap (λ (xs : List X). xs ++ more) m ∙ append_assoc was own more ∙ ap (λ (xs : List X). was ++ xs) (sym a)

  module _ (begin : Option WireLog) (job : SeenJob) (done : SeenCarried) (given : List SeenJob) (taken : List SeenCarried) (end : WireLog) (mid : Option WireLog) (same : IsSameJob job done.job) (rest : Trips mid given taken end) where
    from_start : (was : WireLog) → begin ≡ Some was → IsCarriedBy carrier job (Some was) (Some rest.start) done → Trips begin (job ∷ given) (done ∷ taken) end
    from_start was is by =
        let trip : Trip carrier = record { job = job; carried = done; was = was; now = rest.start; by = by; same = same } in
        record {
          trips = trip ∷ rest.trips;
          jobs = ap (λ (js : List SeenJob). job ∷ js) rest.jobs;
          outcomes = ap (λ (cs : List SeenCarried). done ∷ cs) rest.outcomes;
          start = was;
          starts = is;
          talks = joined_parts end.talks rest.start.talks was.talks by.carries.shared.0 (flat_map talks_of rest.trips) (flat_map talks_of (trip ∷ rest.trips)) rest.talks by.carries.shared.2 (flat_map-cons talks_of trip rest.trips);
          notes = joined_parts end.notes rest.start.notes was.notes by.carries.shared.1 (flat_map notes_of rest.trips) (flat_map notes_of (trip ∷ rest.trips)) rest.notes by.carries.shared.3 (flat_map-cons notes_of trip rest.trips);
        }

    with_trip : IsCarriedBy carrier job begin mid done → Trips begin (job ∷ given) (done ∷ taken) end
    with_trip by =
        let here = subst (λ (o : Option WireLog). IsCarriedBy carrier job begin o done) rest.starts by in
        let start = seen_before begin rest.start job done here in
        from_start start.0 start.1 (subst (λ (o : Option WireLog). IsCarriedBy carrier job o (Some rest.start) done) start.1 here)

  trips_of : (before after : SeenLane W) (given : List SeenJob) (taken : List SeenCarried) (end : WireLog) → Runs (CarriesJob seen) before given taken after → before.carrier ≡ carrier → seen after.wire ≡ Some end
      → Trips (seen before.wire) given taken end
  trips_of before after [] [] end ran is ends = record {
    trips = [];
    jobs = refl;
    outcomes = refl;
    start = end;
    starts = ap (λ (l : SeenLane W). seen l.wire) (sym ran) ∙ ends;
    talks = sym (append-nil end.talks);
    notes = sym (append-nil end.notes);
  }
  trips_of before after (job ∷ given) (done ∷ taken) end (next, one, more) is ends =
      with_trip (seen before.wire) job done given taken end (seen next.wire) one.same
      (trips_of next after given taken end more (same_carrier before.carrier next.carrier one.carrier ∙ is) ends)
      (subst (λ (k : SeenCarrier). IsCarriedBy k job (seen before.wire) (seen next.wire) done) is one.carried)
  trips_of before after (job ∷ given) [] end ran is ends = absurd ran
  trips_of before after [] (done ∷ taken) end ran is ends = absurd ran

  -- ---- with what its wire gained

  pub record LaneTrips (trace : RunTrace) (lane : ℕ) (talks : List Talk) (notes : List Note) : Type 0 where
    pub trips : List (Trip carrier)
    pub jobs : map (λ (trip : Trip carrier). trip.job) trips ≡ given_in lane trace
    pub outcomes : map (λ (trip : Trip carrier). trip.carried) trips ≡ taken_in lane trace
    pub talks_are : talks ≡ flat_map talks_of trips
    pub notes_are : notes ≡ flat_map notes_of trips

  gained_all : (begin after : Option WireLog) (start end : WireLog) (talks : List Talk) (notes : List Note) → begin ≡ Some start → after ≡ Some end
      → Gains begin after (λ gained noted. (gained ≡ talks) × (noted ≡ notes)) → (end.talks ≡ start.talks ++ talks) × (end.notes ≡ start.notes ++ notes)
  gained_all begin after start end talks notes b a gains = at (subst (λ (o : Option WireLog). Gains (Some start) o (λ gained noted. (gained ≡ talks) × (noted ≡ notes))) a
      (subst (λ (o : Option WireLog). Gains o after (λ gained noted. (gained ≡ talks) × (noted ≡ notes))) b gains))
    where
      at : Gains (Some start) (Some end) (λ gained noted. (gained ≡ talks) × (noted ≡ notes)) → (end.talks ≡ start.talks ++ talks) × (end.notes ≡ start.notes ++ notes)
      at g = (g.2 ∙ ap (λ (ts : List Talk). start.talks ++ ts) g.4.0, g.3 ∙ ap (λ (ns : List Note). start.notes ++ ns) g.4.1)

  module _ (trace : RunTrace) (befores afters : List (SeenLane W)) (logs : ℕ → List Talk) (notes : ℕ → List Note) (joined : IsJoined seen carrier trace befores afters) (gained : HaveGained seen befores afters logs notes) where
    at_lane : (lane : ℕ) → RunsAt (CarriesJob seen) befores joined.lanes afters lane → LaneTrips trace lane (logs lane) (notes lane)
    at_lane lane at = with_end (some_of (seen at.after.wire) gain.0)
      where
        gain : HasGained (seen at.before.wire) (seen at.after.wire) (logs lane) (notes lane)
        gain = gained.each lane at.before at.after at.at_before at.at_after

        is : at.before.carrier ≡ carrier
        is = joined.carriers at.before (contains_of befores at.before (has_at befores lane at.before at.at_before))

        with_end : (end : WireLog) × (seen at.after.wire ≡ Some end) → LaneTrips trace lane (logs lane) (notes lane)
        with_end (end, ends) =
            let t = trips_of at.before at.after _ _ end at.ran is ends in
            let all = gained_all (seen at.before.wire) (seen at.after.wire) t.start end (logs lane) (notes lane) t.starts ends gain.1 in
            record {
              trips = t.trips;
              jobs = t.jobs ∙ ap (λ (x : Exchange SeenJob SeenCarried). x.given) (joined.exchanged lane);
              outcomes = t.outcomes ∙ ap (λ (x : Exchange SeenJob SeenCarried). x.taken) (joined.exchanged lane);
              talks_are = append_cancel_left t.start.talks (logs lane) (flat_map talks_of t.trips) (sym all.0 ∙ t.talks);
              notes_are = append_cancel_left t.start.notes (notes lane) (flat_map notes_of t.trips) (sym all.1 ∙ t.notes);
            }

    pub lane_trips : (lane : ℕ) → LaneTrips trace lane (logs lane) (notes lane)
    lane_trips lane = elim (runs_at (CarriesJob seen) befores joined.lanes afters joined.carried lane) [
      | inl none ↦ let unused_lane = gained.others lane none.1 in record {
        trips = [];
        jobs = ap (λ (x : Exchange SeenJob SeenCarried). x.given) (sym none.0 ∙ joined.exchanged lane);
        outcomes = ap (λ (x : Exchange SeenJob SeenCarried). x.taken) (sym none.0 ∙ joined.exchanged lane);
        talks_are = unused_lane.0;
        notes_are = unused_lane.1;
      }
      | inr at ↦ at_lane lane at
    ]
