-- The givings of a trace whose wires are seen: one for each job that was given, with the share of its lane's log.
use Rattle.std.proofs.Common.{◌≡◌, ◌∙◌, ◌==◌, ◌+◌, ◌≤◌, ◌++◌, ℕ, zero, suc, Bool, true, false, cond, List, [], ◌∷◌, Option, Some, append_assoc, refl, sym, subst, ap, arith, length, map, slice_get}
use Rattle.std.proofs.lemmas.List.{length-map}
use Rattle.std.proofs.lemmas.List.Concat.{flat_map-cons}
use Rattle.std.specs.Prelude.{drop, flat_map, unwrap_or}
use Rattle.attempts.specs.Attempts.{SignedRequest}
use Rattle.attempts.specs.Payloads.{body_of}
use Rattle.job_terms.specs.Attempts.{mark_of}
use Rattle.job_terms.specs.Dispatches.{Attempt, last_of, paired}
use Rattle.jobs.specs.Endings.{SeenCarried}
use Rattle.jobs.specs.Jobs.{SeenJob, bytes_of, range_of}
use Rattle.lane_jobs.specs.Lanes.{Ends, IsShare, SeenCarrier, SeenLane, limit_of, most_attempts, reason_of, request_for}
use Rattle.lane_laws.specs.Runs.{AreCarriedJobs, Giving, IsCarriedJob, given_to}
use Rattle.run_promise.specs.Schedule.{most_body}
use Rattle.run_schedule.proofs.Dispatches.{marks_of}
use Rattle.run_traces.proofs.Dispatching.{AllShown, Numbered, Row, all_shown, number_of, paired_long, rows_in}
use Rattle.run_traces.proofs.Steps.{entry_count, given_count, taken_count, taken_in}
use Rattle.run_traces.proofs.Turns.{given_there, taken_there}
use Rattle.run_traces.specs.Traces.{Gave, RunTrace, Took}
use Rattle.s3_model.specs.Talks.{Note, Talk, WireLog}
use Rattle.s3_model.specs.declared.answers.Class.{Class}
use Rattle.s3_model.specs.declared.tries.Mark.{Mark}
use Rattle.shared_lemmas.proofs.Clashes.{none_is_some, some_is}
use Rattle.trace_laws.proofs.Bodies.{body_in_place, last_body, last_success}
use Rattle.trace_laws.proofs.Own.{own_names}
use Rattle.trace_laws.proofs.Stopping.{Stopping, stopping}
use Rattle.trace_laws.proofs.Trips.{LaneTrips, Trip, lane_trips, many_talks, notes_of, talks_of}
use Rattle.trace_laws.specs.Joined.{HaveGained, IsJoined}
use Rattle.trace_laws.specs.Journals.{BringsBody, IsGivingOf, StandsIn, TellsOf, size_of}

-- ---- lists

pub map_at : {X Y : Type 0} (f : X → Y) (xs : List X) (k : ℕ) (y : Y) → slice_get (map f xs) k ≡ Some y → (x : X) × (slice_get xs k ≡ Some x) × (f x ≡ y)
map_at f [] k y e = absurd (none_is_some y e)
map_at f (x ∷ xs) zero y e = (x, refl, some_is (f x) y e)
map_at f (x ∷ xs) (suc k) y e = map_at f xs k y e

drop_at : {X : Type 0} (xs : List X) (k : ℕ) (x : X) → slice_get xs k ≡ Some x → drop k xs ≡ x ∷ drop (k + 1) xs
drop_at [] k x e = absurd (none_is_some x e)
drop_at (y ∷ xs) zero x e = ap (λ z. z ∷ xs) (some_is y x e)
drop_at {X} (y ∷ xs) (suc k) x e =
    let one : suc (k + 1) ≡ suc k + 1 = omega arith in
    drop_at xs k x e ∙ ap (λ (n : ℕ). x ∷ drop n (y ∷ xs)) one

drop_all : {X : Type 0} (xs : List X) → drop (length xs) xs ≡ []
drop_all [] = refl
drop_all (x ∷ xs) = drop_all xs

module _ {W : Type 0} (seen : W → Option WireLog) (carrier : SeenCarrier) (trace : RunTrace) (befores afters : List (SeenLane W)) (logs : ℕ → List Talk) (notes : ℕ → List Note)
    (joined : IsJoined seen carrier trace befores afters) (gained : HaveGained seen befores afters logs notes) where
  abbrev pub lane_of : (lane : ℕ) → LaneTrips seen carrier trace lane (logs lane) (notes lane)
  lane_of lane = lane_trips seen carrier trace befores afters logs notes joined gained lane

  abbrev pub trips_in : ℕ → List (Trip carrier)
  trips_in lane = (lane_of lane).trips

  -- ---- the shares of a lane

  abbrev pub share_at : List (Trip carrier) → ℕ → List Talk
  share_at [] number = []
  share_at (trip ∷ trips) zero = talks_of trip
  share_at (trip ∷ trips) (suc number) = share_at trips number

  share_is : (trips : List (Trip carrier)) (number : ℕ) (trip : Trip carrier) → slice_get trips number ≡ Some trip → share_at trips number ≡ talks_of trip
  share_is [] number trip e = absurd (none_is_some trip e)
  share_is (other ∷ trips) zero trip e = ap talks_of (some_is other trip e)
  share_is (other ∷ trips) (suc number) trip e = share_is trips number trip e

  abbrev pub shares : ℕ → ℕ → List Talk
  shares lane number = share_at (trips_in lane) number

  abbrev pub rest : ℕ → ℕ → List Talk
  rest lane number = flat_map talks_of (drop number (trips_in lane))

  abbrev noted : ℕ → ℕ → List Note
  noted lane number = flat_map notes_of (drop number (trips_in lane))

  abbrev request_of : Trip carrier → SignedRequest
  request_of trip = request_for carrier trip.by.asked trip.job.part (range_of trip.job.what).1

  -- as many talks as marks
  as_many_talks : (trip : Trip carrier) → length (talks_of trip) ≡ length trip.carried.tries
  as_many_talks trip =
      let c = trip.by.carries in
      many_talks (request_of trip) trip.by.place c.classes (trip.job.had + 1) c.shared.0 c.shared.4.0 c.shared.4.3
      ∙ sym (length-map c.classes mark_of) ∙ ap (λ (ms : List Mark). length ms) (sym c.marks)

  pub parts : (lane number : ℕ) (c : SeenCarried) → slice_get (taken_in lane trace) number ≡ Some c → (rest lane number ≡ shares lane number ++ rest lane (number + 1)) × (length (shares lane number) ≡ length c.tries)
  parts lane number c e =
      let t = map_at (λ (trip : Trip carrier). trip.carried) (trips_in lane) number c (subst (λ (cs : List SeenCarried). slice_get cs number ≡ Some c) (sym (lane_of lane).outcomes) e) in
      let share = share_is (trips_in lane) number t.0 t.1 in (
        ap (λ (ts : List (Trip carrier)). flat_map talks_of ts) (drop_at (trips_in lane) number t.0 t.1) ∙ flat_map-cons talks_of t.0 (drop (number + 1) (trips_in lane))
            ∙ ap (λ (ts : List Talk). ts ++ rest lane (number + 1)) (sym share),
        ap (λ (ts : List Talk). length ts) share ∙ as_many_talks t.0 ∙ ap (λ (d : SeenCarried). length d.tries) t.2,
      )

  many_trips : (lane : ℕ) → length (trips_in lane) ≡ given_count lane trace
  many_trips lane = sym (length-map (trips_in lane) (λ (trip : Trip carrier). trip.job)) ∙ ap (λ (js : List SeenJob). length js) (lane_of lane).jobs

  pub all_come : (lane : ℕ) → taken_count lane trace ≡ given_count lane trace
  all_come lane =
      ap (λ (cs : List SeenCarried). length cs) (sym (lane_of lane).outcomes) ∙ length-map (trips_in lane) (λ (trip : Trip carrier). trip.carried) ∙ many_trips lane

  abbrev ARow : Type 0
  ARow = Row trace shares

  pub rows_shown : AllShown trace shares joined.trace_is (own_names seen carrier trace befores afters joined) all_come rest parts logs
  rows_shown = all_shown trace shares joined.trace_is (own_names seen carrier trace befores afters joined) all_come rest parts logs (λ lane. (lane_of lane).talks_are)

  -- ---- the giving of a row

  -- what its lane carried
  pub record RowTrip (row : ARow) : Type 0 where
    pub trip : Trip carrier
    pub at : slice_get (trips_in row.dispatch.lane) (number_of trace shares row) ≡ Some trip
    pub job_is : trip.job ≡ row.job
    pub carried_is : trip.carried ≡ row.carried

  pub row_trip : (row : ARow) → RowTrip row
  row_trip row =
      let lane = row.dispatch.lane in
      let number = number_of trace shares row in
      let given = given_there trace (row.later ++ Took lane row.carried ∷ row.between) row.before lane row.job
      (row.is ∙ sym (append_assoc row.later (Took lane row.carried ∷ row.between) (Gave lane row.job ∷ row.before))) in
      let taken = subst (λ (k : ℕ). slice_get (taken_in lane trace) k ≡ Some row.carried) row.taken_number
      (taken_there trace row.later (row.between ++ Gave lane row.job ∷ row.before) lane row.carried row.is) in
      let job = map_at (λ (trip : Trip carrier). trip.job) (trips_in lane) number row.job (subst (λ (js : List SeenJob). slice_get js number ≡ Some row.job) (sym (lane_of lane).jobs) given) in
      let outcome = map_at (λ (trip : Trip carrier). trip.carried) (trips_in lane) number row.carried (subst (λ (cs : List SeenCarried). slice_get cs number ≡ Some row.carried) (sym (lane_of lane).outcomes) taken) in
      record {
        trip = job.0;
        at = job.1;
        job_is = job.2;
        carried_is = ap (λ (t : Trip carrier). t.carried) (some_is job.0 outcome.0 (sym job.1 ∙ outcome.1)) ∙ outcome.2;
      }

  abbrev pub ends_of : (trip : Trip carrier) → Stopping (trip.job.had + length trip.by.carries.classes) (most_attempts carrier.attempts trip.job.had) (reason_of trip.carried.job.cell) trip.by.carries.classes trip.carried.ending
  ends_of trip = stopping (trip.job.had + length trip.by.carries.classes) (most_attempts carrier.attempts trip.job.had) (reason_of trip.carried.job.cell) trip.by.carries.classes trip.carried.ending trip.by.carries.ends

  abbrev pub giving_from : ARow → Trip carrier → Giving
  giving_from row trip = record {
    of = record {
      dispatch = row.dispatch;
      ask = trip.by.asked;
      body = body_of trip.by.asked (bytes_of trip.job.part);
      limit = unwrap_or (limit_of trip.by.asked (range_of trip.job.what).1) most_body;
      size = size_of trip.job.what;
    };
    classes = trip.by.carries.classes;
    ended = trip.carried.ending;
    gave = (ends_of trip).chosen;
  }

  abbrev pub giving_of : ARow → Giving
  giving_of row = giving_from row (row_trip row).trip

  -- its dispatch has the marks of its outcome, and the talks of its share
  row_attempts : (row : ARow) (t : RowTrip row) → row.dispatch.attempts ≡ paired (map mark_of t.trip.by.carries.classes) (talks_of t.trip)
  row_attempts row t =
      row.attempts ∙ ap (λ (c : SeenCarried). paired c.tries (shares row.dispatch.lane (number_of trace shares row))) (sym t.carried_is)
      ∙ ap (λ (ts : List Talk). paired t.trip.carried.tries ts) (share_is (trips_in row.dispatch.lane) (number_of trace shares row) t.trip t.at)
      ∙ ap (λ (ms : List Mark). paired ms (talks_of t.trip)) t.trip.by.carries.marks

  had_is : (row : ARow) (t : RowTrip row) → t.trip.job.had ≡ row.dispatch.earlier
  had_is row t = ap (λ (j : SeenJob). j.had) t.job_is ∙ sym row.earlier

  -- ---- as its lane carried it

  carried_job : (row : ARow) (t : RowTrip row) → IsCarriedJob carrier.endpoint carrier.keys carrier.attempts (giving_from row t.trip) (talks_of t.trip) (notes_of t.trip)
  carried_job row t =
      let c = t.trip.by.carries in
      let had = had_is row t in
      record {
        limit = limit_of t.trip.by.asked (range_of t.trip.job.what).1;
        place = t.trip.by.place;
        limit_is = refl;
        attempts_are = row_attempts row t;
        at_most = subst (λ (n : ℕ). n + length c.classes ≤ most_attempts carrier.attempts n) had c.at_most;
        again = c.again;
        ends = subst (λ (n : ℕ). Ends (n + length c.classes) (most_attempts carrier.attempts n) (ends_of t.trip).chosen c.classes t.trip.carried.ending) had (ends_of t.trip).ends;
        shared = subst (λ (n : ℕ). IsShare (request_of t.trip) n t.trip.by.place c.classes t.trip.carried.ending (talks_of t.trip) (notes_of t.trip)) had c.shared.4;
      }

  carried_rows : (lane number : ℕ) (rows : List ARow) → Numbered trace shares lane number rows → AreCarriedJobs carrier.endpoint carrier.keys carrier.attempts (map giving_of rows) (rest lane number) (noted lane number)
  carried_rows lane number [] all =
      let none : drop number (trips_in lane) ≡ [] = ap (λ (k : ℕ). drop k (trips_in lane)) (all ∙ sym (many_trips lane)) ∙ drop_all (trips_in lane) in
      (ap (λ (ts : List (Trip carrier)). flat_map talks_of ts) none, ap (λ (ts : List (Trip carrier)). flat_map notes_of ts) none)
  carried_rows lane number (row ∷ rows) (lane_is, number_is, more) =
      let t = row_trip row in
      let at = subst (λ (l : ℕ). slice_get (trips_in l) number ≡ Some t.trip) lane_is (subst (λ (k : ℕ). slice_get (trips_in row.dispatch.lane) k ≡ Some t.trip) number_is t.at) in
      let dropped = drop_at (trips_in lane) number t.trip at in (
        talks_of t.trip,
        rest lane (number + 1),
        notes_of t.trip,
        noted lane (number + 1),
        ap (λ (ts : List (Trip carrier)). flat_map talks_of ts) dropped ∙ flat_map-cons talks_of t.trip (drop (number + 1) (trips_in lane)),
        ap (λ (ts : List (Trip carrier)). flat_map notes_of ts) dropped ∙ flat_map-cons notes_of t.trip (drop (number + 1) (trips_in lane)),
        carried_job row t,
        carried_rows lane (number + 1) rows more,
      )

  given_rows : (lane : ℕ) (rows : List ARow) → given_to lane (map giving_of rows) ≡ map giving_of (rows_in trace shares lane rows)
  given_rows lane [] = refl
  given_rows lane (row ∷ rows) = by (row.dispatch.lane == lane) (given_rows lane rows)
    where
      by : (b : Bool) → given_to lane (map giving_of rows) ≡ map giving_of (rows_in trace shares lane rows)
          → cond b (giving_of row ∷ given_to lane (map giving_of rows)) (given_to lane (map giving_of rows)) ≡ map giving_of (cond b (row ∷ rows_in trace shares lane rows) (rows_in trace shares lane rows))
      by true e = ap (λ (gs : List Giving). giving_of row ∷ gs) e
      by false e = e

  pub of_lanes : (lane : ℕ) → AreCarriedJobs carrier.endpoint carrier.keys carrier.attempts (given_to lane (map giving_of rows_shown.rows)) (logs lane) (notes lane)
  of_lanes lane =
      subst (λ (ns : List Note). AreCarriedJobs carrier.endpoint carrier.keys carrier.attempts (given_to lane (map giving_of rows_shown.rows)) (logs lane) ns) (sym (lane_of lane).notes_are)
      (subst (λ (ts : List Talk). AreCarriedJobs carrier.endpoint carrier.keys carrier.attempts (given_to lane (map giving_of rows_shown.rows)) ts (noted lane 0)) (sym (lane_of lane).talks_are)
      (subst (λ (gs : List Giving). AreCarriedJobs carrier.endpoint carrier.keys carrier.attempts gs (rest lane 0) (noted lane 0)) (sym (given_rows lane rows_shown.rows))
      (carried_rows lane 0 (rows_in trace shares lane rows_shown.rows) (rows_shown.numbered lane))))

  -- ---- what it tells

  brings : (row : ARow) (t : RowTrip row) → BringsBody (giving_from row t.trip).of t.trip.carried
  brings row t said gained_said get =
      let c = t.trip.by.carries in
      let last = last_success _ _ _ c.classes t.trip.carried.ending said c.ends gained_said in
      let body = last_body (request_of t.trip) t.trip.by.place c.classes (t.trip.job.had + 1) (talks_of t.trip) c.shared.4.0 said t.trip.carried.job.part c.shared.4.3 last
      (λ b stands. body_in_place t.trip.by.asked t.trip.carried.job.part t.trip.by.place b (range_of t.trip.job.what).1 said get t.trip.by.placed stands) in (
        record {
          attempt = body.attempt;
          last = ap (λ (tries : List Attempt). last_of tries) (row_attempts row t) ∙ body.last;
          bytes = body.bytes;
          shows = body.shows;
        },
        body.bytes_are,
      )

  tells : (row : ARow) (t : RowTrip row) → TellsOf carrier t.trip.job t.trip.carried (giving_from row t.trip)
  tells row t = record {
    was = Some t.trip.was;
    now = Some t.trip.now;
    by = t.trip.by;
    same = t.trip.same;
    of_job = record { id = row.name ∙ ap (λ (j : SeenJob). j.id) (sym t.job_is); ask_is = refl; body = refl; limit = refl };
    size = refl;
    classes = refl;
    ended = refl;
    gave = (ends_of t.trip).reason;
    brings = brings row t;
  }

  stands : (row : ARow) (t : RowTrip row) → StandsIn trace row.dispatch t.trip.job t.trip.carried
  stands row t = record {
    later = row.later;
    between = row.between;
    before = row.before;
    is =
        row.is ∙ ap (λ (c : SeenCarried). row.later ++ Took row.dispatch.lane c ∷ (row.between ++ Gave row.dispatch.lane row.job ∷ row.before)) (sym t.carried_is)
        ∙ ap (λ (j : SeenJob). row.later ++ Took row.dispatch.lane t.trip.carried ∷ (row.between ++ Gave row.dispatch.lane j ∷ row.before)) (sym t.job_is);
    given_at = row.given_at;
    came_at = row.came_at ∙ ap (λ (j : SeenJob). Some (entry_count (row.between ++ Gave row.dispatch.lane j ∷ row.before))) (sym t.job_is);
    earlier = row.earlier ∙ ap (λ (j : SeenJob). j.had) (sym t.job_is);
    marks = marks;
  }
    where
      marks : map (λ (attempt : Attempt). attempt.mark) row.dispatch.attempts ≡ t.trip.carried.tries
      marks =
          let c = t.trip.by.carries in
          let many = as_many_talks t.trip in
          ap (λ (tries : List Attempt). map (λ (a : Attempt). a.mark) tries) (row_attempts row t)
          ∙ marks_of (map mark_of c.classes) (talks_of t.trip) (long c.classes (talks_of t.trip) (many ∙ ap (λ (ms : List Mark). length ms) c.marks))
          ∙ sym c.marks
        where
          long : (classes : List Class) (talks : List Talk) → length talks ≡ length (map mark_of classes) → length (map mark_of classes) ≡ length (paired (map mark_of classes) talks)
          long classes talks e = sym (paired_long (map mark_of classes) talks e)

  pub marks_long : (row : ARow) → length row.carried.tries ≡ length row.dispatch.attempts
  marks_long row =
      let t = row_trip row in
      ap (λ (c : SeenCarried). length c.tries) (sym t.carried_is) ∙ ap (λ (ms : List Mark). length ms) (sym (stands row t).marks)
      ∙ length-map row.dispatch.attempts (λ (attempt : Attempt). attempt.mark)

  pub is_giving : (row : ARow) → IsGivingOf carrier trace (giving_of row)
  is_giving row = let t = row_trip row in record { job = t.trip.job; carried = t.trip.carried; stands = stands row t; tells = tells row t }
