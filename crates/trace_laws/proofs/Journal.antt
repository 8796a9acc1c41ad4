-- The journal of a trace whose wires are seen, and its dispatches in the order of their completions.
use Rattle.std.proofs.Common.{◌≡◌, ◌∙◌, ◌==◌, ◌<◌, ◌≤◌, ◌++◌, ℕ, Bool, true, false, cond, List, [], ◌∷◌, Option, Some, append_assoc, refl, sym, subst, ap, inl, inr, arith, get_or, length, map, slice_get}
use Rattle.std.proofs.lemmas.Option.{slice_get-get_or, slice_get_within}
use Rattle.std.specs.Prelude.{AllPairs, Contains, unwrap_or}
use Rattle.bounded_executor.specs.Exchange.{Exchange}
use Rattle.job_terms.specs.Attempts.{in_lane}
use Rattle.job_terms.specs.Dispatches.{Dispatch, Dispatched, dispatches}
use Rattle.jobs.specs.Endings.{SeenCarried}
use Rattle.jobs.specs.Jobs.{SeenJob}
use Rattle.lane_jobs.specs.Lanes.{SeenCarrier, SeenLane}
use Rattle.lane_laws.specs.Runs.{Giving, dispatched_of}
use Rattle.run_promise.specs.Schedule.{IsBefore, IsBeforeAny, Setting}
use Rattle.run_traces.proofs.Dispatching.{Rising, Row, rows_in}
use Rattle.run_traces.proofs.Rows.{behind, came_there, comes_earlier, numbered_at, row_coming, same_came}
use Rattle.run_traces.proofs.Steps.{entry_count, given_count}
use Rattle.run_traces.proofs.Turns.{given_there}
use Rattle.run_traces.specs.Traces.{Gave, RunTrace, Took, journal_of}
use Rattle.s3_model.specs.Talks.{Note, Talk, WireLog}
use Rattle.s3_model.specs.declared.outcomes.Event.TheVariants as entry
use Rattle.s3_model.specs.declared.outcomes.JobId.{JobId}
use Rattle.s3_model.specs.declared.tries.Mark.{Mark}
use Rattle.shared_lemmas.proofs.Clashes.{none_is_some, some_is}
use Rattle.shared_lemmas.proofs.Members.{Has, contains_of, has, has-map, mapped}
use Rattle.task_schedule.specs.Journals.{ComeInOrder}
use Rattle.trace_laws.proofs.Givings.{all_come, giving_of, is_giving, map_at, marks_long, of_lanes, row_trip, rows_shown, shares}
use Rattle.trace_laws.proofs.Own.{runs_at}
use Rattle.trace_laws.proofs.Sorting.{Apart, Sorted, pairs_of, sorted}
use Rattle.trace_laws.specs.Joined.{CarriesJob, HaveGained, IsJoined}
use Rattle.trace_laws.specs.Journals.{HasGivings, IsGivingOf}

before_of : (a b : Option ℕ) (m n : ℕ) → a ≡ Some m → b ≡ Some n → m < n → IsBeforeAny a b
before_of a b m n e f less = subst (λ (o : Option ℕ). IsBeforeAny o b) (sym e) (subst (λ (o : Option ℕ). IsBeforeAny (Some m) o) (sym f) less)

before_at : (a : Option ℕ) (m n : ℕ) → a ≡ Some m → m < n → IsBefore a n
before_at a m n e less = subst (λ (o : Option ℕ). IsBefore o n) (sym e) less

-- where a dispatch comes
abbrev came_place : Dispatched → ℕ
came_place c = unwrap_or c.dispatch.came_at 0

module _ {W : Type 0} (seen : W → Option WireLog) (carrier : SeenCarrier) (trace : RunTrace) (befores afters : List (SeenLane W)) (logs : ℕ → List Talk) (notes : ℕ → List Note)
    (joined : IsJoined seen carrier trace befores afters) (gained : HaveGained seen befores afters logs notes) where
  abbrev talks_at : ℕ → ℕ → List Talk
  talks_at = shares seen carrier trace befores afters logs notes joined gained

  abbrev ARow : Type 0
  ARow = Row trace talks_at

  abbrev giving : ARow → Giving
  giving row = giving_of seen carrier trace befores afters logs notes joined gained row

  abbrev rows : List ARow
  rows = (rows_shown seen carrier trace befores afters logs notes joined gained).rows

  abbrev pub givings : List Giving
  givings = map giving rows

  abbrev sent : ARow → Dispatched
  sent row = (giving row).of

  -- ---- members

  row_of : (c : Dispatched) → Has (dispatched_of givings) c → (row : ARow) × Has rows row × (sent row ≡ c)
  row_of c h =
      let g = mapped (λ (x : Giving). x.of) givings c h in
      let row = mapped giving rows g.0 g.1 in
      (row.0, row.1, ap (λ (x : Giving). x.of) row.2 ∙ g.2)

  row_there : (row : ARow) → Has rows row → Has (dispatched_of givings) (sent row)
  row_there row h = has-map (λ (x : Giving). x.of) givings (giving row) (has-map giving rows row h)

  -- ---- the journal

  dispatches_are : (rs : List ARow) → map (λ (c : Dispatched). c.dispatch) (dispatched_of (map giving rs)) ≡ map (λ (row : ARow). row.dispatch) rs
  dispatches_are [] = refl
  dispatches_are (row ∷ rs) = ap (λ (ds : List Dispatch). row.dispatch ∷ ds) (dispatches_are rs)

  shown : map (λ (c : Dispatched). c.dispatch) (dispatched_of givings) ≡ dispatches (journal_of trace) logs
  shown = dispatches_are rows ∙ sym (rows_shown seen carrier trace befores afters logs notes joined gained).is

  came_as : (row : ARow) → slice_get (journal_of trace) (entry_count (behind trace talks_at row)) ≡ Some (entry.Came row.dispatch.job row.dispatch.lane row.carried.tries)
  came_as row =
      let t = row_trip seen carrier trace befores afters logs notes joined gained row in
      let name : row.carried.job.id ≡ row.dispatch.job =
      ap (λ (c : SeenCarried). c.job.id) (sym t.carried_is) ∙ t.trip.same.id ∙ ap (λ (j : SeenJob). j.id) t.job_is ∙ sym row.name in
      came_there trace talks_at row ∙ ap (λ (id : JobId). Some (entry.Came id row.dispatch.lane row.carried.tries)) name

  abbrev Comes : Dispatched → Type 0
  Comes c = (place : ℕ) × (tries : List Mark) × (c.dispatch.came_at ≡ Some place) × (slice_get (journal_of trace) place ≡ Some (entry.Came c.dispatch.job c.dispatch.lane tries)) × (length tries ≡ length c.dispatch.attempts)

  comes : (c : Dispatched) → Contains (dispatched_of givings) c → Comes c
  comes c known =
      let at = row_of c (has (dispatched_of givings) c known) in
      subst Comes at.2 (entry_count (behind trace talks_at at.0), at.0.carried.tries, at.0.came_at, came_as at.0, marks_long seen carrier trace befores afters logs notes joined gained at.0)

  -- only lanes that are there got jobs
  lane_there : (row : ARow) → row.dispatch.lane < length befores
  lane_there row = elim (runs_at (CarriesJob seen) befores joined.lanes afters joined.carried row.dispatch.lane) [
    | inl none ↦ absurd (none_is_some row.job (subst (λ (x : Exchange SeenJob SeenCarried). slice_get x.given (given_count row.dispatch.lane row.before) ≡ Some row.job)
        (sym (joined.exchanged row.dispatch.lane) ∙ none.0)
        (given_there trace (row.later ++ Took row.dispatch.lane row.carried ∷ row.between) row.before row.dispatch.lane row.job
        (row.is ∙ sym (append_assoc row.later (Took row.dispatch.lane row.carried ∷ row.between) (Gave row.dispatch.lane row.job ∷ row.before))))))
    | inr at ↦ slice_get_within befores row.dispatch.lane at.before at.at_before
  ]

  nothing_else : (place lane : ℕ) (job : JobId) (tries : List Mark) → slice_get (journal_of trace) place ≡ Some (entry.Came job lane tries)
      → (c : Dispatched) × Contains (dispatched_of givings) c × (c.dispatch.came_at ≡ Some place)
  nothing_else place lane job tries e =
      let found = row_coming trace talks_at rows (rows_shown seen carrier trace befores afters logs notes joined gained).numbered
      (all_come seen carrier trace befores afters logs notes joined gained) place lane job tries e in
      (sent found.0, contains_of (dispatched_of givings) (sent found.0) (row_there found.0 found.1), found.2)

  in_lane_rows : (lane : ℕ) (rs : List ARow) → in_lane lane (dispatched_of (map giving rs)) ≡ map sent (rows_in trace talks_at lane rs)
  in_lane_rows lane [] = refl
  in_lane_rows lane (row ∷ rs) = by (row.dispatch.lane == lane) (in_lane_rows lane rs)
    where
      by : (b : Bool) → in_lane lane (dispatched_of (map giving rs)) ≡ map sent (rows_in trace talks_at lane rs)
          → cond b (sent row ∷ in_lane lane (dispatched_of (map giving rs))) (in_lane lane (dispatched_of (map giving rs))) ≡ map sent (cond b (row ∷ rows_in trace talks_at lane rs) (rows_in trace talks_at lane rs))
      by true e = ap (λ (cs : List Dispatched). sent row ∷ cs) e
      by false e = e

  abbrev InTurn : Dispatched → Dispatched → Type 0
  InTurn a b = (at : ℕ) → b.dispatch.came_at ≡ Some at → IsBefore a.dispatch.came_at at

  turn : (lane : ℕ) (i k : ℕ) (a b : Dispatched) → i < k → slice_get (map sent (rows_in trace talks_at lane rows)) i ≡ Some a → slice_get (map sent (rows_in trace talks_at lane rows)) k ≡ Some b → InTurn a b
  turn lane i k a b less e f at is =
      let numbered = (rows_shown seen carrier trace befores afters logs notes joined gained).numbered lane in
      let first = map_at sent (rows_in trace talks_at lane rows) i a e in
      let second = map_at sent (rows_in trace talks_at lane rows) k b f in
      let one = numbered_at trace talks_at lane 0 (rows_in trace talks_at lane rows) numbered i first.0 first.1 in
      let other = numbered_at trace talks_at lane 0 (rows_in trace talks_at lane rows) numbered k second.0 second.1 in
      let number_one = one.1 in
      let number_other = other.1 in
      let earlier = comes_earlier trace talks_at first.0 second.0 (one.0 ∙ sym other.0) (omega arith) in
      let place = some_is _ _ (sym second.0.came_at ∙ ap (λ (c : Dispatched). c.dispatch.came_at) second.2 ∙ is) in
      before_at a.dispatch.came_at (entry_count (behind trace talks_at first.0)) at (ap (λ (c : Dispatched). c.dispatch.came_at) (sym first.2) ∙ first.0.came_at)
      (subst (λ (n : ℕ). entry_count (behind trace talks_at first.0) < n) place earlier)

  in_turn : (lane : ℕ) → AllPairs InTurn (in_lane lane (dispatched_of givings))
  in_turn lane i k d less below = subst (λ (cs : List Dispatched). k < length cs → InTurn (get_or cs i d) (get_or cs k d)) (sym (in_lane_rows lane rows)) (λ inside.
      turn lane i k _ _ less (slice_get-get_or (map sent (rows_in trace talks_at lane rows)) i d (smaller i k _ less inside)) (slice_get-get_or (map sent (rows_in trace talks_at lane rows)) k d inside)) below
    where
      smaller : (m n l : ℕ) → m < n → n < l → m < l
      smaller m n l p q = omega arith

  -- ---- in the order of their coming

  key_is : (row : ARow) → came_place (sent row) ≡ entry_count (behind trace talks_at row)
  key_is row = ap (λ (o : Option ℕ). unwrap_or o 0) row.came_at

  pub apart_rows : (rs : List ARow) → Rising trace talks_at rs → Apart came_place (dispatched_of (map giving rs))
  apart_rows [] rising = tt
  apart_rows (row ∷ rs) rising = (apart, apart_rows rs rising.1)
    where
      apart : (c : Dispatched) → Has (dispatched_of (map giving rs)) c → came_place (sent row) ≡ came_place c → ⊥
      apart c h same =
          let g = mapped (λ (x : Giving). x.of) (map giving rs) c h in
          let other = mapped giving rs g.0 g.1 in
          let is : sent other.0 ≡ c = ap (λ (x : Giving). x.of) other.2 ∙ g.2 in
          let places = sym (key_is row) ∙ same ∙ ap came_place (sym is) ∙ key_is other.0 in
          let one = same_came trace talks_at row other.0 places in
          let less = rising.0 other.0 other.1 in
          absurd (omega arith)

  abbrev in_order : Sorted came_place (dispatched_of givings)
  in_order = sorted came_place (dispatched_of givings) (apart_rows rows (rows_shown seen carrier trace befores afters logs notes joined gained).rising)

  placed : (c : Dispatched) → Has (dispatched_of givings) c → c.dispatch.came_at ≡ Some (came_place c)
  placed c h =
      let at = row_of c h in
      subst (λ (x : Dispatched). x.dispatch.came_at ≡ Some (came_place x)) at.2 (at.0.came_at ∙ ap (λ (k : ℕ). Some k) (sym (key_is at.0)))

  ordered : ComeInOrder in_order.all
  ordered = pairs_of came_place (λ (a b : Dispatched). IsBeforeAny a.dispatch.came_at b.dispatch.came_at) in_order.all in_order.rise
      (λ a b g h less. before_of a.dispatch.came_at b.dispatch.came_at (came_place a) (came_place b) (placed a (in_order.has a g)) (placed b (in_order.has b h)) less)

  -- ---- all of it

  module _ (s : Setting) (lanes_are : s.lanes ≡ length befores) where
    abbrev Known : Giving → Type 0
    Known g = IsGivingOf carrier trace g

    each : (g : Giving) → Contains givings g → IsGivingOf carrier trace g
    each g known =
        let at = mapped giving rows g (has givings g known) in
        subst Known at.2 (is_giving seen carrier trace befores afters logs notes joined gained at.0)

    within : (c : Dispatched) → Contains (dispatched_of givings) c → c.dispatch.lane < s.lanes
    within c known =
        let at = row_of c (has (dispatched_of givings) c known) in
        subst (λ (x : Dispatched). x.dispatch.lane < s.lanes) at.2 (subst (λ (n : ℕ). at.0.dispatch.lane < n) (sym lanes_are) (lane_there at.0))

    pub has_givings : HasGivings carrier s trace logs notes givings in_order.all
    has_givings = record {
      each = each;
      journal = record {
        shown = shown;
        comes = comes;
        lanes = within;
        unused_lanes = λ lane above. gained.others lane (subst (λ (n : ℕ). n ≤ lane) lanes_are above);
        nothing_else = nothing_else;
        in_turn = in_turn;
      };
      lanes = of_lanes seen carrier trace befores afters logs notes joined gained;
      is_coming = in_order.is;
      in_order = ordered;
    }

    pub givings_of : (givings : List Giving) × (coming : List Dispatched) × HasGivings carrier s trace logs notes givings coming
    givings_of = (givings, in_order.all, has_givings)
