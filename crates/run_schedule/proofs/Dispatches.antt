-- The dispatches of a journal: what stood before each of them, and where it came.
use Rattle.std.proofs.Common.{append_assoc, append-nil, ◌≡◌, ◌∙◌, ◌+◌, ◌++◌, ◌<◌, ◌≤◌, ℕ, zero, suc, Bool, true, false, List, [], ◌∷◌, Some, refl, sym, subst, ap, inl, inr, arith, length, map, slice_get}
use Rattle.std.proofs.lemmas.Grind.{reverse_onto}
use Rattle.std.proofs.lemmas.List.{length-append}
use Rattle.std.specs.Prelude.{nat_lt, reverse, sum_by, if◌then◌else◌}
use Rattle.job_terms.specs.Dispatches.{Attempt, Dispatch, dispatches_from, earlier_dispatches, next_came, next_marks, paired, place_of}
use Rattle.job_terms.specs.Jobs.{is_job}
use Rattle.s3_model.specs.Talks.{Talk}
use Rattle.s3_model.specs.declared.outcomes.Event.{Event as Entry}
use Rattle.s3_model.specs.declared.outcomes.Event.TheVariants as entry
use Rattle.s3_model.specs.declared.outcomes.JobId.{JobId}
use Rattle.s3_model.specs.declared.tries.Mark.{Mark}
use Rattle.shared_lemmas.proofs.Clashes.{none_is_some, some_is}
use Rattle.shared_lemmas.proofs.Members.{Has, has-append_cases, has-append_left, has-filter, has_at, has_middle, kept, passes, reversed}
use Rattle.task_progress.proofs.Endings.{no}
use Rattle.task_progress.proofs.Progress.{less_is}
use Rattle.job_terms.proofs.SameJobs.{job_itself, job_same}
use Rattle.run_schedule.proofs.Entries.{came_given, given_came, given_same}

-- ---- where a job comes next

pub record ComesNext (job : JobId) (at : ℕ) (events : List Entry) (place : ℕ) (marks : List Mark) : Type 0 where
  pub front : List Entry
  pub rest : List Entry
  pub lane : ℕ
  pub is : events ≡ front ++ entry.Came job lane marks ∷ rest
  pub place_is : place ≡ at + length front
  pub none : (to : ℕ) (tries : List Mark) → Has front (entry.Came job to tries) → ⊥

pub comes_next : (job : JobId) (events : List Entry) (at place : ℕ) (marks : List Mark) → next_came job at events ≡ Some (place, marks) → ComesNext job at events place marks
comes_next job [] at place marks e = absurd (none_is_some (place, marks) e)
comes_next job (entry.Given other lane ∷ events) at place marks e = later (comes_next job events (at + 1) place marks e)
  where
    later : ComesNext job (at + 1) events place marks → ComesNext job at (entry.Given other lane ∷ events) place marks
    later c = record {
      front = entry.Given other lane ∷ c.front;
      rest = c.rest;
      lane = c.lane;
      is = ap (λ (j : List Entry). entry.Given other lane ∷ j) c.is;
      place_is = longer c.place_is;
      none = never;
    }
      where
        longer : place ≡ (at + 1) + length c.front → place ≡ at + length (entry.Given other lane ∷ c.front)
        longer f = omega arith

        never : (to : ℕ) (tries : List Mark) → Has (entry.Given other lane ∷ c.front) (entry.Came job to tries) → ⊥
        never to tries (inl f) = given_came job other to lane tries f
        never to tries (inr f) = c.none to tries f
comes_next job (entry.Came other lane tries ∷ events) at place marks e = by (is_job job other) refl e (λ f. comes_next job events (at + 1) place marks f)
  where
    here : job ≡ other → ◌≡◌ {A = ℕ × List Mark} (at, tries) (place, marks) → ComesNext job at (entry.Came other lane tries ∷ events) place marks
    here same f = record {
      front = [];
      rest = events;
      lane = lane;
      is = ap (λ (j : JobId). entry.Came j lane tries ∷ events) (sym same) ∙ ap (λ (m : List Mark). entry.Came job lane m ∷ events) (ap (λ (p : ℕ × List Mark). p.1) f);
      place_is = longer (ap (λ (p : ℕ × List Mark). p.0) f);
      none = λ to m none. none;
    }
      where
        longer : at ≡ place → place ≡ at + 0
        longer g = omega arith

    later : is_job job other ≡ false → ComesNext job (at + 1) events place marks → ComesNext job at (entry.Came other lane tries ∷ events) place marks
    later apart c = record {
      front = entry.Came other lane tries ∷ c.front;
      rest = c.rest;
      lane = c.lane;
      is = ap (λ (j : List Entry). entry.Came other lane tries ∷ j) c.is;
      place_is = longer c.place_is;
      none = never;
    }
      where
        longer : place ≡ (at + 1) + length c.front → place ≡ at + length (entry.Came other lane tries ∷ c.front)
        longer f = omega arith

        same_job : (to : ℕ) (m : List Mark) → entry.Came other lane tries ≡ entry.Came job to m → other ≡ job
        same_job to m f = cc

        never : (to : ℕ) (m : List Mark) → Has (entry.Came other lane tries ∷ c.front) (entry.Came job to m) → ⊥
        never to m (inl f) = no (sym apart ∙ ap (is_job job) (same_job to m f) ∙ job_itself job)
        never to m (inr f) = c.none to m f

    by : (b : Bool) → is_job job other ≡ b → (if b then Some (at, tries) else next_came job (at + 1) events) ≡ Some (place, marks)
        → (next_came job (at + 1) events ≡ Some (place, marks) → ComesNext job (at + 1) events place marks) → ComesNext job at (entry.Came other lane tries ∷ events) place marks
    by true same f rest = here (job_same job other same) (some_is (at, tries) (place, marks) f)
    by false apart f rest = later apart (rest f)

-- ---- where a dispatch stands

pub record StandsAt (journal : List Entry) (d : Dispatch) : Type 0 where
  pub front : List Entry
  pub rest : List Entry
  pub is : journal ≡ front ++ entry.Given d.job d.lane ∷ rest
  pub place : length front ≡ d.given_at
  pub talks : List Talk
  pub came_at : d.came_at ≡ place_of (next_came d.job (d.given_at + 1) rest)
  pub attempts : d.attempts ≡ paired (next_marks (next_came d.job (d.given_at + 1) rest)) talks
  -- whether its job was given before
  pub second : d.is_second ≡ true → (lane : ℕ) × Has front (entry.Given d.job lane)
  pub first : d.is_second ≡ false → (d.earlier ≡ 0) × ((lane : ℕ) → Has front (entry.Given d.job lane) → ⊥)

-- these dispatches are those of that part of a journal
pub record AreThose (front : List Entry) (before : List Dispatch) : Type 0 where
  pub given : (d : Dispatch) → Has before d → Has front (entry.Given d.job d.lane)
  pub each : (job : JobId) (lane : ℕ) → Has front (entry.Given job lane) → (d : Dispatch) × Has before d × (d.job ≡ job)

some_of : {X : Type 0} (xs : List X) → nat_lt 0 (length xs) ≡ true → (x : X) × Has xs x
some_of [] e = no e
some_of (x ∷ xs) e = (x, inl refl)

none_of : {X : Type 0} (xs : List X) → nat_lt 0 (length xs) ≡ false → xs ≡ []
none_of [] e = refl
none_of (x ∷ xs) e = no (sym e ∙ less_is 0 (length (x ∷ xs)) (omega arith))

came_on : (front : List Entry) (before : List Dispatch) (job : JobId) (lane : ℕ) (tries : List Mark) → AreThose front before → AreThose (front ++ entry.Came job lane tries ∷ []) before
came_on front before job lane tries those = record {
  given = λ d h. has-append_left front (entry.Came job lane tries ∷ []) (entry.Given d.job d.lane) (those.given d h);
  each = λ other to h. elim (has-append_cases front (entry.Came job lane tries ∷ []) (entry.Given other to) h) [
    | inl there ↦ those.each other to there
    | inr last ↦ elim last [ inl e ↦ absurd (came_given job other lane to tries e) | inr none ↦ absurd none ]
  ];
}

given_on : (front : List Entry) (before : List Dispatch) (new : Dispatch) → AreThose front before → AreThose (front ++ entry.Given new.job new.lane ∷ []) (new ∷ before)
given_on front before new those = record { given = given; each = each }
  where
    given : (d : Dispatch) → Has (new ∷ before) d → Has (front ++ entry.Given new.job new.lane ∷ []) (entry.Given d.job d.lane)
    given d (inl e) = subst (λ (x : Dispatch). Has (front ++ entry.Given new.job new.lane ∷ []) (entry.Given x.job x.lane)) e (has_middle front (entry.Given new.job new.lane) [])
    given d (inr h) = has-append_left front (entry.Given new.job new.lane ∷ []) (entry.Given d.job d.lane) (those.given d h)

    each : (job : JobId) (lane : ℕ) → Has (front ++ entry.Given new.job new.lane ∷ []) (entry.Given job lane) → (d : Dispatch) × Has (new ∷ before) d × (d.job ≡ job)
    each job lane h = elim (has-append_cases front (entry.Given new.job new.lane ∷ []) (entry.Given job lane) h) [
      | inl there ↦ let found = those.each job lane there in (found.0, inr found.1, found.2)
      | inr last ↦ elim last [ inl e ↦ (new, inl refl, (given_same new.job job new.lane lane e).0) | inr none ↦ absurd none ]
    ]

-- the earlier dispatches of a job
module _ (front : List Entry) (before : List Dispatch) (those : AreThose front before) (job : JobId) where
  was_given : nat_lt 0 (length (earlier_dispatches job before)) ≡ true → (lane : ℕ) × Has front (entry.Given job lane)
  was_given e =
      let some = some_of (earlier_dispatches job before) e in
      let same = job_same some.0.job job (passes (λ (d : Dispatch). is_job d.job job) before some.0 some.1) in
      (some.0.lane, subst (λ (j : JobId). Has front (entry.Given j some.0.lane)) same (those.given some.0 (kept (λ (d : Dispatch). is_job d.job job) before some.0 some.1)))

  not_given : nat_lt 0 (length (earlier_dispatches job before)) ≡ false
      → (sum_by (λ (d : Dispatch). length d.attempts) (earlier_dispatches job before) ≡ 0) × ((lane : ℕ) → Has front (entry.Given job lane) → ⊥)
  not_given e =
      let none = none_of (earlier_dispatches job before) e in
      (ap (λ (ds : List Dispatch). sum_by (λ (d : Dispatch). length d.attempts) ds) none, λ lane h. never none (those.each job lane h))
    where
      never : earlier_dispatches job before ≡ [] → (d : Dispatch) × Has before d × (d.job ≡ job) → ⊥
      never none found =
          subst (λ (ds : List Dispatch). Has ds found.0) none
          (has-filter (λ (d : Dispatch). is_job d.job job) before found.0 (ap (λ (j : JobId). is_job j job) found.2 ∙ job_itself job) found.1)

-- the dispatch of a job that is given there
abbrev dispatch_of : (ℕ → List Talk) → List Dispatch → ℕ → JobId → ℕ → List Entry → Dispatch
dispatch_of logs before at job lane events = record {
  job = job;
  lane = lane;
  given_at = at;
  came_at = place_of (next_came job (at + 1) events);
  earlier = sum_by (λ (d : Dispatch). length d.attempts) (earlier_dispatches job before);
  is_second = nat_lt 0 (length (earlier_dispatches job before));
  attempts = paired (next_marks (next_came job (at + 1) events)) (logs lane);
}

module _ (journal : List Entry) where
  longer : (front : List Entry) (x : Entry) (at : ℕ) → length front ≡ at → length (front ++ x ∷ []) ≡ at + 1
  longer front x at long = length-append front (x ∷ []) ∙ ap (λ (n : ℕ). n + 1) long

  newest_too : (new : Dispatch) (before : List Dispatch) → StandsAt journal new → ((d : Dispatch) → Has before d → StandsAt journal d) → (d : Dispatch) → Has (new ∷ before) d → StandsAt journal d
  newest_too new before here stands d (inl e) = subst (StandsAt journal) e here
  newest_too new before here stands d (inr h) = stands d h

  each_stands : (events front : List Entry) (logs : ℕ → List Talk) (before : List Dispatch) (at : ℕ) → journal ≡ front ++ events → length front ≡ at → AreThose front before
      → ((d : Dispatch) → Has before d → StandsAt journal d) → (d : Dispatch) → Has (dispatches_from logs before at events) d → StandsAt journal d
  each_stands [] front logs before at is long those stand d h = stand d (reversed before d h)
  each_stands (entry.Came job lane tries ∷ events) front logs before at is long those stand d h =
      each_stands events (front ++ entry.Came job lane tries ∷ []) logs before (at + 1) (is ∙ sym (append_assoc front (entry.Came job lane tries ∷ []) events)) (longer front (entry.Came job lane tries) at long)
      (came_on front before job lane tries those) stand d h
  each_stands (entry.Given job lane ∷ events) front logs before at is long those stand d h =
      each_stands events (front ++ entry.Given job lane ∷ []) _ (dispatch_of logs before at job lane events ∷ before) (at + 1) (is ∙ sym (append_assoc front (entry.Given job lane ∷ []) events)) (longer front (entry.Given job lane) at long)
      (given_on front before (dispatch_of logs before at job lane events) those) (newest_too (dispatch_of logs before at job lane events) before here stand) d h
    where
      here : StandsAt journal (dispatch_of logs before at job lane events)
      here = record {
        front = front;
        rest = events;
        is = is;
        place = long;
        talks = logs lane;
        came_at = refl;
        attempts = refl;
        second = was_given front before those job;
        first = not_given front before those job;
      }

-- ---- in their order

-- each is given at or behind that place, and behind the one before it
abbrev Rise : ℕ → List Dispatch → Type 0
Rise at [] = Unit {0}
Rise at (d ∷ ds) = (at ≤ d.given_at) × Rise (d.given_at + 1) ds

rise_from : (low at : ℕ) (ds : List Dispatch) → low ≤ at → Rise at ds → Rise low ds
rise_from low at [] l r = tt
rise_from low at (d ∷ ds) l r = (by r.0, r.1)
  where
    by : at ≤ d.given_at → low ≤ d.given_at
    by m = omega arith

pub record Goes (logs : ℕ → List Talk) (before : List Dispatch) (at : ℕ) (events : List Entry) : Type 0 where
  pub tail : List Dispatch
  pub is : dispatches_from logs before at events ≡ reverse before ++ tail
  pub rises : Rise at tail

goes_on : (events : List Entry) (logs : ℕ → List Talk) (before : List Dispatch) (at : ℕ) → Goes logs before at events
goes_on [] logs before at = record { tail = []; is = sym (append-nil (reverse before)); rises = tt }
goes_on (entry.Came job lane tries ∷ events) logs before at =
    let rest = goes_on events logs before (at + 1) in
    let below : at ≤ at + 1 = omega arith in
    record { tail = rest.tail; is = rest.is; rises = rise_from at (at + 1) rest.tail below rest.rises }
goes_on (entry.Given job lane ∷ events) logs before at =
    let new = dispatch_of logs before at job lane events in
    let rest = goes_on events _ (new ∷ before) (at + 1) in
    let here : at ≤ at = omega arith in
    record {
      tail = new ∷ rest.tail;
      is = rest.is ∙ ap (λ (ds : List Dispatch). ds ++ rest.tail) (reverse_onto before new []) ∙ append_assoc (reverse before) (new ∷ []) rest.tail;
      rises = (here, rest.rises);
    }

all_above : (at : ℕ) (ds : List Dispatch) → Rise at ds → (d : Dispatch) → Has ds d → at ≤ d.given_at
all_above at [] r d h = absurd h
all_above at (x ∷ ds) r d (inl e) = subst (λ (y : Dispatch). at ≤ y.given_at) e r.0
all_above at (x ∷ ds) r d (inr h) = by r.0 (all_above (x.given_at + 1) ds r.1 d h)
  where
    by : at ≤ x.given_at → x.given_at + 1 ≤ d.given_at → at ≤ d.given_at
    by l m = omega arith

in_turn : (at : ℕ) (ds : List Dispatch) → Rise at ds → (i j : ℕ) (a b : Dispatch) → i < j → slice_get ds i ≡ Some a → slice_get ds j ≡ Some b → a.given_at < b.given_at
in_turn at [] r i j a b l e f = absurd (none_is_some a e)
in_turn at (x ∷ ds) r zero zero a b l e f = absurd (omega arith)
in_turn at (x ∷ ds) r zero (suc j) a b l e f = by (all_above (x.given_at + 1) ds r.1 b (has_at ds j b f)) (ap (λ (d : Dispatch). d.given_at) (some_is x a e))
  where
    by : x.given_at + 1 ≤ b.given_at → x.given_at ≡ a.given_at → a.given_at < b.given_at
    by m same = omega arith
in_turn at (x ∷ ds) r (suc i) zero a b l e f = absurd (omega arith)
in_turn at (x ∷ ds) r (suc i) (suc j) a b l e f = in_turn (x.given_at + 1) ds r.1 i j a b (omega arith) e f

-- ---- of a whole journal

pub stands_in : (journal : List Entry) (logs : ℕ → List Talk) (d : Dispatch) → Has (dispatches_from logs [] 0 journal) d → StandsAt journal d
stands_in journal logs d h = each_stands journal journal [] logs [] 0 refl refl (record { given = λ e none. absurd none; each = λ job lane none. absurd none }) (λ e none. absurd none) d h

pub given_in_turn : (journal : List Entry) (logs : ℕ → List Talk) (i j : ℕ) (a b : Dispatch) → i < j → slice_get (dispatches_from logs [] 0 journal) i ≡ Some a → slice_get (dispatches_from logs [] 0 journal) j ≡ Some b
    → a.given_at < b.given_at
given_in_turn journal logs i j a b l e f =
    let goes = goes_on journal logs [] 0 in
    in_turn 0 goes.tail goes.rises i j a b l (ap (λ (ds : List Dispatch). slice_get ds i) (sym goes.is) ∙ e) (ap (λ (ds : List Dispatch). slice_get ds j) (sym goes.is) ∙ f)

-- ---- the marks of a dispatch

pub marks_of : (marks : List Mark) (talks : List Talk) → length marks ≡ length (paired marks talks) → map (λ (t : Attempt). t.mark) (paired marks talks) ≡ marks
marks_of [] talks e = refl
marks_of (m ∷ marks) [] e = absurd (omega arith)
marks_of (m ∷ marks) (t ∷ talks) e = ap (λ (ms : List Mark). m ∷ ms) (marks_of marks talks (omega arith))
