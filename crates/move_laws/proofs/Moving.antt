-- One task of a run moves, and the others stay as they were.
use Rattle.std.proofs.Common.{◌≡◌, ◌≢◌, ◌∙◌, ◌+◌, ◌<◌, ◌≤◌, ◌==◌, ℕ, zero, suc, Bool, true, false, List, [], ◌∷◌}
use Rattle.std.proofs.Common.{Option, Some, None}
use Rattle.std.proofs.Common.{refl, sym, subst, ap, arith, get_or, is_some, length, nat_lt, slice_get, if◌then◌else◌}
use Rattle.std.specs.Prelude.{set, take}
use Rattle.std.proofs.lemmas.Bool.{eqb-true, le-ltb, lt-ltb, ltb-false, ltb-true}
use Rattle.std.proofs.lemmas.List.{get_or-set_same, get_or-set_other}
use Rattle.act_queues.specs.declared.act_queues.ActSort.{ActSort}
use Rattle.manager_moves.proofs.CountLemmas.{no}
use Rattle.manager_moves.proofs.HoldLemmas.{same_number}
use Rattle.manager_moves.proofs.PartLaws.{nothing, same_value}
use Rattle.manager_moves.specs.Moves.{made, unfinished_from}
use Rattle.manager_moves.specs.Runs.{Events, Shared, lacks_memory, lined_count, made_count, outcome_in, share}
use Rattle.part_tables.specs.Tables.{IsTableOf}
use Rattle.queue_laws.specs.Holding.{HoldLanes}
use Rattle.queue_laws.specs.ReadyActs.{sort_at}
use Rattle.s3_model.specs.declared.outcomes.Outcome.{Outcome}
use Rattle.task_acts.specs.Histories.{History}
use Rattle.task_acts.specs.declared.work.Work.{Work}
use Rattle.task_core.specs.Machine.{SeenTask}
use Rattle.move_laws.proofs.Staying.{outcome_at_same, sort_same}
use Rattle.move_laws.specs.Follows.{Follows, HoldsTask, cancel_of, outcome_at}
use Rattle.move_laws.specs.Kept.{IsMoved, SeenMoves, at_task}

-- ---- a front of a list

same_either : {X : Type 0} (b : Bool) (x : X) → x ≡ (if b then x else x)
same_either true x = refl
same_either false x = refl

suc_lt : (n k : ℕ) → nat_lt (suc n) (suc k) ≡ nat_lt n k
suc_lt n k = by (nat_lt n k) refl
  where
    by : (b : Bool) → nat_lt n k ≡ b → nat_lt (suc n) (suc k) ≡ b
    by true e = let l = ltb-true n k e in lt-ltb (suc n) (suc k) (omega arith)
    by false e = let l = ltb-false n k e in le-ltb (suc n) (suc k) (omega arith)

none_below : {X : Type 0} (n : ℕ) (x : Option X) → None ≡ (if nat_lt n 0 then x else None)
none_below n x = sym (ap (λ (b : Bool). if b then x else None) (le-ltb n 0 (omega arith)))

pub front_at : {X : Type 0} (k : ℕ) (xs : List X) (n : ℕ)
    → slice_get (take k xs) n ≡ (if nat_lt n k then slice_get xs n else None)
front_at zero xs n = none_below n (slice_get xs n)
front_at (suc k) [] n = same_either (nat_lt n (suc k)) None
front_at (suc k) (x ∷ xs) zero =
    sym (ap (λ (b : Bool). if b then Some x else None) (lt-ltb 0 (suc k) (omega arith)))
front_at (suc k) (x ∷ xs) (suc n) =
    front_at k xs n ∙ sym (ap (λ (b : Bool). if b then slice_get xs n else None) (suc_lt n k))

-- ---- one place

-- what holds of the new one, and of the others as they were, holds at each place
pub each : {X : Type 0} (P : ℕ → X → Type 0) (task : ℕ) (here : X) (before now : ℕ → X)
    → ((n : ℕ) → now n ≡ at_task task n here (before n)) → P task here
    → ((n : ℕ) → (task == n) ≡ false → P n (before n)) → (n : ℕ) → P n (now n)
each {X} P task here before now is own others n = by (task == n) refl
  where
    by : (b : Bool) → (task == n) ≡ b → P n (now n)
    by true e = subst (λ (x : X). P n x)
        (sym (is n ∙ ap (λ (b : Bool). if b then here else before n) e))
        (subst (λ (k : ℕ). P k here) (eqb-true task n e) own)
    by false e = subst (λ (x : X). P n x)
        (sym (is n ∙ ap (λ (b : Bool). if b then here else before n) e)) (others n e)

apart : (task n : ℕ) → (task == n) ≡ false → n ≢ task
apart task n e same = no (sym e ∙ ap (λ (k : ℕ). task == k) same ∙ same_number task)

-- a list with one place set
pub set_at : {X : Type 0} (none : X) (xs : List X) (task : ℕ) (x : X) → task < length xs → (n : ℕ)
    → get_or (set xs task x) n none ≡ at_task task n x (get_or xs n none)
set_at {X} none xs task x within n = by (task == n) refl
  where
    by : (b : Bool) → (task == n) ≡ b → get_or (set xs task x) n none ≡ (if b then x else get_or xs n none)
    by true e =
        ap (λ (k : ℕ). get_or (set xs task x) k none) (sym (eqb-true task n e)) ∙ get_or-set_same xs task x none within
    by false e = get_or-set_other xs task n x none (apart task n e)

-- of two settings of one place the last counts
pub set_twice : {X : Type 0} (task n : ℕ) (first last x : X)
    → at_task task n last (at_task task n first x) ≡ at_task task n last x
set_twice {X} task n first last x = by (task == n)
  where
    by : (b : Bool) → (if b then last else (if b then first else x)) ≡ (if b then last else x)
    by true = refl
    by false = refl

-- ---- a task moves

-- the others keep their share
pub record OthersStay (task : ℕ) (events after : Events) : Type 0 where
  pub made_so : (n : ℕ) → (task == n) ≡ false → nat_lt n (made_count after) ≡ nat_lt n (made_count events)
  pub memory : (n : ℕ) → (task == n) ≡ false → lacks_memory n after ≡ lacks_memory n events
  pub same : (n : ℕ) → (task == n) ≡ false → (w : Work) → share w n after ≡ share w n events
  pub lines : lined_count after ≡ lined_count events
  pub cancel : cancel_of after ≡ cancel_of events

-- what is kept of the task that moved is what its share says
pub record IsOfShare (s : Shared) (after : Events) (task room : ℕ) (sort : Option ActSort) (state : Option SeenTask)
    (ended : Option Outcome) : Type 0 where
  pub sort_is : sort ≡ sort_at s after task (slice_get (made s after) task)
  pub ended_is : ended ≡ outcome_at task (slice_get s.works task) after
  pub held : (w : Work) → slice_get (made s after) task ≡ Some w → lacks_memory task after ≡ false
      → HoldsTask room w (share w task after) state
  pub lost : lacks_memory task after ≡ true → state ≡ None

module _ (s : Shared) (events after : Events) (task : ℕ) (sort : Option ActSort) (state : Option SeenTask)
    (ended : Option Outcome) (m new : SeenMoves) (follows : Follows s events m)
    (moved : IsMoved task sort state ended m new) (stay : OthersStay task events after)
    (of_share : IsOfShare s after task m.parts.pool.room sort state ended)
    (lanes : HoldLanes s after new.lanes) (parts : IsTableOf s.works after new.parts.slots)
    (made_is : new.made ≡ made_count after)
    (unfinished : new.unfinished ≡ unfinished_from s after 0 (made s after)) where
  -- a task that did not move is made after just where it was made before
  made_at : (n : ℕ) → (task == n) ≡ false → slice_get (made s after) n ≡ slice_get (made s events) n
  made_at n other =
      front_at (made_count after) s.works n
      ∙ ap (λ (b : Bool). if b then slice_get s.works n else None) (stay.made_so n other)
      ∙ sym (front_at (made_count events) s.works n)

  abbrev Sorted : ℕ → Option ActSort → Type 0
  Sorted n x = x ≡ sort_at s after n (slice_get (made s after) n)

  abbrev Ended : ℕ → Option Outcome → Type 0
  Ended n x = x ≡ outcome_at n (slice_get s.works n) after

  abbrev Held : ℕ → Option SeenTask → Type 0
  Held n x = (w : Work) → slice_get (made s after) n ≡ Some w → lacks_memory n after ≡ false
      → HoldsTask m.parts.pool.room w (share w n after) x

  sorts : (n : ℕ) → Sorted n (get_or new.acts n None)
  sorts = each Sorted task sort (λ n. get_or m.acts n None) (λ n. get_or new.acts n None) moved.acts of_share.sort_is
      (λ n other. follows.acts n
      ∙ sym (sort_same s events after n (stay.made_so n other) (stay.memory n other) (stay.same n other)
      (slice_get (made s events) n))
      ∙ ap (λ (w : Option Work). sort_at s after n w) (sym (made_at n other)))

  endings : (n : ℕ) → Ended n (get_or new.outcomes n None)
  endings = each Ended task ended (λ n. get_or m.outcomes n None) (λ n. get_or new.outcomes n None) moved.outcomes
      of_share.ended_is
      (λ n other. follows.outcomes n
      ∙ sym (outcome_at_same s events after n (stay.made_so n other) (stay.memory n other) (stay.same n other)
      (slice_get s.works n)))

  holdings : (n : ℕ) → Held n (get_or new.slots n None)
  holdings = each Held task state (λ n. get_or m.slots n None) (λ n. get_or new.slots n None) moved.slots of_share.held
      (λ n other w there found. subst (λ (h : History). HoldsTask m.parts.pool.room w h (get_or m.slots n None))
      (sym (stay.same n other w))
      (follows.tasks n w (sym (made_at n other) ∙ there) (sym (stay.memory n other) ∙ found)))

  abbrev Lost : ℕ → Option SeenTask → Type 0
  Lost n x = lacks_memory n after ≡ true → x ≡ None

  losses : (n : ℕ) → Lost n (get_or new.slots n None)
  losses = each Lost task state (λ n. get_or m.slots n None) (λ n. get_or new.slots n None) moved.slots of_share.lost
      (λ n other e. follows.lost n (sym (stay.memory n other) ∙ e))

  pub one_moves : Follows s after new
  one_moves = record {
    count = moved.count ∙ follows.count;
    queue = moved.queue ∙ follows.queue;
    buffers = moved.buffers ∙ follows.buffers;
    some_lane = follows.some_lane;
    lanes = lanes;
    acts = sorts;
    parts = parts;
    made_is = made_is;
    lined = moved.lined ∙ follows.lined ∙ sym stay.lines;
    unfinished = unfinished;
    reason = moved.reason ∙ follows.reason ∙ sym stay.cancel;
    outcomes = endings;
    tasks = λ n w there found.
        subst (λ (room : ℕ). HoldsTask room w (share w n after) (get_or new.slots n None)) (sym moved.room)
        (holdings n w there found);
    lost = losses;
  }

-- ---- how many are unfinished

abbrev pub open_in : Work → ℕ → Events → ℕ
open_in w n events = if is_some (outcome_in w n events) then 0 else 1

module _ (s : Shared) (events after : Events) (task : ℕ) (w : Work)
    (same : (v : Work) (n : ℕ) → (task == n) ≡ false → outcome_in v n after ≡ outcome_in v n events) where
  same_open : (v : Work) (n : ℕ) → (task == n) ≡ false → open_in v n after ≡ open_in v n events
  same_open v n e = ap (λ (o : Option Outcome). if is_some o then 0 else 1) (same v n e)

  above : (n : ℕ) → task < n → (task == n) ≡ false
  above n l = grind arith

  -- behind that task they are the same
  same_behind : (n : ℕ) (works : List Work) → task < n → unfinished_from s after n works ≡ unfinished_from s events n
      works
  same_behind n [] l = refl
  same_behind n (v ∷ works) l =
      let one = same_open v n (above n l) in
      let rest = same_behind (n + 1) works (omega arith) in omega (arith, one, rest)

  -- the counts differ by that task alone
  pub one_counts : (n i : ℕ) (works : List Work) → task ≡ n + i → slice_get works i ≡ Some w
      → unfinished_from s after n works + open_in w task events ≡ unfinished_from s events n works + open_in w task
      after
  one_counts n i [] e there = absurd (nothing there)
  one_counts n zero (v ∷ works) e there =
      let same_work : v ≡ w = same_value there in
      let at : n ≡ task = omega (arith, e) in
      let rest = same_behind (n + 1) works (omega (arith, e)) in
      let now : open_in v n after ≡ open_in w task after =
      ap (λ (x : Work). open_in x n after) same_work ∙ ap (λ (k : ℕ). open_in w k after) at in
      let before : open_in v n events ≡ open_in w task events =
      ap (λ (x : Work). open_in x n events) same_work ∙ ap (λ (k : ℕ). open_in w k events) at in
      omega (arith, rest, now, before)
  one_counts n (suc i) (v ∷ works) e there =
      let one = same_open v n (below n i e) in
      let rest = one_counts (n + 1) i works (omega (arith, e)) there in omega (arith, one, rest)
    where
      below : (n i : ℕ) → task ≡ n + suc i → (task == n) ≡ false
      below n i e = grind arith

-- a task that has not ended is counted
pub counted : (s : Shared) (events : Events) (task : ℕ) (w : Work) (n i : ℕ) (works : List Work) → task ≡ n + i
    → slice_get works i ≡ Some w → open_in w task events ≤ unfinished_from s events n works
counted s events task w n i [] e there = absurd (nothing there)
counted s events task w n zero (v ∷ works) e there =
    let same_work : v ≡ w = same_value there in
    let at : n ≡ task = omega (arith, e) in
    let now : open_in v n events ≡ open_in w task events =
    ap (λ (x : Work). open_in x n events) same_work ∙ ap (λ (k : ℕ). open_in w k events) at in
    omega (arith, now)
counted s events task w n (suc i) (v ∷ works) e there =
    let rest = counted s events task w (n + 1) i works (omega (arith, e)) there in omega (arith, rest)
