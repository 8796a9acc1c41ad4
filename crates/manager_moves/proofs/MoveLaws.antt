-- The laws of the rule of moves.
use Rattle.std.proofs.Common.{◌≡◌, ◌==◌, ◌&&◌, ◌+◌, ◌<◌, ◌≤◌, ℕ, zero, suc, Bool, true, false, List, [], ◌∷◌, Option, Some, None, IfSome, refl, ap, subst, sym, arith}
use Rattle.std.specs.Prelude.{◌++◌, drop, length, take, not, is_some, slice_get, unwrap_or, if◌then◌else◌, nat_lt}
use Rattle.std.specs.Option.{option_or}
use Rattle.std.proofs.lemmas.List.{length-append, length-drop}
use Rattle.job_terms.specs.Jobs.{job_of}
use Rattle.s3_model.specs.declared.outcomes.JobId.{JobId}
use Rattle.s3_model.specs.declared.requests.Op.{Op}
use Rattle.task_acts.specs.declared.acts.Act.{Act}
use Rattle.task_acts.specs.declared.acts.Act.TheVariants as act
use Rattle.task_acts.specs.declared.work.Work.{Work}
use Rattle.std.proofs.lemmas.Bool.{and_parts, eqb-true, ltb-false, ltb-true}
use Rattle.manager_moves.specs.declared.moves.Move.{Move}
use Rattle.manager_moves.specs.declared.moves.Move.TheVariants as move
use Rattle.manager_moves.specs.Laws.{GoesToTheFreest, IsRun, JobsGoToTheFreest, LanesKeepTheirDepth, IsFreest}
use Rattle.manager_moves.specs.Lanes.{freest, jobs_in, out_in}
use Rattle.manager_moves.specs.Moves.{call_of, first_call, first_giving, giving_of, has_free_part, has_room, if_ready, is_any_out, lacks_part, line_for, made, next_make, next_move, ready, unfinished_from}
use Rattle.manager_moves.specs.Runs.{Events, Shared, Made, Sent, Back, Called, Lined, Stopped, lined_count, made_count, outcome_in}

none_some : {X : Type 0} {x : X} → None ≡ Some x → ⊥
none_some e = cc

pub both : (P : Move → Type 0) → (a b : Option Move) → IfSome a P → IfSome b P → IfSome (option_or a b) P
both P None b x y = y
both P (Some m) b x y = x

pub from_default : (P : Move → Type 0) → (a : Option Move) → (d : Move) → IfSome a P → P d → P (unwrap_or a d)
from_default P None d x y = y
from_default P (Some m) d x y = x

-- ---- the freest lane

strictly : (x j : ℕ) → x < suc j → (x == j) ≡ false → x < j
strictly x j t e = grind arith

at_or_below : (P : Type 0) (b : Bool) (x j : ℕ) → (x == j) ≡ b → x < suc j → (x < j → P) → (x ≡ j → P) → P
at_or_below P true x j e t below same = same (eqb-true x j e)
at_or_below P false x j e t below same = below (strictly x j t e)

module _ (events : Events) where
  abbrev out : ℕ → ℕ
  out lane = out_in lane events

  abbrev IsBest : (count lane : ℕ) → Type 0
  IsBest count lane = ((other : ℕ) → other < count → out lane ≤ out other) × ((other : ℕ) → other < lane → out lane < out other)
      × (lane ≤ count)

  best_of : (b : Bool) (j : ℕ) (lower : ℕ) → nat_lt (out j) (out lower) ≡ b → IsBest j lower → lower < suc j
      → IsBest (suc j) (if b then j else lower) × ((if b then j else lower) < suc j)
  best_of true j lower e (least, first, few) w =
      let less = ltb-true (out j) (out lower) e in (
        (
          (λ other t. at_or_below _ (other == j) other j refl t (λ l. let h = least other l in omega arith) (λ same. let h = ap out same in omega arith)),
          (λ other l. let h = least other l in omega arith),
          omega arith,
        ),
        omega arith,
      )
  best_of false j lower e (least, first, few) w =
      let more = ltb-false (out j) (out lower) e in
      (((λ other t. at_or_below _ (other == j) other j refl t (λ l. least other l) (λ same. let h = ap out same in omega arith)), first, omega arith), w)

  best : (count : ℕ) → IsBest (suc count) (freest (suc count) events) × (freest (suc count) events < suc count)
  best zero = best_of (nat_lt (out 0) (out 0)) 0 0 refl ((λ other l. absurd (omega arith)), (λ other l. absurd (omega arith)), omega arith) (omega arith)
  best (suc j) =
      let lower = best j in
      best_of (nat_lt (out (suc j)) (out (freest (suc j) events))) (suc j) (freest (suc j) events) refl lower.0 (omega arith)

pub is_freest : (s : Shared) (events : Events) → IsFreest s events (freest s.lanes events)
is_freest s events = by s.lanes
  where
    by : (count : ℕ) → IsFreest (record s { lanes = count }) events (freest count events)
    by zero = record {
      within = λ l. absurd (omega arith);
      least = λ other l. absurd (omega arith);
      first = λ other l. absurd (omega arith);
    }
    by (suc count) =
        let b = best events count in
        record { within = λ l. b.1; least = b.0.0; first = b.0.1 }

-- a front of a list has its elements at their places
pub in_front : {X : Type 0} (n : ℕ) (xs : List X) (i : ℕ) (x : X) → slice_get (take n xs) i ≡ Some x → slice_get xs i ≡ Some x
in_front zero xs i x e = absurd (none_some e)
in_front (suc n) [] i x e = e
in_front (suc n) (y ∷ ys) zero x e = e
in_front (suc n) (y ∷ ys) (suc i) x e = in_front n ys i x e

module _ (s : Shared) (events : Events) where
  -- a job is given for what a task is ready for, to the freest lane, where that has room and no part is wanted
  pub record IsGiven (task : ℕ) (o : Op) (k lane : ℕ) : Type 0 where
    pub work : Work
    pub of_plan : slice_get s.works task ≡ Some work
    pub is_ready : ready s events task work ≡ Some (act.Send o k)
    pub room : has_room s events ≡ true
    pub has_part : lacks_part s events task work o k ≡ false
    pub to : lane ≡ freest s.lanes events

  abbrev Fits : Move → Type 0
  Fits (move.Give task o k lane) = IsGiven task o k lane
  Fits moved = Unit {0}

  guarded : (b : Bool) (m : Move) → Fits m → IfSome (if b then Some m else None) Fits
  guarded true m x = x
  guarded false m x = tt

  call : (n : ℕ) (a : Act) → IfSome (call_of s events n a) Fits
  call n (act.Send o k) = tt
  call n (act.Read k) = guarded (has_free_part s events) (move.Read n k) tt
  call n act.Assemble = tt
  call n (act.Place k) = tt
  call n act.Rename = tt
  call n act.DropTemp = tt
  call n act.Remove = tt
  call n act.Stamp = tt

  calls_of : (n : ℕ) (a : Option Act) → IfSome (if_ready s events a (call_of s events n)) Fits
  calls_of n None = tt
  calls_of n (Some a) = call n a

  calls : (n : ℕ) (works : List Work) → IfSome (first_call s events n works) Fits
  calls n [] = tt
  calls n (w ∷ works) = both Fits _ _ (calls_of n (ready s events n w)) (calls (n + 1) works)

  module _ (n : ℕ) (w : Work) (is : slice_get s.works n ≡ Some w) where
    roomy : (room lacks : Bool) (o : Op) (k : ℕ) → ready s events n w ≡ Some (act.Send o k)
        → has_room s events ≡ room → lacks_part s events n w o k ≡ lacks
        → IfSome (if room && not lacks then Some (move.Give n o k (freest s.lanes events)) else None) Fits
    roomy true true o k e r l = tt
    roomy true false o k e r l = record { work = w; of_plan = is; is_ready = e; room = r; has_part = l; to = refl }
    roomy false lacks o k e r l = tt

    giving : (a : Act) → ready s events n w ≡ Some a → IfSome (giving_of s events n w a) Fits
    giving (act.Send o k) e = roomy (has_room s events) (lacks_part s events n w o k) o k e refl refl
    giving (act.Read k) e = tt
    giving act.Assemble e = tt
    giving (act.Place k) e = tt
    giving act.Rename e = tt
    giving act.DropTemp e = tt
    giving act.Remove e = tt
    giving act.Stamp e = tt

    givings_of : (a : Option Act) → ready s events n w ≡ a → IfSome (if_ready s events a (giving_of s events n w)) Fits
    givings_of None e = tt
    givings_of (Some a) e = giving a e

  givings : (n : ℕ) (works : List Work)
      → ((i m : ℕ) (w : Work) → m ≡ n + i → slice_get works i ≡ Some w → slice_get s.works m ≡ Some w)
      → IfSome (first_giving s events n works) Fits
  givings n [] h = tt
  givings n (w ∷ works) h = both Fits _ _ (givings_of n w (h 0 n w (omega arith) refl) (ready s events n w) refl)
      (givings (n + 1) works (λ i m v e is. h (suc i) m v (omega arith) is))

  line : (w : Option Work) → IfSome (line_for s events w) Fits
  line None = tt
  line (Some w) = guarded (is_some (outcome_in w (lined_count events) events)) (move.Line (lined_count events)) tt

  making : IfSome (next_make s events) Fits
  making = guarded _ (move.Make (made_count events)) tt

  waiting : (b : Bool) → Fits (if b then move.Wait else move.End)
  waiting true = tt
  waiting false = tt

  moving : Fits (next_move s events)
  moving = from_default Fits _ _ (both Fits _ _ (line (slice_get (made s events) (lined_count events)))
      (both Fits _ _ (calls 0 (made s events)) (both Fits _ _ (givings 0 (made s events) in_plan) making)))
      (waiting (is_any_out s events))
    where
      in_plan : (i m : ℕ) (w : Work) → m ≡ 0 + i → slice_get (made s events) i ≡ Some w → slice_get s.works m ≡ Some w
      in_plan i m w e is = subst (λ (j : ℕ). slice_get s.works j ≡ Some w) (omega arith)
          (in_front (made_count events) s.works i w is)

  pub given : (task : ℕ) (o : Op) (k to : ℕ) → next_move s events ≡ move.Give task o k to → IsGiven task o k to
  given task o k to e = subst (λ (m : Move). Fits m) e moving

  goes : (m : Move) → Fits m → GoesToTheFreest s events m
  goes (move.Give task o k lane) h =
      let room = ltb-true (out_in (freest s.lanes events) events) s.depth h.room in
      subst (λ (l : ℕ). (out_in l events < s.depth) × IsFreest s events l) (sym h.to) (room, is_freest s events)
  goes (move.Make n) h = tt
  goes (move.Read n k) h = tt
  goes (move.Place n k) h = tt
  goes (move.Assemble n k) h = tt
  goes (move.Rename n k) h = tt
  goes (move.DropTemp n k) h = tt
  goes (move.Remove n k) h = tt
  goes (move.Stamp n k) h = tt
  goes (move.Line n) h = tt
  goes move.Wait h = tt
  goes move.End h = tt

-- a task is made while fewer are unfinished than the queue holds
module _ (s : Shared) (events : Events) where
  abbrev Makes : Move → Type 0
  Makes (move.Make n) = unfinished_from s events 0 (made s events) < s.queue
  Makes moved = Unit {0}

  makes_guarded : (b : Bool) (m : Move) → Makes m → IfSome (if b then Some m else None) Makes
  makes_guarded true m x = x
  makes_guarded false m x = tt

  makes_call : (n : ℕ) (a : Option Act) → IfSome (if_ready s events a (call_of s events n)) Makes
  makes_call n None = tt
  makes_call n (Some (act.Send o k)) = tt
  makes_call n (Some (act.Read k)) = makes_guarded (has_free_part s events) (move.Read n k) tt
  makes_call n (Some act.Assemble) = tt
  makes_call n (Some (act.Place k)) = tt
  makes_call n (Some act.Rename) = tt
  makes_call n (Some act.DropTemp) = tt
  makes_call n (Some act.Remove) = tt
  makes_call n (Some act.Stamp) = tt

  makes_calls : (n : ℕ) (works : List Work) → IfSome (first_call s events n works) Makes
  makes_calls n [] = tt
  makes_calls n (w ∷ works) = both Makes _ _ (makes_call n (ready s events n w)) (makes_calls (n + 1) works)

  makes_giving : (n : ℕ) (w : Work) (a : Option Act) → IfSome (if_ready s events a (giving_of s events n w)) Makes
  makes_giving n w None = tt
  makes_giving n w (Some (act.Send o k)) = makes_guarded (has_room s events && not (lacks_part s events n w o k))
      (move.Give n o k (freest s.lanes events)) tt
  makes_giving n w (Some (act.Read k)) = tt
  makes_giving n w (Some act.Assemble) = tt
  makes_giving n w (Some (act.Place k)) = tt
  makes_giving n w (Some act.Rename) = tt
  makes_giving n w (Some act.DropTemp) = tt
  makes_giving n w (Some act.Remove) = tt
  makes_giving n w (Some act.Stamp) = tt

  makes_givings : (n : ℕ) (works : List Work) → IfSome (first_giving s events n works) Makes
  makes_givings n [] = tt
  makes_givings n (w ∷ works) = both Makes _ _ (makes_giving n w (ready s events n w)) (makes_givings (n + 1) works)

  makes_line : (w : Option Work) → IfSome (line_for s events w) Makes
  makes_line None = tt
  makes_line (Some w) =
      makes_guarded (is_some (outcome_in w (lined_count events) events)) (move.Line (lined_count events)) tt

  makes_next : (b : Bool) → (nat_lt (made_count events) (length s.works)
      && nat_lt (unfinished_from s events 0 (made s events)) s.queue) ≡ b
      → IfSome (if b then Some (move.Make (made_count events)) else None) Makes
  makes_next true e = ltb-true _ _ (and_parts (nat_lt (made_count events) (length s.works)) _ e).1
  makes_next false e = tt

  makes_end : (b : Bool) → Makes (if b then move.Wait else move.End)
  makes_end true = tt
  makes_end false = tt

  makes : Makes (next_move s events)
  makes = from_default Makes _ _ (both Makes _ _ (makes_line (slice_get (made s events) (lined_count events)))
      (both Makes _ _ (makes_calls 0 (made s events)) (both Makes _ _ (makes_givings 0 (made s events))
      (makes_next _ refl)))) (makes_end (is_any_out s events))

  pub made_within : next_move s events ≡ move.Make (made_count events)
      → unfinished_from s events 0 (made s events) < s.queue
  made_within e = subst (λ (m : Move). Makes m) e makes

pub jobs_go_to_the_freest : JobsGoToTheFreest
jobs_go_to_the_freest s events = goes s events (next_move s events) (moving s events)

one_more : (same : Bool) (jobs : List JobId) (job : JobId) (most : ℕ) → (same ≡ true → length jobs < most)
    → length jobs ≤ most → length (if same then jobs ++ job ∷ [] else jobs) ≤ most
one_more true jobs job most less e = let h = less refl in let l = length-append jobs (job ∷ []) in omega arith
one_more false jobs job most less e = e

one_less : (same : Bool) (jobs : List JobId) (most : ℕ) → length jobs ≤ most
    → length (if same then drop 1 jobs else jobs) ≤ most
one_less true jobs most e = let l = length-drop 1 jobs in omega arith
one_less false jobs most e = e

module _ (s : Shared) where
  less : (events : Events) (task : ℕ) (o : Op) (k to lane : ℕ) → next_move s events ≡ move.Give task o k to
      → (to == lane) ≡ true → out_in lane events < s.depth
  less events task o k to lane e same =
      let g = given s events task o k to e in
      let at = subst (λ (l : ℕ). l ≡ freest s.lanes events) (eqb-true to lane same) g.to in
      subst (λ (l : ℕ). out_in l events < s.depth) (sym at)
      (ltb-true (out_in (freest s.lanes events) events) s.depth g.room)

  depth : (events : Events) (lane : ℕ) → IsRun s events → out_in lane events ≤ s.depth
  depth [] lane h = omega arith
  depth (Made fits ∷ before) lane h = depth before lane h.1
  depth (Sent task o k to ∷ before) lane h =
      one_more (to == lane) (jobs_in lane before) (job_of task o k) s.depth (less before task o k to lane h.0) (depth before lane h.1)
  depth (Back from carried ∷ before) lane h =
      one_less (from == lane) (jobs_in lane before) s.depth (depth before lane h.1)
  depth (Called task called result ∷ before) lane h = depth before lane h.1
  depth (Lined ∷ before) lane h = depth before lane h.1
  depth (Stopped reason ∷ before) lane h = depth before lane h.1

pub lanes_keep_their_depth : LanesKeepTheirDepth
lanes_keep_their_depth s events lane h = depth s events lane h
