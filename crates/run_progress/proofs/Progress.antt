-- A run ends only where every task has ended.
use Rattle.std.proofs.Common.{◌≡◌, ◌∙◌, ◌==◌, ◌&&◌, ◌||◌, ◌⊎◌, ◌+◌, ◌++◌, ◌≤◌, ◌<◌, ℕ, zero, suc, Bool, true, false, List, [], ◌∷◌, Option, Some, None, IfSome, refl, sym, subst, ap, arith, inl, inr, length, nat_lt, not, slice_get, take}
use Rattle.std.proofs.lemmas.Bool.{and_parts, eqb-true, ltb-false, ltb-true}
use Rattle.std.proofs.lemmas.Option.{slice_get_within}
use Rattle.std.specs.List.{range_with_len}
use Rattle.std.specs.Option.{option_or}
use Rattle.std.specs.Prelude.{filter, is_some, unwrap_or, if◌then◌else◌}
use Rattle.job_terms.specs.Jobs.{job_of}
use Rattle.s3_model.specs.declared.outcomes.JobId.{JobId}
use Rattle.s3_model.specs.declared.outcomes.Outcome.{Outcome}
use Rattle.s3_model.specs.declared.requests.Op.{Op}
use Rattle.s3_model.specs.declared.requests.Op.TheVariants as op
use Rattle.s3_model.specs.declared.tasks.Kind.{Kind}
use Rattle.s3_model.specs.declared.tasks.Kind.TheVariants as kind
use Rattle.task_acts.specs.declared.acts.Act.{Act}
use Rattle.task_acts.specs.declared.acts.Act.TheVariants as act
use Rattle.task_acts.specs.declared.acts.Stage.{Stage}
use Rattle.task_acts.specs.declared.acts.Stage.TheVariants as at
use Rattle.task_acts.specs.declared.work.Work.{Work}
use Rattle.task_acts.specs.Failures.{is_stopped}
use Rattle.task_acts.specs.Histories.{History}
use Rattle.task_acts.specs.Rule.{acts_of, file_acts, first_ready_in, is_due, is_idle_in, is_named, is_ready_in, piece_sends, reads, single_sends}
use Rattle.task_acts.specs.Stages.{has_done, is_out, may_be_given, stage}
use Rattle.task_acts.specs.Work.{first_number, is_piece, numbers, piece_op}
use Rattle.shared_lemmas.proofs.Members.{Has, found_or_not, has-append_left, has-append_right, has-map}
use Rattle.task_progress.proofs.Endings.{decided_or, no, skipped}
use Rattle.task_progress.proofs.Progress.{IsCounted, all_from, both, all_three, failed_stops, first_in_range, has_failed, in_range, less_is, opposite}
use Rattle.task_progress.proofs.Progress as tasks
use Rattle.manager_moves.proofs.BufferLaws.{none_beyond}
use Rattle.manager_moves.proofs.MoveLaws.{in_front}
use Rattle.manager_moves.proofs.PartLaws.{find_passes, nothing, same_value}
use Rattle.manager_moves.proofs.ShareLaws.{shares_are_histories}
use Rattle.manager_moves.specs.declared.moves.Move.{Move}
use Rattle.manager_moves.specs.declared.moves.Move.TheVariants as move
use Rattle.manager_moves.specs.Lanes.{freest, jobs_in, out_before, out_in}
use Rattle.manager_moves.specs.Laws.{IsRun}
use Rattle.manager_moves.specs.Moves.{call_of, first_call, first_giving, giving_of, has_free_part, has_room, if_ready, is_any_out, lacks_part, line_for, made, next_line, next_make, next_move, ready, unfinished_from}
use Rattle.manager_moves.specs.Parts.{has_part, holds_part, is_kept, lent, parts_of, sum_from}
use Rattle.manager_moves.specs.Runs.{Events, Shared, lacks_memory, lined_count, made_count, outcome_in, share}
use Rattle.run_progress.specs.RunProgress.{HasMeans, RunsEndWhole, TasksHaveEnded, WaitsAreForJobs}
use Rattle.run_progress.proofs.OutJobs.{InLane, never_out, out_in_lane}
use Rattle.run_progress.proofs.Ranks.{acts_sorted, found_least, rank}
use Rattle.run_progress.proofs.Limits.{few_lined, few_made}
use Rattle.run_progress.proofs.Waiting as waiting
use Rattle.run_progress.proofs.Waiting.{is_waiting}

-- ---- options and lists

some_or : {X : Type 0} (a b : Option X) → option_or a b ≡ None → (a ≡ None) × (b ≡ None)
some_or None b e = (refl, e)
some_or (Some x) b e = absurd (clash x e)
  where
    clash : {X : Type 0} (x : X) → Some x ≡ None → ⊥
    clash x e = cc

taken_at : {X : Type 0} (n : ℕ) (xs : List X) (i : ℕ) (x : X) → slice_get xs i ≡ Some x → i < n → slice_get (take n xs) i ≡ Some x
taken_at zero xs i x e l = absurd (omega arith)
taken_at (suc n) [] i x e l = e
taken_at (suc n) (y ∷ ys) zero x e l = e
taken_at (suc n) (y ∷ ys) (suc i) x e l = taken_at n ys i x e (omega arith)

none_taken : {X : Type 0} (n : ℕ) (xs : List X) (i : ℕ) → slice_get (take n xs) i ≡ None → n ≤ length xs → n ≤ i
none_taken zero xs i e l = omega arith
none_taken (suc n) [] i e l = absurd (omega arith)
none_taken (suc n) (y ∷ ys) zero e l = absurd (clash y e)
  where
    clash : {X : Type 0} (y : X) → Some y ≡ None → ⊥
    clash y e = cc
none_taken (suc n) (y ∷ ys) (suc i) e l = let rest = none_taken n ys i e (omega arith) in omega arith

not_less : (a b : ℕ) → nat_lt a b ≡ false → b ≤ a
not_less a b e = ltb-false a b e

one_passes : (p : ℕ → Bool) (xs : List ℕ) → 1 ≤ length (filter p xs) → (k : ℕ) × Has xs k × (p k ≡ true)
one_passes p [] some = absurd (omega arith)
one_passes p (x ∷ xs) some = by (p x) refl some (λ l. one_passes p xs l)
  where
    by : (b : Bool) → p x ≡ b → 1 ≤ length (if b then x ∷ filter p xs else filter p xs) → (1 ≤ length (filter p xs) → (k : ℕ) × Has xs k × (p k ≡ true)) → (k : ℕ) × Has (x ∷ xs) k × (p k ≡ true)
    by true e l rest = (x, inl refl, e)
    by false e l rest = let found = rest l in (found.0, inr found.1, found.2)

one_counts : (f : ℕ → Work → ℕ) (n : ℕ) (works : List Work) → 1 ≤ sum_from f n works → (i : ℕ) × (w : Work) × (slice_get works i ≡ Some w) × (1 ≤ f (n + i) w)
one_counts f n [] some = absurd (omega arith)
one_counts f n (w ∷ works) some = by (decided_or (nat_lt 0 (f n w))) (λ l. one_counts f (n + 1) works l)
  where
    by : (nat_lt 0 (f n w) ≡ true) ⊎ (nat_lt 0 (f n w) ≡ false) → (1 ≤ sum_from f (n + 1) works → (i : ℕ) × (v : Work) × (slice_get works i ≡ Some v) × (1 ≤ f (n + 1 + i) v))
        → (i : ℕ) × (v : Work) × (slice_get (w ∷ works) i ≡ Some v) × (1 ≤ f (n + i) v)
    by (inl e) rest = let here = ltb-true 0 (f n w) e in (0, w, refl, subst (λ (m : ℕ). 1 ≤ f m w) (omega arith) here)
    by (inr e) rest =
        let none = not_less 0 (f n w) e in
        let found = rest (omega arith) in
        (suc found.0, found.1, found.2, subst (λ (m : ℕ). 1 ≤ f m found.1) (omega arith) found.3)

numbered : (start count i : ℕ) → start ≤ i → i < start + count → Has (range_with_len start count) i
numbered start zero i low high = absurd (omega arith)
numbered start (suc count) i low high = by (start == i) refl (λ next. numbered (start + 1) count i next (omega arith))
  where
    by : (b : Bool) → (start == i) ≡ b → (start + 1 ≤ i → Has (range_with_len (start + 1) count) i) → Has (range_with_len start (suc count)) i
    by true same rest = inl (eqb-true start i same)
    by false other rest = inr (rest (past start i other low))
      where
        past : (x y : ℕ) → (x == y) ≡ false → x ≤ y → x + 1 ≤ y
        past x y e l = grind arith

-- ---- a wait and the end are the last of the moves

abbrev is_last : Move → Bool
is_last move.Wait = true
is_last move.End = true
is_last moved = false

abbrev is_wait : Move → Bool
is_wait move.Wait = true
is_wait moved = false

abbrev IsNotLast : Move → Type 0
IsNotLast m = is_last m ≡ false

guarded : (b : Bool) (m : Move) → IsNotLast m → IfSome (if b then Some m else None) IsNotLast
guarded true m x = x
guarded false m x = tt

either_no_end : (a b : Option Move) → IfSome a IsNotLast → IfSome b IsNotLast → IfSome (option_or a b) IsNotLast
either_no_end None b x y = y
either_no_end (Some m) b x y = x

-- what is the default is none of them
by_default : (a : Option Move) (d m : Move) → IfSome a IsNotLast → unwrap_or a d ≡ m → is_last m ≡ true → (a ≡ None) × (d ≡ m)
by_default None d m x e is = (refl, e)
by_default (Some v) d m x e is = no (sym x ∙ ap is_last e ∙ is)

module _ (s : Shared) (events : Events) where
  calls_no_end : (n : ℕ) (a : Option Act) → IfSome (if_ready s events a (call_of s events n)) IsNotLast
  calls_no_end n None = tt
  calls_no_end n (Some (act.Send o k)) = tt
  calls_no_end n (Some (act.Read k)) = guarded (has_free_part s events) (move.Read n k) refl
  calls_no_end n (Some act.Assemble) = refl
  calls_no_end n (Some (act.Place k)) = refl
  calls_no_end n (Some act.Rename) = refl
  calls_no_end n (Some act.DropTemp) = refl
  calls_no_end n (Some act.Remove) = refl
  calls_no_end n (Some act.Stamp) = refl

  givings_no_end : (n : ℕ) (w : Work) (a : Option Act) → IfSome (if_ready s events a (giving_of s events n w)) IsNotLast
  givings_no_end n w None = tt
  givings_no_end n w (Some (act.Send o k)) = guarded (has_room s events && not (lacks_part s events n w o k)) (move.Give n o k (freest s.lanes events)) refl
  givings_no_end n w (Some (act.Read k)) = tt
  givings_no_end n w (Some act.Assemble) = tt
  givings_no_end n w (Some (act.Place k)) = tt
  givings_no_end n w (Some act.Rename) = tt
  givings_no_end n w (Some act.DropTemp) = tt
  givings_no_end n w (Some act.Remove) = tt
  givings_no_end n w (Some act.Stamp) = tt

  all_calls : (n : ℕ) (works : List Work) → IfSome (first_call s events n works) IsNotLast
  all_calls n [] = tt
  all_calls n (w ∷ works) = either_no_end _ _ (calls_no_end n (ready s events n w)) (all_calls (n + 1) works)

  all_givings : (n : ℕ) (works : List Work) → IfSome (first_giving s events n works) IsNotLast
  all_givings n [] = tt
  all_givings n (w ∷ works) = either_no_end _ _ (givings_no_end n w (ready s events n w)) (all_givings (n + 1) works)

  line_no_end : (w : Option Work) → IfSome (line_for s events w) IsNotLast
  line_no_end None = tt
  line_no_end (Some w) = guarded (is_some (outcome_in w (lined_count events) events)) (move.Line (lined_count events)) refl

  pub record IsOver : Type 0 where
    pub no_line : next_line s events ≡ None
    pub no_call : first_call s events 0 (made s events) ≡ None
    pub no_giving : first_giving s events 0 (made s events) ≡ None
    pub no_make : next_make s events ≡ None
    pub none_out : is_any_out s events ≡ false

  abbrev moves : Option Move
  moves = option_or (next_line s events) (option_or (first_call s events 0 (made s events)) (option_or (first_giving s events 0 (made s events)) (next_make s events)))

  none_is_last : IfSome moves IsNotLast
  none_is_last =
      let lines = line_no_end (slice_get (made s events) (lined_count events)) in
      let calls = all_calls 0 (made s events) in
      let givings = all_givings 0 (made s events) in
      let makes = guarded (nat_lt (made_count events) (length s.works) && nat_lt (unfinished_from s events 0 (made s events)) s.queue) (move.Make (made_count events)) refl in
      either_no_end (next_line s events) _ lines (either_no_end (first_call s events 0 (made s events)) _ calls (either_no_end (first_giving s events 0 (made s events)) (next_make s events) givings makes))

  pub over : next_move s events ≡ move.End → IsOver
  over e =
      let is = by_default moves _ move.End none_is_last e refl in
      let one = some_or (next_line s events) _ is.0 in
      let two = some_or (first_call s events 0 (made s events)) _ one.1 in
      let three = some_or (first_giving s events 0 (made s events)) (next_make s events) two.1 in
      record { no_line = one.0; no_call = two.0; no_giving = three.0; no_make = three.1; none_out = waits (is_any_out s events) refl is.1 }
    where
      waits : (b : Bool) → is_any_out s events ≡ b → (if b then move.Wait else move.End) ≡ move.End → is_any_out s events ≡ false
      waits true e f = no (sym (ap is_wait f))
      waits false e f = e

  -- a wait is for what is out
  some_out : next_move s events ≡ move.Wait → is_any_out s events ≡ true
  some_out e = waits (is_any_out s events) refl (by_default moves _ move.Wait none_is_last e refl).1
    where
      waits : (b : Bool) → is_any_out s events ≡ b → (if b then move.Wait else move.End) ≡ move.Wait → is_any_out s events ≡ true
      waits true e f = e
      waits false e f = no (ap is_wait f)

  -- ---- what no task can do

  no_call_at : (n : ℕ) (works : List Work) → first_call s events n works ≡ None → (i m : ℕ) (w : Work) → m ≡ n + i → slice_get works i ≡ Some w → if_ready s events (ready s events m w) (call_of s events m) ≡ None
  no_call_at n [] e i m w l is = absurd (nothing is)
  no_call_at n (v ∷ works) e zero m w l is =
      let here = (some_or _ (first_call s events (n + 1) works) e).0 in
      let same : n ≡ m = omega arith in
      subst (λ (j : ℕ). if_ready s events (ready s events j w) (call_of s events j) ≡ None) same (subst (λ (x : Work). if_ready s events (ready s events n x) (call_of s events n) ≡ None) (same_value is) here)
  no_call_at n (v ∷ works) e (suc i) m w l is = no_call_at (n + 1) works (some_or _ (first_call s events (n + 1) works) e).1 i m w (omega arith) is

  no_giving_at : (n : ℕ) (works : List Work) → first_giving s events n works ≡ None → (i m : ℕ) (w : Work) → m ≡ n + i → slice_get works i ≡ Some w → if_ready s events (ready s events m w) (giving_of s events m w) ≡ None
  no_giving_at n [] e i m w l is = absurd (nothing is)
  no_giving_at n (v ∷ works) e zero m w l is =
      let here = (some_or _ (first_giving s events (n + 1) works) e).0 in
      let same : n ≡ m = omega arith in
      subst (λ (j : ℕ). if_ready s events (ready s events j w) (giving_of s events j w) ≡ None) same (subst (λ (x : Work). if_ready s events (ready s events n x) (giving_of s events n x) ≡ None) (same_value is) here)
  no_giving_at n (v ∷ works) e (suc i) m w l is = no_giving_at (n + 1) works (some_or _ (first_giving s events (n + 1) works) e).1 i m w (omega arith) is

  -- an act that is ready and cannot be made: a read without a part, or a Get without one
  abbrev IsHeldBack : ℕ → Work → Act → Type 0
  IsHeldBack n w (act.Read k) = has_free_part s events ≡ false
  IsHeldBack n w (act.Send op.Get k) = (has_part w (share w n events) k ≡ false) × (has_free_part s events ≡ false)
  IsHeldBack n w a = ⊥

  read_held : (free : Bool) (n k : ℕ) → (if free then Some (move.Read n k) else None) ≡ None → free ≡ false
  read_held true n k e = absurd (clash n k e)
    where
      clash : (n k : ℕ) → Some (move.Read n k) ≡ None → ⊥
      clash n k e = cc
  read_held false n k e = refl

  giving_held : (room lacks : Bool) (m : Move) → room ≡ true → (if room && not lacks then Some m else None) ≡ None → lacks ≡ true
  giving_held true true m r e = refl
  giving_held true false m r e = absurd (clash m e)
    where
      clash : (m : Move) → Some m ≡ None → ⊥
      clash m e = cc
  giving_held false lacks m r e = no r

  lacking : (has free : Bool) → (not has && not free) ≡ true → (has ≡ false) × (free ≡ false)
  lacking true free e = no e
  lacking false true e = no e
  lacking false false e = (refl, refl)

  some_call : (m : Move) → Some m ≡ None → ⊥
  some_call m e = cc

  held_send : (n : ℕ) (w : Work) (o : Op) (k : ℕ) → has_room s events ≡ true → giving_of s events n w (act.Send o k) ≡ None → IsHeldBack n w (act.Send o k)
  held_send n w op.Get k room e = lacking (has_part w (share w n events) k) (has_free_part s events) (giving_held (has_room s events) (lacks_part s events n w op.Get k) _ room e)
  held_send n w op.Head k room e = no (giving_held (has_room s events) false _ room e)
  held_send n w op.Put k room e = no (giving_held (has_room s events) false _ room e)
  held_send n w op.Copy k room e = no (giving_held (has_room s events) false _ room e)
  held_send n w op.Delete k room e = no (giving_held (has_room s events) false _ room e)
  held_send n w op.Create k room e = no (giving_held (has_room s events) false _ room e)
  held_send n w op.Part k room e = no (giving_held (has_room s events) false _ room e)
  held_send n w op.PartCopy k room e = no (giving_held (has_room s events) false _ room e)
  held_send n w op.Complete k room e = no (giving_held (has_room s events) false _ room e)
  held_send n w op.Abort k room e = no (giving_held (has_room s events) false _ room e)
  held_send n w op.List k room e = no (giving_held (has_room s events) false _ room e)
  held_send n w op.Buckets k room e = no (giving_held (has_room s events) false _ room e)

  held_back : (n : ℕ) (w : Work) (a : Act) → has_room s events ≡ true → call_of s events n a ≡ None → giving_of s events n w a ≡ None → IsHeldBack n w a
  held_back n w (act.Send o k) room c g = held_send n w o k room g
  held_back n w (act.Read k) room c g = read_held (has_free_part s events) n k c
  held_back n w act.Assemble room c g = some_call (move.Assemble n 0) c
  held_back n w (act.Place k) room c g = some_call (move.Place n k) c
  held_back n w act.Rename room c g = some_call (move.Rename n 0) c
  held_back n w act.DropTemp room c g = some_call (move.DropTemp n 0) c
  held_back n w act.Remove room c g = some_call (move.Remove n 0) c
  held_back n w act.Stamp room c g = some_call (move.Stamp n 0) c

-- ---- a run that ended

module _ (s : Shared) (events : Events) (means : HasMeans s) (run : IsRun s events) (end : IsOver s events) where
  -- no lane has a job
  sums_none : (lanes : ℕ) → out_before lanes events ≡ 0 → (lane : ℕ) → lane < lanes → out_in lane events ≡ 0
  sums_none zero e lane l = absurd (omega arith)
  sums_none (suc top) e lane l = by (lane == top) refl (λ below. sums_none top (omega arith) lane below)
    where
      by : (b : Bool) → (lane == top) ≡ b → (lane < top → out_in lane events ≡ 0) → out_in lane events ≡ 0
      by true same rest = let is = eqb-true lane top same in subst (λ (j : ℕ). out_in j events ≡ 0) (sym is) (omega arith)
      by false other rest = rest (below lane top other l)
        where
          below : (x y : ℕ) → (x == y) ≡ false → x < suc y → x < y
          below x y e l = grind arith

  clash : false ≡ true → ⊥
  clash x = cc

  total_none : out_before s.lanes events ≡ 0
  total_none = let none = not_less 0 (out_before s.lanes events) end.none_out in omega arith

  empty : (lane : ℕ) → jobs_in lane events ≡ []
  empty lane = by (nat_lt lane s.lanes) refl
    where
      no_length : {X : Type 0} (xs : List X) → length xs ≡ 0 → xs ≡ []
      no_length [] e = refl
      no_length (x ∷ xs) e = absurd (omega arith)

      by : (b : Bool) → nat_lt lane s.lanes ≡ b → jobs_in lane events ≡ []
      by true e = no_length (jobs_in lane events) (sums_none s.lanes total_none lane (ltb-true lane s.lanes e))
      by false e = none_beyond s means.lanes events run lane (not_less lane s.lanes e)

  room : has_room s events ≡ true
  room = let none : out_in (freest s.lanes events) events ≡ 0 = ap (λ (jobs : List JobId). length jobs) (empty (freest s.lanes events)) in
      let deep = means.depth in less_is (out_in (freest s.lanes events) events) s.depth (omega arith)

  in_no_lane : (job : JobId) → InLane events job → ⊥
  in_no_lane job h = subst (λ (jobs : List JobId). Has jobs job) (empty h.0) h.1

  -- so no act is out
  none_out : (n : ℕ) (w : Work) (a : Act) → is_out (stage w (share w n events) a) ≡ true → ⊥
  none_out n w (act.Send o k) e = in_no_lane (job_of n o k) (out_in_lane s n w o k events run e)
  none_out n w (act.Read k) e = clash (never_out s n w (act.Read k) refl events run e)
  none_out n w act.Assemble e = clash (never_out s n w act.Assemble refl events run e)
  none_out n w (act.Place k) e = clash (never_out s n w (act.Place k) refl events run e)
  none_out n w act.Rename e = clash (never_out s n w act.Rename refl events run e)
  none_out n w act.DropTemp e = clash (never_out s n w act.DropTemp refl events run e)
  none_out n w act.Remove e = clash (never_out s n w act.Remove refl events run e)
  none_out n w act.Stamp e = clash (never_out s n w act.Stamp refl events run e)

  not_true : (b : Bool) → (b ≡ true → ⊥) → not b ≡ true
  not_true true e = absurd (e refl)
  not_true false e = refl

  idle : (n : ℕ) (w : Work) → is_idle_in w (share w n events) ≡ true
  idle n w = all_from (λ of_act. not (is_out (stage w (share w n events) of_act))) (acts_of w) (λ a known. not_true _ (none_out n w a))

  -- ---- what is held back

  held : (n : ℕ) (w : Work) → slice_get (made s events) n ≡ Some w → (a : Act) → ready s events n w ≡ Some a → IsHeldBack s events n w a
  held n w is_made a e = held_back s events n w a room
      (subst (λ (x : Option Act). if_ready s events x (call_of s events n) ≡ None) e (no_call_at s events 0 (made s events) end.no_call n n w (omega arith) is_made))
      (subst (λ (x : Option Act). if_ready s events x (giving_of s events n w) ≡ None) e (no_giving_at s events 0 (made s events) end.no_giving n n w (omega arith) is_made))

  -- it holds back reads and Gets alone, whose rank is not 0
  rank_held : (n : ℕ) (w : Work) (a : Act) → IsHeldBack s events n w a → 1 ≤ rank w a
  rank_held n w (act.Read k) h = omega arith
  rank_held n w (act.Send op.Get k) h = omega arith
  rank_held n w (act.Send o k) h = absurd h
  rank_held n w act.Assemble h = absurd h
  rank_held n w (act.Place k) h = absurd h
  rank_held n w act.Rename h = absurd h
  rank_held n w act.DropTemp h = absurd h
  rank_held n w act.Remove h = absurd h
  rank_held n w act.Stamp h = absurd h

  no_part_free : (n : ℕ) (w : Work) (a : Act) → IsHeldBack s events n w a → has_free_part s events ≡ false
  no_part_free n w (act.Read k) h = h
  no_part_free n w (act.Send op.Get k) h = h.1
  no_part_free n w (act.Send o k) h = absurd h
  no_part_free n w act.Assemble h = absurd h
  no_part_free n w (act.Place k) h = absurd h
  no_part_free n w act.Rename h = absurd h
  no_part_free n w act.DropTemp h = absurd h
  no_part_free n w act.Remove h = absurd h
  no_part_free n w act.Stamp h = absurd h

  -- ---- a piece that holds a part can go on

  module _ (n : ℕ) (w : Work) (of_plan : slice_get s.works n ≡ Some w) (k : ℕ) (known : Has (numbers w) k) (holds : has_part w (share w n events) k ≡ true) where
    abbrev h : History
    h = share w n events

    abbrev f : Act → Stage
    f a = stage w h a

    abbrev piece_act : Act
    piece_act = act.Send (piece_op w.of_kind w.small) k

    -- an act of it was given, so the task was made, and memory did not run out for it
    waits_hold_none : (x : Kind) (stopped read placed : Bool) (how : Stage) → read ≡ false → is_waiting how ≡ true → holds_part x stopped read placed how ≡ true → false ≡ true
    waits_hold_none kind.Upload stopped true placed how r e p = sym r
    waits_hold_none kind.Upload true false placed at.Waiting r e p = p
    waits_hold_none kind.Upload false false placed at.Waiting r e p = p
    waits_hold_none kind.Download true read placed at.Waiting r e p = p
    waits_hold_none kind.Download false read placed at.Waiting r e p = p
    waits_hold_none kind.Copy stopped read placed how r e p = p
    waits_hold_none kind.RemoveObject stopped read placed how r e p = p
    waits_hold_none kind.RemoveFile stopped read placed how r e p = p
    waits_hold_none x stopped read placed how r e p = e

    waiting_not_done : (how : Stage) → is_waiting how ≡ true → has_done how ≡ false
    waiting_not_done at.Waiting e = refl
    waiting_not_done how e = no e

    given : ((a : Act) → is_waiting (f a) ≡ true) → ⊥
    given all = clash (waits_hold_none w.of_kind (is_stopped w h) (has_done (f (act.Read k))) (has_done (f (act.Place k))) (f piece_act) (waiting_not_done (f (act.Read k)) (all (act.Read k))) (all piece_act) holds)

    is_made : n < made_count events
    is_made = by (nat_lt n (made_count events)) refl
      where
        by : (b : Bool) → nat_lt n (made_count events) ≡ b → n < made_count events
        by true e = ltb-true n (made_count events) e
        by false e = absurd (given (λ a. waiting.unmade_waits s n w of_plan a events run (not_less n (made_count events) e)))

    remembered : lacks_memory n events ≡ false
    remembered = by (lacks_memory n events) refl
      where
        by : (b : Bool) → lacks_memory n events ≡ b → lacks_memory n events ≡ false
        by true e = absurd (given (λ a. waiting.memory_waits s n w of_plan a events run e))
        by false e = e

    made_at : slice_get (made s events) n ≡ Some w
    made_at = taken_at (made_count events) s.works n w of_plan is_made

    -- an act that is ready, of the least rank of all that are
    record FirstReady (limit : ℕ) : Type 0 where
      pub first : Act
      pub found : first_ready_in w h ≡ Some first
      pub low : rank w first ≤ limit

    first_of : (a : Act) → Has (acts_of w) a → is_ready_in w h a ≡ true → FirstReady (rank w a)
    first_of a there ready_a = elim (found_or_not (first_ready_in w h)) [
      | inl none ↦ no (sym (tasks.none_found (is_ready_in w h) (acts_of w) none a there) ∙ ready_a)
      | inr some ↦ record { first = some.0; found = some.1; low = found_least (rank w) (is_ready_in w h) (acts_of w) some.0 a (acts_sorted w) some.1 there ready_a }
    ]

    ready_is : (a : Act) → first_ready_in w h ≡ Some a → ready s events n w ≡ Some a
    ready_is a e = skipped (lacks_memory n events) None (first_ready_in w h) remembered ∙ e

    -- nothing of rank 0 is ready
    none_low : (a : Act) → Has (acts_of w) a → is_ready_in w h a ≡ true → rank w a ≡ 0 → ⊥
    none_low a there ready_a zero_rank =
        let is = first_of a there ready_a in
        let above = rank_held n w is.first (held n w made_at is.first (ready_is is.first is.found)) in
        let low = is.low in
        absurd (omega arith)

    piece_there : Has (acts_of w) piece_act
    piece_there = has-append_left ((file_acts w ++ single_sends) ++ piece_sends w) (reads w) piece_act
        (has-append_right (file_acts w ++ single_sends) (piece_sends w) piece_act (has-map (λ (j : ℕ). act.Send (piece_op w.of_kind w.small) j) (numbers w) k known))

    place_there : Has (acts_of w) (act.Place k)
    place_there = has-append_left ((file_acts w ++ single_sends) ++ piece_sends w) (reads w) (act.Place k)
        (has-append_left (file_acts w ++ single_sends) (piece_sends w) (act.Place k)
        (has-append_left (file_acts w) single_sends (act.Place k) (inr (inr (inr (inr (inr (has-map (λ (j : ℕ). act.Place j) (numbers w) k known))))))))

    assemble_there : Has (acts_of w) act.Assemble
    assemble_there = has-append_left ((file_acts w ++ single_sends) ++ piece_sends w) (reads w) act.Assemble
        (has-append_left (file_acts w ++ single_sends) (piece_sends w) act.Assemble (has-append_left (file_acts w) single_sends act.Assemble (inl refl)))

    is_of_task : is_piece w k ≡ true
    is_of_task =
        let range = in_range (first_number w) w.count k known in
        both (nat_lt k (first_number w + w.count)) (nat_lt (first_number w) (k + 1)) (less_is k (first_number w + w.count) range.1) (less_is (first_number w) (k + 1) (omega arith))

    -- ---- an upload

    upload_held : (stopped read placed : Bool) (how : Stage) → holds_part kind.Upload stopped read placed how ≡ true → (is_out how ≡ true → ⊥) → (stopped ≡ false) × (read ≡ true) × (may_be_given how ≡ true)
    upload_held stopped read placed at.Out e out = absurd (out refl)
    upload_held stopped read placed at.Again e out = absurd (out refl)
    upload_held true read placed at.Waiting e out = no e
    upload_held true read placed at.Kept e out = no e
    upload_held true read placed at.Fine e out = no e
    upload_held true read placed at.Failed e out = no e
    upload_held false true placed at.Waiting e out = (refl, refl, refl)
    upload_held false true placed at.Kept e out = (refl, refl, refl)
    upload_held false true placed at.Fine e out = no e
    upload_held false true placed at.Failed e out = no e
    upload_held false false placed at.Waiting e out = no e
    upload_held false false placed at.Kept e out = no e
    upload_held false false placed at.Fine e out = no e
    upload_held false false placed at.Failed e out = no e

    upload_due : (small : Bool) → w.small ≡ small → has_done (f (act.Read k)) ≡ true → is_due w (stage w h) false kind.Upload (act.Send (piece_op kind.Upload small) k) ≡ true
    upload_due true is read = all_three w.small (is_piece w k) _ is is_of_task read
    upload_due false is read = all_three (not w.small) (is_piece w k) _ (opposite w.small is) is_of_task read

    upload_rank : (small : Bool) → rank w (act.Send (piece_op kind.Upload small) k) ≡ 0
    upload_rank true = refl
    upload_rank false = refl

    upload_goes_on : w.of_kind ≡ kind.Upload → ⊥
    upload_goes_on up =
        let as_upload = subst (λ (x : Kind). holds_part x (is_stopped w h) (has_done (f (act.Read k))) (has_done (f (act.Place k))) (f piece_act) ≡ true) up holds in
        let is = upload_held (is_stopped w h) (has_done (f (act.Read k))) (has_done (f (act.Place k))) (f piece_act) as_upload (none_out n w piece_act) in
        let op_is : piece_op w.of_kind w.small ≡ piece_op kind.Upload w.small = ap (λ (x : Kind). piece_op x w.small) up in
        let due = upload_due w.small refl is.1 in
        let due_here : is_due w (stage w h) false w.of_kind piece_act ≡ true =
        subst (λ (o : Op). is_due w (stage w h) false w.of_kind (act.Send o k) ≡ true) (sym op_is) (subst (λ (x : Kind). is_due w (stage w h) false x (act.Send (piece_op kind.Upload w.small) k) ≡ true) (sym up) due) in
        let named : is_named w (stage w h) (is_stopped w h) piece_act ≡ true = subst (λ (b : Bool). is_named w (stage w h) b piece_act ≡ true) (sym is.0) due_here in
        none_low piece_act piece_there (both (may_be_given (f piece_act)) (is_named w (stage w h) (is_stopped w h) piece_act) is.2 named)
        (subst (λ (o : Op). rank w (act.Send o k) ≡ 0) (sym op_is) (upload_rank w.small))

    -- ---- a download

    module _ (down : w.of_kind ≡ kind.Download) where
      abbrev this : Act
      this = act.Send op.Get k

      is_this : piece_act ≡ this
      is_this = ap (λ (x : Kind). act.Send (piece_op x w.small) k) down

      this_there : Has (acts_of w) this
      this_there = subst (λ (a : Act). Has (acts_of w) a) is_this piece_there

      due_download : (a : Act) → is_due w (stage w h) false kind.Download a ≡ true → is_due w (stage w h) false w.of_kind a ≡ true
      due_download a e = subst (λ (x : Kind). is_due w (stage w h) false x a ≡ true) (sym down) e

      module _ (going : is_stopped w h ≡ false) where
        ready_by : (a : Act) → may_be_given (f a) ≡ true → is_named w (stage w h) false a ≡ true → is_ready_in w h a ≡ true
        ready_by a may named = both (may_be_given (f a)) (is_named w (stage w h) (is_stopped w h) a) may (subst (λ (b : Bool). is_named w (stage w h) b a ≡ true) (sym going) named)

        -- an act that is named, and was not given, waits or failed; and nothing failed
        done_or_ready : (a : Act) → IsCounted a → (how : Stage) → f a ≡ how → (has_done how ≡ true) ⊎ (may_be_given how ≡ true)
        done_or_ready a counted at.Waiting e = inr refl
        done_or_ready a counted at.Kept e = inr refl
        done_or_ready a counted at.Fine e = inl refl
        done_or_ready a counted at.Out e = absurd (none_out n w a (ap is_out e))
        done_or_ready a counted at.Again e = absurd (none_out n w a (ap is_out e))
        done_or_ready a counted at.Failed e = no (sym going ∙ failed_stops w h a counted (ap has_failed e))

        assembled : has_done (f act.Assemble) ≡ true
        assembled = elim (done_or_ready act.Assemble tt (f act.Assemble) refl) [
          | inl done ↦ done
          | inr may ↦ absurd (none_low act.Assemble assemble_there (ready_by act.Assemble may (due_download act.Assemble refl)) refl)
        ]

        -- what came is placed
        placed_goes_on : has_done (f this) ≡ true → has_done (f (act.Place k)) ≡ false → ⊥
        placed_goes_on got not_placed = elim (done_or_ready (act.Place k) tt (f (act.Place k)) refl) [
          | inl done ↦ clash (sym not_placed ∙ done)
          | inr may ↦ none_low (act.Place k) place_there (ready_by (act.Place k) may (due_download (act.Place k) (both (is_piece w k) (has_done (f this)) is_of_task got))) refl
        ]

        kept_is : (how : Stage) → is_kept how ≡ true → (may_be_given how ≡ true) × (is_waiting how ≡ false)
        kept_is at.Kept e = (refl, refl)
        kept_is how e = no e

        waits_or_holds : (how : Stage) → may_be_given how ≡ true → (is_waiting how ≡ true) ⊎ (is_kept how ≡ true)
        waits_or_holds at.Waiting e = inl refl
        waits_or_holds at.Kept e = inr refl
        waits_or_holds how e = no e

        -- a kept Get of a piece holds its part
        kept_holds : (j : ℕ) → is_kept (f (act.Send op.Get j)) ≡ true → has_part w h j ≡ true
        kept_holds j e = subst (λ (x : Kind). holds_part x (is_stopped w h) (has_done (f (act.Read j))) (has_done (f (act.Place j))) (f (act.Send (piece_op x w.small) j)) ≡ true) (sym down)
            (subst (λ (b : Bool). (is_out (f (act.Send op.Get j)) || (not b && (is_kept (f (act.Send op.Get j)) || (has_done (f (act.Send op.Get j)) && not (has_done (f (act.Place j))))))) ≡ true) (sym going)
            (by (f (act.Send op.Get j)) e))
          where
            by : (how : Stage) → is_kept how ≡ true → (is_out how || (is_kept how || (has_done how && not (has_done (f (act.Place j)))))) ≡ true
            by at.Kept e = refl
            by how e = no e

        -- a job that is kept is given again
        kept_goes_on : is_kept (f this) ≡ true → ⊥
        kept_goes_on kept = by is.first (held n w made_at is.first (ready_is is.first is.found)) is.low
            (tasks_ready is.first is.found)
          where
            ready_this : is_ready_in w h this ≡ true
            ready_this = ready_by this (kept_is (f this) kept).0 (due_download this (both (is_piece w k) (has_done (f act.Assemble)) is_of_task assembled))

            is : FirstReady (rank w this)
            is = first_of this this_there ready_this

            tasks_ready : (a : Act) → first_ready_in w h ≡ Some a → is_ready_in w h a ≡ true
            tasks_ready a e = find_passes (is_ready_in w h) (acts_of w) a e

            low_read : k < first_number w + w.count
            low_read = (in_range (first_number w) w.count k known).1

            lower_get : (j : ℕ) → has_part w h j ≡ false → suc j ≤ suc k → is_ready_in w h (act.Send op.Get j) ≡ true → ⊥
            lower_get j lacks low ready_j = at (j == k) refl
              where
                two : (may_be_given (f (act.Send op.Get j)) ≡ true) × (is_named w (stage w h) (is_stopped w h) (act.Send op.Get j) ≡ true)
                two = and_parts (may_be_given (f (act.Send op.Get j))) (is_named w (stage w h) (is_stopped w h) (act.Send op.Get j)) ready_j

                named : is_due w (stage w h) false kind.Download (act.Send op.Get j) ≡ true
                named = subst (λ (x : Kind). is_due w (stage w h) false x (act.Send op.Get j) ≡ true) down (subst (λ (b : Bool). is_named w (stage w h) b (act.Send op.Get j) ≡ true) going two.1)

                piece : is_piece w j ≡ true
                piece = (and_parts (is_piece w j) (has_done (f act.Assemble)) named).0

                at : (b : Bool) → (j == k) ≡ b → ⊥
                at true same = clash (sym lacks ∙ ap (λ (i : ℕ). has_part w h i) (eqb-true j k same) ∙ holds)
                at false other = elim (waits_or_holds (f (act.Send op.Get j)) two.0) [
                  | inr also_kept ↦ clash (sym lacks ∙ kept_holds j also_kept)
                  | inl waits ↦
                      let below : j < k = strictly j k other low in
                      clash (sym (kept_is (f this) kept).1 ∙ waiting.in_order s n w of_plan down events run j k (in_numbers j piece) piece below waits)
                ]
                  where
                    strictly : (x y : ℕ) → (x == y) ≡ false → suc x ≤ suc y → x < y
                    strictly x y e l = grind arith

                    in_numbers : (i : ℕ) → is_piece w i ≡ true → Has (numbers w) i
                    in_numbers i e =
                        let both_ends = and_parts (nat_lt i (first_number w + w.count)) (nat_lt (first_number w) (i + 1)) e in
                        let high = ltb-true i (first_number w + w.count) both_ends.0 in
                        let least = ltb-true (first_number w) (i + 1) both_ends.1 in
                        numbered (first_number w) w.count i (omega arith) high

            by : (a : Act) → IsHeldBack s events n w a → rank w a ≤ rank w this → is_ready_in w h a ≡ true → ⊥
            by (act.Read j) lacks low ready_a = let top = low_read in absurd (omega arith)
            by (act.Send op.Get j) lacks low ready_a = lower_get j lacks.0 low ready_a
            by (act.Send o j) lacks low ready_a = absurd lacks
            by act.Assemble lacks low ready_a = absurd lacks
            by (act.Place j) lacks low ready_a = absurd lacks
            by act.Rename lacks low ready_a = absurd lacks
            by act.DropTemp lacks low ready_a = absurd lacks
            by act.Remove lacks low ready_a = absurd lacks
            by act.Stamp lacks low ready_a = absurd lacks

      download_held : (stopped read placed : Bool) (how : Stage) → holds_part kind.Download stopped read placed how ≡ true → (is_out how ≡ true → ⊥)
          → (stopped ≡ false) × ((is_kept how ≡ true) ⊎ ((has_done how ≡ true) × (placed ≡ false)))
      download_held stopped read placed at.Out e out = absurd (out refl)
      download_held stopped read placed at.Again e out = absurd (out refl)
      download_held true read placed at.Waiting e out = no e
      download_held true read placed at.Kept e out = no e
      download_held true read placed at.Fine e out = no e
      download_held true read placed at.Failed e out = no e
      download_held false read placed at.Waiting e out = no e
      download_held false read placed at.Kept e out = (refl, inl refl)
      download_held false read true at.Fine e out = no e
      download_held false read false at.Fine e out = (refl, inr (refl, refl))
      download_held false read placed at.Failed e out = no e

      download_goes_on : ⊥
      download_goes_on =
          let as_download = subst (λ (x : Kind). holds_part x (is_stopped w h) (has_done (f (act.Read k))) (has_done (f (act.Place k))) (f (act.Send (piece_op x w.small) k)) ≡ true) down holds in
          let is = download_held (is_stopped w h) (has_done (f (act.Read k))) (has_done (f (act.Place k))) (f this) as_download (none_out n w this) in
          elim is.1 [
            | inl kept ↦ kept_goes_on is.0 kept
            | inr got ↦ placed_goes_on is.0 got.0 got.1
          ]

    -- so no piece holds a part
    holds_none : (x : Kind) → w.of_kind ≡ x → ⊥
    holds_none kind.Upload is = upload_goes_on is
    holds_none kind.Download is = download_goes_on is
    holds_none kind.Copy is = clash (subst (λ (x : Kind). holds_part x (is_stopped w h) (has_done (f (act.Read k))) (has_done (f (act.Place k))) (f piece_act) ≡ true) is holds)
    holds_none kind.RemoveObject is = clash (subst (λ (x : Kind). holds_part x (is_stopped w h) (has_done (f (act.Read k))) (has_done (f (act.Place k))) (f piece_act) ≡ true) is holds)
    holds_none kind.RemoveFile is = clash (subst (λ (x : Kind). holds_part x (is_stopped w h) (has_done (f (act.Read k))) (has_done (f (act.Place k))) (f piece_act) ≡ true) is holds)

  -- and there is a free one
  part_is_free : has_free_part s events ≡ false → ⊥
  part_is_free none =
      let full = not_less (lent s.works events) s.buffers none in
      let enough = means.buffers in
      let found = one_counts (λ n w. parts_of w (share w n events)) 0 s.works (omega arith) in
      let piece = one_passes (λ k. has_part found.1 (share found.1 (0 + found.0) events) k) (numbers found.1) found.3 in
      let of_plan : slice_get s.works (0 + found.0) ≡ Some found.1 = subst (λ (i : ℕ). slice_get s.works i ≡ Some found.1) (omega arith) found.2 in
      holds_none (0 + found.0) found.1 of_plan piece.0 piece.1 piece.2 found.1.of_kind refl

  -- ---- each made task has ended

  module _ (n : ℕ) (w : Work) (is_made : slice_get (made s events) n ≡ Some w) where
    of_plan_here : slice_get s.works n ≡ Some w
    of_plan_here = in_front (made_count events) s.works n w is_made

    within : n < made_count events
    within = waiting.within_take (made_count events) s.works n w is_made

    none_ready : lacks_memory n events ≡ false → first_ready_in w (share w n events) ≡ None
    none_ready remembers = elim (found_or_not (first_ready_in w (share w n events))) [
      | inl none ↦ none
      | inr some ↦
          let is_ready : ready s events n w ≡ Some some.0 = skipped (lacks_memory n events) None (first_ready_in w (share w n events)) remembers ∙ some.1 in
          absurd (part_is_free (no_part_free n w some.0 (held n w is_made some.0 is_ready)))
    ]

    has_ended : is_some (outcome_in w n events) ≡ true
    has_ended = by (lacks_memory n events) refl
      where
        made_so : (b : Bool) → nat_lt n (made_count events) ≡ b → b ≡ true
        made_so true e = refl
        made_so false e = let above = not_less n (made_count events) e in let below = within in absurd (omega arith)

        ends : (m l : Bool) (x y : Option Outcome) → m ≡ true → ((l ≡ true) × (is_some x ≡ true)) ⊎ ((l ≡ false) × (is_some y ≡ true)) → is_some (if m then (if l then x else y) else None) ≡ true
        ends true true x y e (inl h) = h.1
        ends true false x y e (inl h) = no h.0
        ends true true x y e (inr h) = no (sym h.0)
        ends true false x y e (inr h) = h.1
        ends false l x y e h = no e

        by : (b : Bool) → lacks_memory n events ≡ b → is_some (outcome_in w n events) ≡ true
        by true e = ends (nat_lt n (made_count events)) (lacks_memory n events) _ _ (made_so (nat_lt n (made_count events)) refl) (inl (e, refl))
        by false e = ends (nat_lt n (made_count events)) (lacks_memory n events) _ _ (made_so (nat_lt n (made_count events)) refl)
            (inr (e, tasks.tasks_end w (share w n events) (means.pieces n w of_plan_here) (shares_are_histories s events n w of_plan_here run) (none_ready e) (idle n w)))

  -- ---- so all are made, and all lines were due

  none_unfinished : (n : ℕ) (works : List Work) → ((i m : ℕ) (w : Work) → m ≡ n + i → slice_get works i ≡ Some w → slice_get (made s events) m ≡ Some w) → unfinished_from s events n works ≡ 0
  none_unfinished n [] all = refl
  none_unfinished n (w ∷ works) all =
      let here = has_ended n w (all 0 n w (omega arith) refl) in
      let rest = none_unfinished (n + 1) works (λ i m v e is. all (suc i) m v (omega arith) is) in
      let none : ◌≡◌ {A = ℕ} (if is_some (outcome_in w n events) then 0 else 1) 0 = ap (λ (b : Bool). if b then 0 else 1) here in
      omega arith

  unfinished_none : unfinished_from s events 0 (made s events) ≡ 0
  unfinished_none = none_unfinished 0 (made s events) (λ i m w e is. subst (λ (j : ℕ). slice_get (made s events) j ≡ Some w) (omega arith) is)

  all_made : length s.works ≤ made_count events
  all_made = by (nat_lt (made_count events) (length s.works)) refl
    where
      more : (fits : Bool) (m : Move) → (if true && fits then Some m else None) ≡ None → fits ≡ true → ⊥
      more true m e f = some_call s events m e
      more false m e f = clash f

      by : (b : Bool) → nat_lt (made_count events) (length s.works) ≡ b → length s.works ≤ made_count events
      by false e = not_less (made_count events) (length s.works) e
      by true e =
          let some = means.queue in
          let none = unfinished_none in
          let fits : nat_lt (unfinished_from s events 0 (made s events)) s.queue ≡ true = less_is (unfinished_from s events 0 (made s events)) s.queue (omega arith) in
          absurd (more (nat_lt (unfinished_from s events 0 (made s events)) s.queue) (move.Make (made_count events))
          (subst (λ (b : Bool). (if b && nat_lt (unfinished_from s events 0 (made s events)) s.queue then Some (move.Make (made_count events)) else None) ≡ None) e end.no_make) fits)

module _ (s : Shared) (events : Events) (means : HasMeans s) (run : IsRun s events) (e : next_move s events ≡ move.End) where
  end : IsOver s events
  end = over s events e

  all_lined : made_count events ≤ lined_count events
  all_lined = by (slice_get (made s events) (lined_count events)) refl
    where
      due : (b : Bool) → (if b then Some (move.Line (lined_count events)) else None) ≡ None → b ≡ true → ⊥
      due true f g = some_call s events (move.Line (lined_count events)) f
      due false f g = apart g
        where
          apart : false ≡ true → ⊥
          apart x = cc

      by : (x : Option Work) → slice_get (made s events) (lined_count events) ≡ x → made_count events ≤ lined_count events
      by None is = none_taken (made_count events) s.works (lined_count events) is (few_made s events run)
      by (Some w) is = absurd (due (is_some (outcome_in w (lined_count events) events)) (subst (λ (x : Option Work). line_for s events x ≡ None) is end.no_line)
          (has_ended s events means run end (lined_count events) w is))

  whole : (made_count events ≡ length s.works) × (lined_count events ≡ length s.works)
  whole =
      let made_few = few_made s events run in
      let made_all = all_made s events means run end in
      let lined_few = few_lined s events run in
      let lined_all = all_lined in
      (omega arith, omega arith)

pub runs_end_whole : RunsEndWhole
runs_end_whole s events means run e = whole s events means run e

-- ---- each task has its outcome

pub tasks_have_ended : TasksHaveEnded
tasks_have_ended s events n w means run e of_plan =
    has_ended s events means run (over s events e) n w (taken_at (made_count events) s.works n w of_plan (within (whole s events means run e).0 (slice_get_within s.works n w of_plan)))
  where
    within : made_count events ≡ length s.works → n < length s.works → n < made_count events
    within made below = omega arith

-- ---- a wait

one_out : (events : Events) (lanes : ℕ) → 1 ≤ out_before lanes events → (lane : ℕ) × (lane < lanes) × (1 ≤ out_in lane events)
one_out events zero some = absurd (omega arith)
one_out events (suc lane) some = by (nat_lt 0 (out_in lane events)) refl (λ l. one_out events lane l)
  where
    by : (b : Bool) → nat_lt 0 (out_in lane events) ≡ b → (1 ≤ out_before lane events → (other : ℕ) × (other < lane) × (1 ≤ out_in other events)) → (other : ℕ) × (other < suc lane) × (1 ≤ out_in other events)
    by true e rest = let here = ltb-true 0 (out_in lane events) e in (lane, omega arith, here)
    by false e rest = let none = not_less 0 (out_in lane events) e in let found = rest (omega arith) in let low = found.1 in (found.0, omega arith, found.2)

pub waits_are_for_jobs : WaitsAreForJobs
waits_are_for_jobs s events e = one_out events s.lanes (ltb-true 0 (out_before s.lanes events) (some_out s events e))
