-- The next move by what a run keeps is that of the rule.
use Rattle.std.proofs.Common.{◌≡◌, ◌∙◌, ◌<◌, ◌&&◌, ℕ, zero, suc, Bool, true, false, List, [], ◌∷◌, Option, Some, None}
use Rattle.std.proofs.Common.{refl, sym, subst, ap, arith, get_or, is_some, length, nat_lt, not, slice_get}
use Rattle.std.proofs.Common.{if◌then◌else◌}
use Rattle.std.specs.Prelude.{take, unwrap_or}
use Rattle.std.specs.List.{position}
use Rattle.std.specs.Option.{option_or}
use Rattle.std.proofs.lemmas.Bool.{le-ltb, ltb-false}
use Rattle.std.proofs.lemmas.List.Quantifiers.{position-Some}
use Rattle.s3_model.specs.declared.outcomes.JobId.{JobId}
use Rattle.s3_model.specs.declared.outcomes.Cause.TheVariants as cause
use Rattle.s3_model.specs.declared.outcomes.Outcome.{Outcome}
use Rattle.s3_model.specs.declared.outcomes.Outcome.TheVariants as outcome
use Rattle.act_queues.specs.Sorts.{may_call, may_give}
use Rattle.act_queues.specs.declared.act_queues.ActSort.{ActSort}
use Rattle.act_queues.specs.declared.act_queues.ActSort.TheVariants as sort
use Rattle.held_parts.specs.Held.{AreSingle}
use Rattle.lane_queues.specs.Lanes.{IsFreest}
use Rattle.lane_queues.specs.Lanes as kept
use Rattle.manager_moves.proofs.CountLemmas.{no}
use Rattle.manager_moves.proofs.MoveLaws.{in_front}
use Rattle.manager_moves.proofs.PartLaws.{nothing, ready_act}
use Rattle.manager_moves.specs.Lanes.{freest, out_before, out_in}
use Rattle.manager_moves.specs.Moves.{call_of, first_call, first_giving, giving_of, has_free_part, has_room, if_ready}
use Rattle.manager_moves.specs.Moves.{lacks_part, line_for, made, next_line, next_make, next_move, ready}
use Rattle.manager_moves.specs.Moves.{unfinished_from}
use Rattle.manager_moves.specs.Parts.{has_part, lent}
use Rattle.manager_moves.specs.Runs.{Events, Shared, lacks_memory, lined_count, made_count, share}
use Rattle.manager_moves.specs.declared.moves.Move.{Move}
use Rattle.manager_moves.specs.declared.moves.Move.TheVariants as move
use Rattle.manager_parts.proofs.Counting.{tables_count}
use Rattle.queue_laws.proofs.ActLaws.{calls_are_first, givings_are_first}
use Rattle.queue_laws.proofs.LaneLaws.{freest_is_freest, out_is_out}
use Rattle.queue_laws.specs.ReadyActs.{at_place, at_task, sort_at, sort_if, sort_of}
use Rattle.s3_model.specs.declared.requests.Op.{Op}
use Rattle.s3_model.specs.declared.requests.Op.TheVariants as op
use Rattle.task_acts.specs.declared.acts.Act.{Act}
use Rattle.task_acts.specs.declared.acts.Act.TheVariants as act
use Rattle.task_acts.specs.declared.work.Work.{Work}
use Rattle.task_acts.specs.Ends.{outcome_of}
use Rattle.task_acts.specs.Histories.{History}
use Rattle.task_acts.specs.Rule.{first_ready_in}
use Rattle.task_core.proofs.Standing as standing
use Rattle.task_core.specs.Machine.{SeenTask}
use Rattle.alike_histories.proofs.Alike.{alike_says_the_same}
use Rattle.move_laws.specs.Follows.{Follows, HoldsTask, outcome_at}
use Rattle.move_laws.specs.Kept.{SeenMoves, act_at, act_in, call_by, call_move, giving_by, giving_move, has_free}
use Rattle.move_laws.specs.Kept.{has_outcome}
use Rattle.move_laws.specs.Kept.{line_by, make_by, move_at, move_if, rest_by}

-- ---- a list and its front

behind : {X : Type 0} (k : ℕ) (xs : List X) (n : ℕ) (x : X) → slice_get (take k xs) n ≡ None → slice_get xs n ≡ Some x
    → nat_lt n k ≡ false
behind zero xs n x e there = le-ltb n 0 (omega arith)
behind (suc k) [] n x e there = absurd (nothing there)
behind (suc k) (y ∷ ys) zero x e there = absurd (nothing (sym e))
behind (suc k) (y ∷ ys) (suc n) x e there =
    let below = ltb-false n k (behind k ys n x e there) in le-ltb (suc n) (suc k) (omega arith)

chosen : {X : Type 0} (b : Bool) (x : X) → b ≡ true → (if b then Some x else None) ≡ Some x
chosen true x e = refl
chosen false x e = no e

-- ---- what a job needs

room_alone : (room : Bool) → room ≡ true → (room && true) ≡ true
room_alone true e = refl
room_alone false e = no e

get_goes : (room had free : Bool) → may_give room free (Some (if had then sort.Job else sort.Get)) ≡ true
    → (room && not (not had && not free)) ≡ true
get_goes true true free e = refl
get_goes true false true e = refl
get_goes true false false e = no e
get_goes false true free e = no e
get_goes false false free e = no e

no_memory : (b : Bool) (x : Option Act) (a : Act) → (if b then None else x) ≡ Some a → b ≡ false
no_memory true x a e = absurd (nothing e)
no_memory false x a e = refl

module _ (s : Shared) (events : Events) (m : SeenMoves) (follows : Follows s events m) where
  -- ---- lines

  line_at : (w : Option Work) → slice_get (made s events) (lined_count events) ≡ w
      → (if has_outcome m (lined_count events) then Some (move.Line (lined_count events)) else None)
      ≡ line_for s events w
  line_at (Some w) e =
      ap (λ (o : Option Outcome). if is_some o then Some (move.Line (lined_count events)) else None)
      (follows.outcomes (lined_count events)
      ∙ ap (λ (o : Option Work). outcome_at (lined_count events) o events)
      (in_front (made_count events) s.works (lined_count events) w e))
  line_at None e =
      ap (λ (o : Option Outcome). if is_some o then Some (move.Line (lined_count events)) else None)
      (follows.outcomes (lined_count events) ∙ none (slice_get s.works (lined_count events)) refl)
    where
      none : (w : Option Work) → slice_get s.works (lined_count events) ≡ w
          → outcome_at (lined_count events) w events ≡ None
      none None there = refl
      none (Some w) there =
          ap (λ (b : Bool). if b then (if lacks_memory (lined_count events) events
          then Some (outcome.Failed cause.Memory) else outcome_of w (share w (lined_count events) events)) else None)
          (behind (made_count events) s.works (lined_count events) w e there)

  line_is : line_by m ≡ next_line s events
  line_is =
      ap (λ (n : ℕ). if has_outcome m n then Some (move.Line n) else None) follows.lined
      ∙ line_at (slice_get (made s events) (lined_count events)) refl

  -- ---- the rule, by its candidates

  abbrev rest : Move
  rest = if nat_lt 0 (out_before s.lanes events) then move.Wait else move.End

  abbrev first_of : (line call giving making : Option Move) → Move → Move
  first_of line call giving making resting =
      unwrap_or (option_or line (option_or call (option_or giving making))) resting

  by_rule : (line call giving making : Option Move) (resting : Move) → line ≡ next_line s events
      → call ≡ first_call s events 0 (made s events) → giving ≡ first_giving s events 0 (made s events)
      → making ≡ next_make s events → resting ≡ rest → first_of line call giving making resting ≡ next_move s events
  by_rule line call giving making resting a b c d e =
      ap (λ (x : Option Move). first_of x call giving making resting) a
      ∙ ap (λ (x : Option Move). first_of (next_line s events) x giving making resting) b
      ∙ ap (λ (x : Option Move). first_of (next_line s events) (first_call s events 0 (made s events))
      x making resting) c
      ∙ ap (λ (x : Option Move). first_of (next_line s events) (first_call s events 0 (made s events))
      (first_giving s events 0 (made s events)) x resting) d
      ∙ ap (λ (x : Move). first_of (next_line s events) (first_call s events 0 (made s events))
      (first_giving s events 0 (made s events)) (next_make s events) x) e

  pub by_line : (x : Move) → Some x ≡ line_by m → x ≡ next_move s events
  by_line x due =
      by_rule (Some x) (first_call s events 0 (made s events)) (first_giving s events 0 (made s events))
      (next_make s events) rest (due ∙ line_is) refl refl refl refl

  -- ---- the act of a task

  act_of : (room : ℕ) (w : Work) (h : History) (o : Option SeenTask) (a : Act) → HoldsTask room w h o
      → first_ready_in w h ≡ Some a
      → act_in o ≡ Some a
  act_of room w h None a holds e = absurd (nothing (sym holds.waits ∙ e))
  act_of room w h (Some t) a holds e =
      standing.ready w holds.0.heard t holds.0.stands
      ∙ (alike_says_the_same w holds.0.heard h holds.0.alike.told_are).ready ∙ e

  act_is : (n : ℕ) (w : Work) (a : Act) → slice_get (made s events) n ≡ Some w → ready s events n w ≡ Some a
      → act_at m n ≡ Some a
  act_is n w a there e =
      act_of m.parts.pool.room w (share w n events) (get_or m.slots n None) a
      (follows.tasks n w there (no_memory (lacks_memory n events) (first_ready_in w (share w n events)) a e))
      (ready_act (lacks_memory n events) (first_ready_in w (share w n events)) a e)

  -- ---- the least task that can move

  module _ (f : Option ActSort → Bool) (none : f None ≡ false) (of_act : ℕ → Act → Option Move)
      (turn : ℕ → Work → Act → Option Move)
      (agree : (n : ℕ) (w : Work) (a : Act) → f (Some (sort_of w (share w n events) a)) ≡ true
      → of_act n a ≡ turn n w a) where
    abbrev turn_of : ℕ → Work → Option Move
    turn_of n w = if_ready s events (ready s events n w) (turn n w)

    made_at : (n : ℕ) (w : Work) (a : Option Act) → slice_get (made s events) n ≡ Some w → ready s events n w ≡ a
        → f (sort_if w (share w n events) a) ≡ true
        → move_if (of_act n) (act_at m n) ≡ if_ready s events a (turn n w)
    made_at n w None there e passes = no (sym none ∙ passes)
    made_at n w (Some a) there e passes =
        ap (λ (x : Option Act). move_if (of_act n) x) (act_is n w a there e) ∙ agree n w a passes

    task_at : (n : ℕ) (w : Option Work) → slice_get (made s events) n ≡ w → f (sort_at s events n w) ≡ true
        → move_if (of_act n) (act_at m n) ≡ at_task s events turn_of n w
    task_at n None there passes = no (sym none ∙ passes)
    task_at n (Some w) there passes = made_at n w (ready s events n w) there refl passes

    placed : (place : Option ℕ) → position f m.acts ≡ place → move_at m of_act place ≡ at_place s events turn_of place
    placed None e = refl
    placed (Some n) e =
        let passes : f (get_or m.acts n None) ≡ true = (position-Some f m.acts n None e).1 in
        task_at n (slice_get (made s events) n) refl (ap f (sym (follows.acts n)) ∙ passes)

  -- ---- calls on files

  module _ (single : AreSingle m.parts.slots) where
    free_is : has_free m ≡ has_free_part s events
    free_is =
        ap (λ (n : ℕ). nat_lt n m.parts.pool.count)
        (sym (tables_count s.works events m.parts.slots single (λ t n. follows.parts.held t n refl)))
        ∙ ap (λ (n : ℕ). nat_lt (lent s.works events) n) follows.buffers

    read_is : (free : Bool) (n number : ℕ) → free ≡ true
        → Some (move.Read n number) ≡ (if free then Some (move.Read n number) else None)
    read_is true n number e = refl
    read_is false n number e = no e

    calls_agree : (n : ℕ) (w : Work) (a : Act)
        → may_call (has_free_part s events) (Some (sort_of w (share w n events) a)) ≡ true
        → call_move n a ≡ call_of s events n a
    calls_agree n w (act.Send o k) e = refl
    calls_agree n w (act.Read k) e = read_is (has_free_part s events) n k e
    calls_agree n w act.Assemble e = refl
    calls_agree n w (act.Place k) e = refl
    calls_agree n w act.Rename e = refl
    calls_agree n w act.DropTemp e = refl
    calls_agree n w act.Remove e = refl
    calls_agree n w act.Stamp e = refl

    call_is : call_by m (has_free m) ≡ first_call s events 0 (made s events)
    call_is =
        ap (λ (b : Bool). move_at m call_move (position (may_call b) m.acts)) free_is
        ∙ placed (may_call (has_free_part s events)) refl call_move (λ n w. call_of s events n) calls_agree
        (position (may_call (has_free_part s events)) m.acts) refl
        ∙ sym (calls_are_first s events m.acts follows.acts)

    call_now : (free : Bool) → free ≡ has_free m → (x : Option Move) → x ≡ call_by m free
        → x ≡ first_call s events 0 (made s events)
    call_now free of_free x e = e ∙ ap (λ (b : Bool). call_by m b) of_free ∙ call_is

    pub by_call : (x : Move) (free : Bool) → free ≡ has_free m → None ≡ line_by m → Some x ≡ call_by m free
        → x ≡ next_move s events
    by_call x free of_free no_line called =
        by_rule None (Some x) (first_giving s events 0 (made s events)) (next_make s events) rest (no_line ∙ line_is)
        (call_now free of_free (Some x) called) refl refl refl

    -- ---- jobs

    module _ (lane : ℕ) (is : IsFreest m.lanes lane) where
      lane_is : lane ≡ freest s.lanes events
      lane_is = freest_is_freest s events m.lanes lane follows.lanes is

      room_is : nat_lt (kept.out_in m.lanes lane) m.lanes.depth ≡ has_room s events
      room_is =
          ap (λ (jobs : List JobId). nat_lt (length jobs) m.lanes.depth)
          (follows.lanes.jobs lane (subst (λ (n : ℕ). lane < n) follows.lanes.count is.within))
          ∙ ap (λ (n : ℕ). nat_lt (out_in n events) m.lanes.depth) lane_is
          ∙ ap (λ (n : ℕ). nat_lt (out_in (freest s.lanes events) events) n) follows.lanes.depth

      -- where its sort passes, a lane has room for the job, and it lacks no part
      goes : (n : ℕ) (w : Work) (o : Op) (k : ℕ)
          → may_give (has_room s events) (has_free_part s events) (Some (sort_of w (share w n events) (act.Send o k)))
          ≡ true
          → (has_room s events && not (lacks_part s events n w o k)) ≡ true
      goes n w op.Get k e =
          get_goes (has_room s events) (has_part w (share w n events) k) (has_free_part s events) e
      goes n w op.Head k e = room_alone (has_room s events) e
      goes n w op.Put k e = room_alone (has_room s events) e
      goes n w op.Copy k e = room_alone (has_room s events) e
      goes n w op.Delete k e = room_alone (has_room s events) e
      goes n w op.Create k e = room_alone (has_room s events) e
      goes n w op.Part k e = room_alone (has_room s events) e
      goes n w op.PartCopy k e = room_alone (has_room s events) e
      goes n w op.Complete k e = room_alone (has_room s events) e
      goes n w op.Abort k e = room_alone (has_room s events) e
      goes n w op.List k e = room_alone (has_room s events) e
      goes n w op.Buckets k e = room_alone (has_room s events) e

      givings_agree : (n : ℕ) (w : Work) (a : Act)
          → may_give (has_room s events) (has_free_part s events) (Some (sort_of w (share w n events) a)) ≡ true
          → giving_move lane n a ≡ giving_of s events n w a
      givings_agree n w (act.Send o k) e =
          ap (λ (to : ℕ). Some (move.Give n o k to)) lane_is
          ∙ sym (chosen (has_room s events && not (lacks_part s events n w o k))
          (move.Give n o k (freest s.lanes events)) (goes n w o k e))
      givings_agree n w (act.Read k) e = refl
      givings_agree n w act.Assemble e = refl
      givings_agree n w (act.Place k) e = refl
      givings_agree n w act.Rename e = refl
      givings_agree n w act.DropTemp e = refl
      givings_agree n w act.Remove e = refl
      givings_agree n w act.Stamp e = refl

      giving_is : giving_by m lane (has_free m) ≡ first_giving s events 0 (made s events)
      giving_is =
          ap (λ (b : Bool). move_at m (giving_move lane) (position (may_give b (has_free m)) m.acts)) room_is
          ∙ ap (λ (b : Bool). move_at m (giving_move lane) (position (may_give (has_room s events) b) m.acts)) free_is
          ∙ placed (may_give (has_room s events) (has_free_part s events)) refl (giving_move lane)
          (λ n w. giving_of s events n w) givings_agree
          (position (may_give (has_room s events) (has_free_part s events)) m.acts) refl
          ∙ sym (givings_are_first s events m.acts follows.acts)

      giving_now : (free : Bool) → free ≡ has_free m → (x : Option Move) → x ≡ giving_by m lane free
          → x ≡ first_giving s events 0 (made s events)
      giving_now free of_free x e = e ∙ ap (λ (b : Bool). giving_by m lane b) of_free ∙ giving_is

      -- ---- the rest

      make_is : make_by m ≡ next_make s events
      make_is =
          ap (λ (n : ℕ). if nat_lt n (length m.slots) && nat_lt m.unfinished m.queue then Some (move.Make n) else None)
          follows.made_is
          ∙ ap (λ (n : ℕ). if nat_lt (made_count events) n && nat_lt m.unfinished m.queue
          then Some (move.Make (made_count events)) else None) follows.count
          ∙ ap (λ (n : ℕ). if nat_lt (made_count events) (length s.works) && nat_lt n m.queue
          then Some (move.Make (made_count events)) else None) follows.unfinished
          ∙ ap (λ (n : ℕ). if nat_lt (made_count events) (length s.works)
          && nat_lt (unfinished_from s events 0 (made s events)) n
          then Some (move.Make (made_count events)) else None) follows.queue

      rest_is : rest_by m ≡ rest
      rest_is = ap (λ (n : ℕ). if nat_lt 0 n then move.Wait else move.End) (out_is_out s events m.lanes follows.lanes)

      pub by_giving : (x : Move) (free : Bool) → free ≡ has_free m → None ≡ line_by m → None ≡ call_by m free
          → Some x ≡ giving_by m lane free → x ≡ next_move s events
      by_giving x free of_free no_line no_call given =
          by_rule None None (Some x) (next_make s events) rest (no_line ∙ line_is) (call_now free of_free None no_call)
          (giving_now free of_free (Some x) given) refl refl

      pub by_rest : (free : Bool) (make : Option Move) (rest : Move) → free ≡ has_free m → None ≡ line_by m
          → None ≡ call_by m free → None ≡ giving_by m lane free → make ≡ make_by m → rest ≡ rest_by m
          → unwrap_or make rest ≡ next_move s events
      by_rest free making resting of_free no_line no_call no_giving made_so rests_so =
          by_rule None None None making resting (no_line ∙ line_is) (call_now free of_free None no_call)
          (giving_now free of_free None no_giving) (made_so ∙ make_is) (rests_so ∙ rest_is)
