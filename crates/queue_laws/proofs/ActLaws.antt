-- The first act that can move is that of the least task whose sort passes.
use Rattle.std.proofs.Common.{◌≡◌, ◌∙◌, ◌+◌, ◌&&◌, ℕ, suc, Bool, true, false, cond, not, List, [], ◌∷◌, Option, Some, None, get_or, length, is_some, nat_lt, refl, sym, ap, arith, if◌then◌else◌}
use Rattle.std.proofs.lemmas.Bool.{lt-ltb}
use Rattle.std.specs.List.{position, position_or_len, slice_get}
use Rattle.std.specs.Option.{option_map, option_or}
use Rattle.act_queues.specs.Sorts.{may_call, may_give}
use Rattle.act_queues.specs.declared.act_queues.ActSort.{ActSort}
use Rattle.act_queues.specs.declared.act_queues.ActSort.TheVariants as sort
use Rattle.manager_moves.specs.Moves.{call_of, first_call, first_giving, giving_of, has_free_part, has_room, if_ready, made, ready}
use Rattle.manager_moves.specs.Parts.{has_part}
use Rattle.manager_moves.specs.Runs.{Events, Shared, share}
use Rattle.manager_moves.specs.declared.moves.Move.{Move}
use Rattle.s3_model.specs.declared.requests.Op.TheVariants as op
use Rattle.task_acts.specs.Histories.{History}
use Rattle.task_acts.specs.declared.acts.Act.{Act}
use Rattle.task_acts.specs.declared.acts.Act.TheVariants as act
use Rattle.task_acts.specs.declared.work.Work.{Work}
use Rattle.queue_laws.specs.ReadyActs.{CallsAreFirst, GivingsAreFirst, HoldActs, at_place, at_task, sort_at, sort_if}

-- ---- the first place of a list

later : (b : Bool) (n k : ℕ) → nat_lt n k ≡ b
    → cond (nat_lt (1 + n) (suc k)) (Some (1 + n)) None ≡ option_map suc (cond b (Some n) None)
later true n k e = grind arith
later false n k e = grind arith

step : (b : Bool) (n k : ℕ) → cond (nat_lt (cond (not b) (1 + n) 0) (suc k)) (Some (cond (not b) (1 + n) 0)) None
    ≡ (if b then Some 0 else option_map suc (cond (nat_lt n k) (Some n) None))
step true n k = rw (lt-ltb 0 (suc k) (omega arith)) refl
step false n k = later (nat_lt n k) n k refl

pub position_cons : {X : Type 0} (p : X → Bool) (x : X) (xs : List X)
    → position p (x ∷ xs) ≡ (if p x then Some 0 else option_map suc (position p xs))
position_cons p x xs = step (p x) (position_or_len p xs) (length xs)

-- ---- the first turn that there is

module _ (s : Shared) (events : Events) (turn : ℕ → Work → Option Move) where
  -- the turn at a place of the works from that task on
  abbrev turn_at : ℕ → List Work → Option ℕ → Option Move
  turn_at n works None = None
  turn_at n works (Some i) = at_task s events turn (n + i) (slice_get works i)

  no_works : (n : ℕ) (place : Option ℕ) → None ≡ turn_at n [] place
  no_works n None = refl
  no_works n (Some i) = refl

  one_on : (n : ℕ) (w : Work) (works : List Work) (place : Option ℕ)
      → turn_at (n + 1) works place ≡ turn_at n (w ∷ works) (option_map suc place)
  one_on n w works None = refl
  one_on n w works (Some i) =
      let e : (n + 1) + i ≡ n + suc i = omega arith in
      ap (λ (m : ℕ). at_task s events turn m (slice_get works i)) e

  chosen : (b : Bool) (t rest : Option Move) (n : ℕ) (w : Work) (works : List Work) (place : Option ℕ)
      → is_some t ≡ b → t ≡ turn n w → rest ≡ turn_at (n + 1) works place
      → option_or t rest ≡ turn_at n (w ∷ works) (if b then Some 0 else option_map suc place)
  chosen true (Some m) rest n w works place e is after =
      let same : n ≡ n + 0 = omega arith in is ∙ ap (λ (k : ℕ). turn k w) same
  chosen true None rest n w works place e is after = absurd (none_is e)
    where
      none_is : false ≡ true → ⊥
      none_is d = cc
  chosen false None rest n w works place e is after = after ∙ one_on n w works place
  chosen false (Some m) rest n w works place e is after = absurd (some_is e)
    where
      some_is : true ≡ false → ⊥
      some_is d = cc

  module _ (f : Option ActSort → Bool) (first : ℕ → List Work → Option Move) (never : f None ≡ false)
      (passes : (n : ℕ) (w : Work) → is_some (turn n w) ≡ f (sort_if w (share w n events) (ready s events n w)))
      (ends : (n : ℕ) → first n [] ≡ None)
      (goes : (n : ℕ) (w : Work) (works : List Work) → first n (w ∷ works) ≡ option_or (turn n w) (first (n + 1) works))
    where
      abbrev HoldFrom : ℕ → List Work → List (Option ActSort) → Type 0
      HoldFrom n works acts = (i : ℕ) → get_or acts i None ≡ sort_at s events (n + i) (slice_get works i)

      first_sort : (n : ℕ) (w : Work) (works : List Work) (acts : List (Option ActSort))
          → HoldFrom n (w ∷ works) acts → is_some (turn n w) ≡ f (get_or acts 0 None)
      first_sort n w works acts h =
          let same : n + 0 ≡ n = omega arith in
          passes n w ∙ ap f (sym (h 0 ∙ ap (λ (m : ℕ). sort_at s events m (Some w)) same))

      rest_from : (n : ℕ) (w : Work) (works : List Work) (acts rest : List (Option ActSort))
          → ((i : ℕ) → get_or rest i None ≡ get_or acts (suc i) None)
          → HoldFrom n (w ∷ works) acts → HoldFrom (n + 1) works rest
      rest_from n w works acts rest same h i =
          let e : n + suc i ≡ (n + 1) + i = omega arith in
          same i ∙ h (suc i) ∙ ap (λ (m : ℕ). sort_at s events m (slice_get works i)) e

      pub first_is : (n : ℕ) (works : List Work) (acts : List (Option ActSort)) → HoldFrom n works acts
          → first n works ≡ turn_at n works (position f acts)
      first_is n [] acts h = ends n ∙ no_works n (position f acts)
      first_is n (w ∷ works) [] h =
          goes n w works
          ∙ chosen false (turn n w) (first (n + 1) works) n w works None (first_sort n w works [] h ∙ never) refl
          (first_is (n + 1) works [] (rest_from n w works [] [] (λ i. refl) h))
      first_is n (w ∷ works) (a ∷ acts) h =
          goes n w works
          ∙ chosen (f a) (turn n w) (first (n + 1) works) n w works (position f acts)
          (first_sort n w works (a ∷ acts) h) refl
          (first_is (n + 1) works acts (rest_from n w works (a ∷ acts) acts (λ i. refl) h))
          ∙ ap (λ (place : Option ℕ). turn_at n (w ∷ works) place) (sym (position_cons f a acts))

      from_start : (acts : List (Option ActSort)) → HoldActs s events acts → HoldFrom 0 (made s events) acts
      from_start acts h i =
          let e : i ≡ 0 + i = omega arith in
          h i ∙ ap (λ (m : ℕ). sort_at s events m (slice_get (made s events) i)) e

      placed : (place : Option ℕ) → turn_at 0 (made s events) place ≡ at_place s events turn place
      placed None = refl
      placed (Some i) =
          let e : 0 + i ≡ i = omega arith in ap (λ (m : ℕ). at_task s events turn m (slice_get (made s events) i)) e

      pub first_is_at : (acts : List (Option ActSort)) → HoldActs s events acts
          → first 0 (made s events) ≡ at_place s events turn (position f acts)
      first_is_at acts h = first_is 0 (made s events) acts (from_start acts h) ∙ placed (position f acts)

-- ---- calls on files

module _ (s : Shared) (events : Events) where
  read_move : (free : Bool) (n number : ℕ) (m : Move) → is_some (if free then Some m else None) ≡ free
  read_move true n number m = refl
  read_move false n number m = refl

  send_is_no_call : (had free : Bool) → false ≡ may_call free (Some (if had then sort.Job else sort.Get))
  send_is_no_call true free = refl
  send_is_no_call false free = refl

  calls_pass : (n : ℕ) (w : Work) (h : History) (o : Option Act)
      → is_some (if_ready s events o (call_of s events n)) ≡ may_call (has_free_part s events) (sort_if w h o)
  calls_pass n w h None = refl
  calls_pass n w h (Some (act.Send op.Get number)) = send_is_no_call (has_part w h number) (has_free_part s events)
  calls_pass n w h (Some (act.Send of_op number)) = refl
  calls_pass n w h (Some (act.Read number)) = read_move (has_free_part s events) n number _
  calls_pass n w h (Some of_act) = refl

  -- ---- jobs

  room_alone : (room : Bool) (m : Move) → is_some (if room && true then Some m else None) ≡ room
  room_alone true m = refl
  room_alone false m = refl

  part_wanted : (room had free : Bool) (m : Move)
      → is_some (if room && not (not had && not free) then Some m else None)
      ≡ may_give room free (Some (if had then sort.Job else sort.Get))
  part_wanted true true free m = refl
  part_wanted true false true m = refl
  part_wanted true false false m = refl
  part_wanted false had free m = none_without had free where
    none_without : (b c : Bool) → false ≡ may_give false c (Some (if b then sort.Job else sort.Get))
    none_without true c = refl
    none_without false c = refl

  givings_pass : (n : ℕ) (w : Work) (o : Option Act) → is_some (if_ready s events o (giving_of s events n w))
      ≡ may_give (has_room s events) (has_free_part s events) (sort_if w (share w n events) o)
  givings_pass n w None = refl
  givings_pass n w (Some (act.Send op.Get number)) =
      part_wanted (has_room s events) (has_part w (share w n events) number) (has_free_part s events) _
  givings_pass n w (Some (act.Send of_op number)) = room_alone (has_room s events) _
  givings_pass n w (Some of_act) = refl

pub calls_are_first : CallsAreFirst
calls_are_first s events acts h =
    first_is_at s events (λ n w. if_ready s events (ready s events n w) (call_of s events n))
    (may_call (has_free_part s events))
    (first_call s events) refl (λ n w. calls_pass s events n w (share w n events) (ready s events n w))
    (λ n. refl) (λ n w works. refl) acts h

pub givings_are_first : GivingsAreFirst
givings_are_first s events acts h =
    first_is_at s events (λ n w. if_ready s events (ready s events n w) (giving_of s events n w))
    (may_give (has_room s events) (has_free_part s events)) (first_giving s events) refl
    (λ n w. givings_pass s events n w (ready s events n w)) (λ n. refl) (λ n w works. refl) acts h
