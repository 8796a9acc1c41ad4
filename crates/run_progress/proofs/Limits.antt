-- How far a run can be: no more tasks are made than there are, and no more lines are due than tasks were made.
use Rattle.std.proofs.Common.{◌≡◌, ◌&&◌, ◌+◌, ◌≤◌, ◌<◌, ℕ, Bool, true, false, List, [], ◌∷◌, Option, Some, None, IfSome, refl, subst, arith, length, nat_lt, not, slice_get}
use Rattle.std.proofs.lemmas.Bool.{and_parts, ltb-true}
use Rattle.std.specs.Prelude.{is_some, if◌then◌else◌}
use Rattle.task_acts.specs.declared.acts.Act.{Act}
use Rattle.task_acts.specs.declared.acts.Act.TheVariants as act
use Rattle.task_acts.specs.declared.work.Work.{Work}
use Rattle.manager_moves.proofs.MoveLaws.{both as option_both, from_default}
use Rattle.manager_moves.specs.declared.moves.Move.{Move}
use Rattle.manager_moves.specs.declared.moves.Move.TheVariants as move
use Rattle.manager_moves.specs.Lanes.{freest}
use Rattle.manager_moves.specs.Laws.{IsRun}
use Rattle.manager_moves.specs.Moves.{call_of, first_call, first_giving, giving_of, has_free_part, has_room, if_ready, is_any_out, lacks_part, line_for, made, next_move, ready, unfinished_from}
use Rattle.manager_moves.specs.Runs.{Back, Called, Events, Lined, Made, Sent, Shared, Stopped, lined_count, made_count, outcome_in}
use Rattle.run_progress.proofs.Waiting as waiting
use Rattle.run_progress.proofs.Waiting.{is_waiting}

module _ (s : Shared) (events : Events) where
  abbrev IsWithin : Move → Type 0
  IsWithin (move.Make n) = made_count events < length s.works
  IsWithin (move.Line n) = lined_count events < made_count events
  IsWithin m = Unit {0}

  within_if : (b : Bool) (m : Move) → (b ≡ true → IsWithin m) → IfSome (if b then Some m else None) IsWithin
  within_if true m x = x refl
  within_if false m x = tt

  within_call : (n : ℕ) (a : Option Act) → IfSome (if_ready s events a (call_of s events n)) IsWithin
  within_call n None = tt
  within_call n (Some (act.Send o k)) = tt
  within_call n (Some (act.Read k)) = within_if (has_free_part s events) (move.Read n k) (λ e. tt)
  within_call n (Some act.Assemble) = tt
  within_call n (Some (act.Place k)) = tt
  within_call n (Some act.Rename) = tt
  within_call n (Some act.DropTemp) = tt
  within_call n (Some act.Remove) = tt
  within_call n (Some act.Stamp) = tt

  within_giving : (n : ℕ) (w : Work) (a : Option Act) → IfSome (if_ready s events a (giving_of s events n w)) IsWithin
  within_giving n w None = tt
  within_giving n w (Some (act.Send o k)) = within_if (has_room s events && not (lacks_part s events n w o k)) (move.Give n o k (freest s.lanes events)) (λ e. tt)
  within_giving n w (Some (act.Read k)) = tt
  within_giving n w (Some act.Assemble) = tt
  within_giving n w (Some (act.Place k)) = tt
  within_giving n w (Some act.Rename) = tt
  within_giving n w (Some act.DropTemp) = tt
  within_giving n w (Some act.Remove) = tt
  within_giving n w (Some act.Stamp) = tt

  within_calls : (n : ℕ) (works : List Work) → IfSome (first_call s events n works) IsWithin
  within_calls n [] = tt
  within_calls n (w ∷ works) = option_both IsWithin _ _ (within_call n (ready s events n w)) (within_calls (n + 1) works)

  within_givings : (n : ℕ) (works : List Work) → IfSome (first_giving s events n works) IsWithin
  within_givings n [] = tt
  within_givings n (w ∷ works) = option_both IsWithin _ _ (within_giving n w (ready s events n w)) (within_givings (n + 1) works)

  within_line : (x : Option Work) → slice_get (made s events) (lined_count events) ≡ x → IfSome (line_for s events x) IsWithin
  within_line None e = tt
  within_line (Some w) e = within_if (is_some (outcome_in w (lined_count events) events)) (move.Line (lined_count events)) (λ has. waiting.within_take (made_count events) s.works (lined_count events) w e)

  within_end : (b : Bool) → IsWithin (if b then move.Wait else move.End)
  within_end true = tt
  within_end false = tt

  next_within : IsWithin (next_move s events)
  next_within = from_default IsWithin _ _ (option_both IsWithin _ _ (within_line (slice_get (made s events) (lined_count events)) refl)
      (option_both IsWithin _ _ (within_calls 0 (made s events)) (option_both IsWithin _ _ (within_givings 0 (made s events))
      (within_if (nat_lt (made_count events) (length s.works) && nat_lt (unfinished_from s events 0 (made s events)) s.queue) (move.Make (made_count events))
      (λ e. ltb-true (made_count events) (length s.works) (and_parts (nat_lt (made_count events) (length s.works)) _ e).0))))) (within_end (is_any_out s events))

module _ (s : Shared) where
  pub few_made : (events : Events) → IsRun s events → made_count events ≤ length s.works
  few_made [] run = omega arith
  few_made (Made fits ∷ before) run = let more = subst (IsWithin s before) run.0 (next_within s before) in omega arith
  few_made (Sent t o k to ∷ before) run = few_made before run.1
  few_made (Back from c ∷ before) run = few_made before run.1
  few_made (Called t a r ∷ before) run = few_made before run.1
  few_made (Lined ∷ before) run = few_made before run.1
  few_made (Stopped reason ∷ before) run = few_made before run.1

  pub few_lined : (events : Events) → IsRun s events → lined_count events ≤ made_count events
  few_lined [] run = omega arith
  few_lined (Made fits ∷ before) run = let rest = few_lined before run.1 in omega arith
  few_lined (Sent t o k to ∷ before) run = few_lined before run.1
  few_lined (Back from c ∷ before) run = few_lined before run.1
  few_lined (Called t a r ∷ before) run = few_lined before run.1
  few_lined (Lined ∷ before) run = let more = subst (IsWithin s before) run.0 (next_within s before) in omega arith
  few_lined (Stopped reason ∷ before) run = few_lined before run.1
