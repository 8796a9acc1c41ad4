-- What the next move says of the run that names it.
use Rattle.std.proofs.Common.{◌≡◌, ◌∙◌, ◌+◌, ℕ, Bool, true, false, List, [], ◌∷◌, Option, Some, None, IfSome, refl}
use Rattle.std.proofs.Common.{sym, subst, ap}
use Rattle.std.specs.Prelude.{◌&&◌, is_some, not, slice_get, if◌then◌else◌}
use Rattle.manager_moves.proofs.CountLemmas.{no}
use Rattle.manager_moves.proofs.MoveLaws.{both, from_default}
use Rattle.manager_moves.proofs.PartLaws.{nothing, same_value}
use Rattle.manager_moves.proofs.ShareLaws.{act_of}
use Rattle.manager_moves.specs.declared.moves.Move.{Move}
use Rattle.manager_moves.specs.declared.moves.Move.TheVariants as move
use Rattle.manager_moves.specs.Lanes.{freest}
use Rattle.manager_moves.specs.Moves.{call_of, first_call, first_giving, giving_of, has_free_part, has_room, if_ready}
use Rattle.manager_moves.specs.Moves.{is_any_out}
use Rattle.manager_moves.specs.Moves.{lacks_part, line_for, made, next_move, ready}
use Rattle.manager_moves.specs.Runs.{Events, Shared, lined_count, made_count, outcome_in}
use Rattle.s3_model.specs.declared.requests.Op.{Op}
use Rattle.task_acts.specs.declared.acts.Act.{Act}
use Rattle.task_acts.specs.declared.acts.Act.TheVariants as act
use Rattle.task_acts.specs.declared.work.Work.{Work}
use Rattle.task_acts.specs.Kept.{is_file_act}

module _ (s : Shared) (events : Events) where
  -- the line is that of the first task that has none, which has ended
  pub record IsLineOf (n : ℕ) : Type 0 where
    pub number : n ≡ lined_count events
    pub work : Work
    pub there : slice_get (made s events) (lined_count events) ≡ Some work
    pub ended : is_some (outcome_in work (lined_count events) events) ≡ true

  -- the call on files is one that its task can make now
  abbrev pub IsCallOf : Move → Type 0
  IsCallOf m = (t : ℕ) (a : Act) → act_of m ≡ Some (t, a) → is_file_act a ≡ true → call_of s events t a ≡ Some m

  abbrev Fits : Move → Type 0
  Fits (move.Line n) = IsLineOf n
  Fits (move.Make n) = n ≡ made_count events
  Fits m = IsCallOf m

  -- ---- calls

  as_call : (m : Move) (t : ℕ) (a : Act) → act_of m ≡ Some (t, a) → call_of s events t a ≡ Some m → IsCallOf m
  as_call m t a is so u b e file =
      let pair : (t, a) ≡ (u, b) = same_value (sym is ∙ e) in
      subst (λ (p : ℕ × Act). call_of s events p.0 p.1 ≡ Some m) pair so

  read : (n k : ℕ) (b : Bool) → has_free_part s events ≡ b → IfSome (if b then Some (move.Read n k) else None) Fits
  read n k true e = as_call (move.Read n k) n (act.Read k) refl
      (ap (λ (b : Bool). if b then Some (move.Read n k) else None) e)
  read n k false e = tt

  call : (n : ℕ) (a : Act) → IfSome (call_of s events n a) Fits
  call n (act.Send o k) = tt
  call n (act.Read k) = read n k (has_free_part s events) refl
  call n act.Assemble = as_call (move.Assemble n 0) n act.Assemble refl refl
  call n (act.Place k) = as_call (move.Place n k) n (act.Place k) refl refl
  call n act.Rename = as_call (move.Rename n 0) n act.Rename refl refl
  call n act.DropTemp = as_call (move.DropTemp n 0) n act.DropTemp refl refl
  call n act.Remove = as_call (move.Remove n 0) n act.Remove refl refl
  call n act.Stamp = as_call (move.Stamp n 0) n act.Stamp refl refl

  calls_of : (n : ℕ) (a : Option Act) → IfSome (if_ready s events a (call_of s events n)) Fits
  calls_of n None = tt
  calls_of n (Some a) = call n a

  calls : (n : ℕ) (works : List Work) → IfSome (first_call s events n works) Fits
  calls n [] = tt
  calls n (w ∷ works) = both Fits _ _ (calls_of n (ready s events n w)) (calls (n + 1) works)

  -- ---- jobs

  no_call : (t : ℕ) (o : Op) (k lane : ℕ) → IsCallOf (move.Give t o k lane)
  no_call t o k lane u b e file =
      no (subst (λ (p : ℕ × Act). is_file_act p.1 ≡ true) (sym (same_value e)) file)

  roomy : (n : ℕ) (b : Bool) (o : Op) (k lane : ℕ) → IfSome (if b then Some (move.Give n o k lane) else None) Fits
  roomy n true o k lane = no_call n o k lane
  roomy n false o k lane = tt

  giving : (n : ℕ) (w : Work) (a : Act) → IfSome (giving_of s events n w a) Fits
  giving n w (act.Send o k) =
      roomy n (has_room s events && not (lacks_part s events n w o k)) o k (freest s.lanes events)
  giving n w (act.Read k) = tt
  giving n w act.Assemble = tt
  giving n w (act.Place k) = tt
  giving n w act.Rename = tt
  giving n w act.DropTemp = tt
  giving n w act.Remove = tt
  giving n w act.Stamp = tt

  givings_of : (n : ℕ) (w : Work) (a : Option Act) → IfSome (if_ready s events a (giving_of s events n w)) Fits
  givings_of n w None = tt
  givings_of n w (Some a) = giving n w a

  givings : (n : ℕ) (works : List Work) → IfSome (first_giving s events n works) Fits
  givings n [] = tt
  givings n (w ∷ works) = both Fits _ _ (givings_of n w (ready s events n w)) (givings (n + 1) works)

  -- ---- lines and the rest

  lining : (w : Work) → slice_get (made s events) (lined_count events) ≡ Some w → (b : Bool)
      → is_some (outcome_in w (lined_count events) events) ≡ b
      → IfSome (if b then Some (move.Line (lined_count events)) else None) Fits
  lining w there true e = record { number = refl; work = w; there = there; ended = e }
  lining w there false e = tt

  line : (o : Option Work) → slice_get (made s events) (lined_count events) ≡ o → IfSome (line_for s events o) Fits
  line None e = tt
  line (Some w) e = lining w e (is_some (outcome_in w (lined_count events) events)) refl

  guarded : (b : Bool) (m : Move) → Fits m → IfSome (if b then Some m else None) Fits
  guarded true m x = x
  guarded false m x = tt

  waiting : (b : Bool) → Fits (if b then move.Wait else move.End)
  waiting true = λ t a e file. absurd (nothing e)
  waiting false = λ t a e file. absurd (nothing e)

  moving : Fits (next_move s events)
  moving = from_default Fits _ _ (both Fits _ _ (line (slice_get (made s events) (lined_count events)) refl)
      (both Fits _ _ (calls 0 (made s events)) (both Fits _ _ (givings 0 (made s events))
      (guarded _ (move.Make (made_count events)) refl)))) (waiting (is_any_out s events))

  -- ---- what is named

  call_in : (m : Move) (t : ℕ) (a : Act) → Fits m → act_of m ≡ Some (t, a) → is_file_act a ≡ true
      → call_of s events t a ≡ Some m
  call_in (move.Line n) t a fits e file = absurd (nothing e)
  call_in (move.Make n) t a fits e file = absurd (nothing e)
  call_in m t a fits e file = fits t a e file

  pub call_named : (t : ℕ) (a : Act) → act_of (next_move s events) ≡ Some (t, a) → is_file_act a ≡ true
      → call_of s events t a ≡ Some (next_move s events)
  call_named t a e file = call_in (next_move s events) t a moving e file

  pub line_named : (n : ℕ) → next_move s events ≡ move.Line n → IsLineOf n
  line_named n e = subst (λ (m : Move). Fits m) e moving

  pub make_named : (n : ℕ) → next_move s events ≡ move.Make n → n ≡ made_count events
  make_named n e = subst (λ (m : Move). Fits m) e moving
