-- The law of shares: what a run gives a task is a history that can come about.
use Rattle.std.proofs.Common.{◌≡◌, ◌∙◌, ◌==◌, ◌&&◌, ◌+◌, ℕ, suc, Bool, true, false, List, [], ◌∷◌, Option, Some, None, IfSome, refl, sym, subst, ap, arith}
use Rattle.std.proofs.lemmas.Bool.{eqb-true}
use Rattle.std.specs.Option.{option_or}
use Rattle.std.specs.Prelude.{◌||◌, is_some, not, slice_get, if◌then◌else◌}
use Rattle.jobs.specs.Endings.{SeenCarried}
use Rattle.s3_model.specs.declared.outcomes.Cause.{Cause}
use Rattle.s3_model.specs.declared.outcomes.Reason.{Reason}
use Rattle.s3_model.specs.declared.requests.Op.{Op}
use Rattle.task_acts.specs.declared.acts.Act.{Act}
use Rattle.task_acts.specs.declared.acts.Act.TheVariants as act
use Rattle.task_acts.specs.declared.acts.FileCame.{FileCame}
use Rattle.task_acts.specs.declared.acts.Stage.{Stage}
use Rattle.task_acts.specs.declared.acts.Stage.TheVariants as at
use Rattle.task_acts.specs.declared.work.Work.{Work}
use Rattle.task_acts.specs.Failures.{first_failure, first_reason, is_stopped}
use Rattle.task_acts.specs.Histories.{History, Came, Gave, Returned, Taken}
use Rattle.task_acts.specs.Kept.{IsHistory, MayCome, MayHappen, is_file_act, kept_job}
use Rattle.task_acts.specs.Rule.{acts_of, first_ready_in, is_ready, is_ready_in}
use Rattle.task_acts.specs.Stages.{given_stage, is_out, stage}
use Rattle.manager_moves.proofs.CountLemmas.{no}
use Rattle.manager_moves.proofs.HoldLemmas.{same_number}
use Rattle.manager_moves.proofs.MoveLaws.{both, from_default, in_front}
use Rattle.manager_moves.proofs.PartLaws.{find_passes, nothing, ready_act, same_value}
use Rattle.manager_moves.specs.declared.moves.Move.{Move}
use Rattle.manager_moves.specs.declared.moves.Move.TheVariants as move
use Rattle.manager_moves.specs.Lanes.{freest}
use Rattle.manager_moves.specs.Laws.{IsOfTask, IsRun, SharesAreHistories}
use Rattle.manager_moves.specs.Moves.{call_of, first_call, first_giving, giving_of, has_free_part, has_room, if_ready, is_any_out, lacks_part, line_for, made, next_make, next_move, ready}
use Rattle.manager_moves.specs.Runs.{Back, Called, Events, Lined, Made, Sent, Shared, Stopped, is_task, lacks_memory, lined_count, made_count, outcome_in, share, with_taken}

-- ---- which act of a task a move is

abbrev pub act_of : Move → Option (ℕ × Act)
act_of (move.Give t o k lane) = Some (t, act.Send o k)
act_of (move.Read t k) = Some (t, act.Read k)
act_of (move.Place t k) = Some (t, act.Place k)
act_of (move.Assemble t k) = Some (t, act.Assemble)
act_of (move.Rename t k) = Some (t, act.Rename)
act_of (move.DropTemp t k) = Some (t, act.DropTemp)
act_of (move.Remove t k) = Some (t, act.Remove)
act_of (move.Stamp t k) = Some (t, act.Stamp)
act_of moved = None

module _ (s : Shared) (events : Events) where
  abbrev IsActOf : ℕ → Act → Move → Type 0
  IsActOf t a m = act_of m ≡ Some (t, a)

  read_is : (free : Bool) (t k : ℕ) (m : Move) → (if free then Some (move.Read t k) else None) ≡ Some m → IsActOf t (act.Read k) m
  read_is true t k m e = subst (IsActOf t (act.Read k)) (same_value e) refl
  read_is false t k m e = absurd (nothing e)

  is_call : (t : ℕ) (a : Act) (m : Move) → call_of s events t a ≡ Some m → IsActOf t a m
  is_call t (act.Send o k) m e = absurd (nothing e)
  is_call t (act.Read k) m e = read_is (has_free_part s events) t k m e
  is_call t act.Assemble m e = subst (IsActOf t act.Assemble) (same_value e) refl
  is_call t (act.Place k) m e = subst (IsActOf t (act.Place k)) (same_value e) refl
  is_call t act.Rename m e = subst (IsActOf t act.Rename) (same_value e) refl
  is_call t act.DropTemp m e = subst (IsActOf t act.DropTemp) (same_value e) refl
  is_call t act.Remove m e = subst (IsActOf t act.Remove) (same_value e) refl
  is_call t act.Stamp m e = subst (IsActOf t act.Stamp) (same_value e) refl

  -- ---- an act is made for what a made task is ready for

  abbrev pub IsReady : ℕ → Act → Type 0
  IsReady t a = (w : Work) × (slice_get (made s events) t ≡ Some w) × (ready s events t w ≡ Some a)

  abbrev Fits : Move → Type 0
  Fits m = (t : ℕ) (a : Act) → act_of m ≡ Some (t, a) → IsReady t a

  guarded : (b : Bool) (m : Move) → Fits m → IfSome (if b then Some m else None) Fits
  guarded true m x = x
  guarded false m x = tt

  module _ (n : ℕ) (w : Work) (is_made : slice_get (made s events) n ≡ Some w) where
    call : (a : Act) → ready s events n w ≡ Some a → (x : Option Move) → call_of s events n a ≡ x → IfSome x Fits
    call a e None is = tt
    call a e (Some m) is = λ t b same.
        let pair : (n, a) ≡ (t, b) = same_value (sym (is_call n a m is) ∙ same) in
        subst (λ (p : ℕ × Act). IsReady p.0 p.1) pair (w, is_made, e)

    calls_of : (a : Option Act) → ready s events n w ≡ a → IfSome (if_ready s events a (call_of s events n)) Fits
    calls_of None e = tt
    calls_of (Some a) e = call a e (call_of s events n a) refl

    roomy : (b : Bool) (o : Op) (k lane : ℕ) → ready s events n w ≡ Some (act.Send o k) → IfSome (if b then Some (move.Give n o k lane) else None) Fits
    roomy true o k lane e = λ t b same. subst (λ (p : ℕ × Act). IsReady p.0 p.1) (same_value same) (w, is_made, e)
    roomy false o k lane e = tt

    giving : (a : Act) → ready s events n w ≡ Some a → IfSome (giving_of s events n w a) Fits
    giving (act.Send o k) e = roomy (has_room s events && not (lacks_part s events n w o k)) o k (freest s.lanes events) e
    giving (act.Read k) e = tt
    giving act.Assemble e = tt
    giving (act.Place k) e = tt
    giving act.Rename e = tt
    giving act.DropTemp e = tt
    giving act.Remove e = tt
    giving act.Stamp e = tt

    givings_of : (a : Option Act) → ready s events n w ≡ a → IfSome (if_ready s events a (giving_of s events n w)) Fits
    givings_of None e = tt
    givings_of (Some a) e = giving a e

  -- the made tasks from that number on
  abbrev AreMade : ℕ → List Work → Type 0
  AreMade n works = (i m : ℕ) (w : Work) → m ≡ n + i → slice_get works i ≡ Some w → slice_get (made s events) m ≡ Some w

  calls : (n : ℕ) (works : List Work) → AreMade n works → IfSome (first_call s events n works) Fits
  calls n [] h = tt
  calls n (w ∷ works) h = both Fits _ _ (calls_of n w (h 0 n w (omega arith) refl) (ready s events n w) refl)
      (calls (n + 1) works (λ i m v e is. h (suc i) m v (omega arith) is))

  givings : (n : ℕ) (works : List Work) → AreMade n works → IfSome (first_giving s events n works) Fits
  givings n [] h = tt
  givings n (w ∷ works) h = both Fits _ _ (givings_of n w (h 0 n w (omega arith) refl) (ready s events n w) refl)
      (givings (n + 1) works (λ i m v e is. h (suc i) m v (omega arith) is))

  line : (w : Option Work) → IfSome (line_for s events w) Fits
  line None = tt
  line (Some w) = guarded (is_some (outcome_in w (lined_count events) events)) (move.Line (lined_count events)) (λ t a e. absurd (nothing e))

  making : IfSome (next_make s events) Fits
  making = guarded _ (move.Make (made_count events)) (λ t a e. absurd (nothing e))

  waiting : (b : Bool) → Fits (if b then move.Wait else move.End)
  waiting true = λ t a e. absurd (nothing e)
  waiting false = λ t a e. absurd (nothing e)

  moving : Fits (next_move s events)
  moving = from_default Fits _ _ (both Fits _ _ (line (slice_get (made s events) (lined_count events)))
      (both Fits _ _ (calls 0 (made s events) all_made) (both Fits _ _ (givings 0 (made s events) all_made) making)))
      (waiting (is_any_out s events))
    where
      all_made : AreMade 0 (made s events)
      all_made i m w e is = subst (λ (j : ℕ). slice_get (made s events) j ≡ Some w) (omega arith) is

  -- what the next move does was ready
  pub is_next : (t : ℕ) (a : Act) → act_of (next_move s events) ≡ Some (t, a) → IsReady t a
  is_next t a e = moving t a e

  pub is_called : (t : ℕ) (a : Act) → call_of s events t a ≡ Some (next_move s events) → IsReady t a
  is_called t a e = is_next t a (is_call t a (next_move s events) e)

-- ---- one more thing

or_none : {X : Type 0} (x : Option X) → option_or x None ≡ x
or_none None = refl
or_none (Some x) = refl

out_once_given : (how : Stage) → is_out (given_stage how) ≡ true
out_once_given at.Waiting = refl
out_once_given at.Out = refl
out_once_given at.Kept = refl
out_once_given at.Again = refl
out_once_given at.Fine = refl
out_once_given at.Failed = refl

module _ (w : Work) (h : History) where
  given_out : (b : Bool) (a : Act) → b ≡ true → is_out (if b then given_stage (stage w h a) else stage w h a) ≡ true
  given_out true a e = out_once_given (stage w h a)
  given_out false a e = no e

  -- a call on files comes back
  returns : (a : Act) (m : Move) (s : Shared) (before : Events) (t : ℕ) → call_of s before t a ≡ Some m
      → (is_file_act a ≡ true) × (is_out (stage w (Gave a ∷ h) a) ≡ true)
  returns (act.Send o k) m s before t e = absurd (nothing e)
  returns (act.Read k) m s before t e = (refl, given_out (k == k) (act.Read k) (same_number k))
  returns act.Assemble m s before t e = (refl, out_once_given (stage w h act.Assemble))
  returns (act.Place k) m s before t e = (refl, given_out (k == k) (act.Place k) (same_number k))
  returns act.Rename m s before t e = (refl, out_once_given (stage w h act.Rename))
  returns act.DropTemp m s before t e = (refl, out_once_given (stage w h act.DropTemp))
  returns act.Remove m s before t e = (refl, out_once_given (stage w h act.Remove))
  returns act.Stamp m s before t e = (refl, out_once_given (stage w h act.Stamp))

  -- a job that was kept is taken before it is given again
  module _ (o : Op) (k : ℕ) where
    taken : (b : Bool) → is_some (kept_job w h (act.Send o k)) ≡ b → IsHistory w h → IsHistory w (if b then Taken o k ∷ h else h)
    taken true e holds = (e, holds)
    taken false e holds = holds

    ready_taken : (b : Bool) → is_ready_in w h (act.Send o k) ≡ true → is_ready_in w (if b then Taken o k ∷ h else h) (act.Send o k) ≡ true
    ready_taken true e = subst (λ (stopped : Bool). is_ready w (stage w (Taken o k ∷ h)) stopped (act.Send o k) ≡ true) (sym still) e
      where
        still : is_stopped w (Taken o k ∷ h) ≡ is_stopped w h
        still =
            ap (λ (why : Option Cause). is_some why || is_some (option_or (first_reason h) None)) (or_none (first_failure w h))
            ∙ ap (λ (why : Option Reason). is_some (first_failure w h) || is_some why) (or_none (first_reason h))
    ready_taken false e = e

-- ---- all that happens

module _ (s : Shared) (n : ℕ) (w : Work) (of_plan : slice_get s.works n ≡ Some w) where
  in_plan : (before : Events) (t : ℕ) (v : Work) → slice_get (made s before) t ≡ Some v → slice_get s.works t ≡ Some v
  in_plan before t v is = in_front (made_count before) s.works t v is

  -- what the task of that number is ready for
  is_ready_for : (before : Events) (t : ℕ) (a : Act) (v : Work) → t ≡ n → slice_get s.works t ≡ Some v → ready s before t v ≡ Some a
      → is_ready_in w (share w n before) a ≡ true
  is_ready_for before t a v same is e =
      let is_w : v ≡ w = same_value (sym is ∙ ap (slice_get s.works) same ∙ of_plan) in
      let here : ready s before n w ≡ Some a =
      subst (λ (x : Work). ready s before n x ≡ Some a) is_w (subst (λ (j : ℕ). ready s before j v ≡ Some a) same e) in
      find_passes (is_ready_in w (share w n before)) (acts_of w) a
      (ready_act (lacks_memory n before) (first_ready_in w (share w n before)) a here)

  sent : (before : Events) (t : ℕ) (o : Op) (k : ℕ) (b : Bool) → (t == n) ≡ b → (b ≡ true → is_ready_in w (share w n before) (act.Send o k) ≡ true)
      → IsHistory w (share w n before)
      → IsHistory w (if b then Gave (act.Send o k) ∷ with_taken w o k (share w n before) else share w n before)
  sent before t o k true e r holds = (
    ready_taken w (share w n before) o k (is_some (kept_job w (share w n before) (act.Send o k))) (r refl),
    taken w (share w n before) o k (is_some (kept_job w (share w n before) (act.Send o k))) refl holds,
  )
  sent before t o k false e r holds = holds

  came : (before : Events) (carried : SeenCarried) (task : Option ℕ) → IsOfTask s before task carried → (b : Bool) → is_task n task ≡ b
      → IsHistory w (share w n before) → IsHistory w (if b then Came carried ∷ share w n before else share w n before)
  came before carried task of false e holds = holds
  came before carried None of true e holds = no e
  came before carried (Some m) of true e holds =
      let same = eqb-true m n e in
      let is_w : of.0 ≡ w = same_value (sym of.1 ∙ ap (slice_get s.works) same ∙ of_plan) in
      (subst (λ (x : Work). MayHappen x (share x n before) (Came carried)) is_w (subst (λ (j : ℕ). MayHappen of.0 (share of.0 j before) (Came carried)) same of.2), holds)

  called : (before : Events) (t : ℕ) (a : Act) (r : FileCame) → call_of s before t a ≡ Some (next_move s before) → MayCome a r → (b : Bool) → (t == n) ≡ b
      → IsHistory w (share w n before) → IsHistory w (if b then Returned a r ∷ Gave a ∷ share w n before else share w n before)
  called before t a r e may false apart holds = holds
  called before t a r e may true same holds =
      let ready_for = is_called s before t a e in
      let back = returns w (share w n before) a (next_move s before) s before t e in
      ((back.0, back.1, may), (is_ready_for before t a ready_for.0 (eqb-true t n same) (in_plan before t ready_for.0 ready_for.1) ready_for.2, holds))

  is_history : (events : Events) → IsRun s events → IsHistory w (share w n events)
  is_history [] h = tt
  is_history (Made fits ∷ before) h = is_history before h.1
  is_history (Sent t o k lane ∷ before) h =
      let g = is_next s before t (act.Send o k) (ap act_of h.0) in
      sent before t o k (t == n) refl (λ same. is_ready_for before t (act.Send o k) g.0 (eqb-true t n same) (in_plan before t g.0 g.1) g.2) (is_history before h.1)
  is_history (Back lane carried ∷ before) h =
      came before carried carried.job.id.task h.0.1 (is_task n carried.job.id.task) refl (is_history before h.1)
  is_history (Called t a r ∷ before) h = called before t a r h.0.0 h.0.1 (t == n) refl (is_history before h.1)
  is_history (Lined ∷ before) h = is_history before h.1
  is_history (Stopped reason ∷ before) h = (h.0, is_history before h.1)

pub shares_are_histories : SharesAreHistories
shares_are_histories s events n w of_plan h = is_history s n w of_plan events h
