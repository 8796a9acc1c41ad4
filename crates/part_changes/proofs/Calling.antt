-- What a call on files changes of the pieces that hold a part.
use Rattle.std.proofs.Common.{◌≡◌, ◌∙◌, ◌==◌, ◌||◌, ℕ, Bool, true, false, Option, Some, None, refl, sym, subst, ap}
use Rattle.std.proofs.Common.{is_some, if◌then◌else◌}
use Rattle.std.proofs.lemmas.Bool.{eqb-true}
use Rattle.std.specs.Option.{option_or}
use Rattle.s3_model.specs.declared.outcomes.Cause.{Cause}
use Rattle.s3_model.specs.declared.requests.Op.TheVariants as op
use Rattle.s3_model.specs.declared.tasks.Kind.{Kind}
use Rattle.s3_model.specs.declared.tasks.Kind.TheVariants as kind
use Rattle.s3_outside.specs.declared.files.FileFault.TheVariants as fault
use Rattle.task_acts.specs.declared.acts.Act.{Act}
use Rattle.task_acts.specs.declared.acts.Act.TheVariants as act
use Rattle.task_acts.specs.declared.acts.FileCame.{FileCame}
use Rattle.task_acts.specs.declared.acts.FileCame.TheVariants as file
use Rattle.task_acts.specs.declared.acts.Stage.{Stage}
use Rattle.task_acts.specs.declared.acts.Stage.TheVariants as at
use Rattle.task_acts.specs.declared.work.Work.{Work}
use Rattle.task_acts.specs.Failures.{file_cause, first_failure, first_reason, is_stopped}
use Rattle.task_acts.specs.Histories.{History}
use Rattle.task_acts.specs.Kept.{IsHistory, is_file_act}
use Rattle.task_acts.specs.Rule.{is_ready_in}
use Rattle.task_acts.specs.Stages.{file_stage, has_done, stage}
use Rattle.task_acts.specs.Work.{piece_op}
use Rattle.manager_moves.proofs.CountLemmas.{no}
use Rattle.manager_moves.proofs.HoldLemmas.{skip}
use Rattle.manager_moves.specs.Parts.{has_part, holds_part}
use Rattle.part_changes.proofs.Changing.{alike, away_by, fail_stops, flip, part_by, piece_takes, stopped_alike}
use Rattle.part_changes.proofs.Changing.{stopped_holds, stops_alike}
use Rattle.part_changes.proofs.Pieces.{fine_is_not_given, given_piece, goes_up, may_be, placing, reading, was_given}
use Rattle.part_changes.specs.Changes.{CallChangesPart, CallMovesNoPart, after_call, called_in, is_away, moves_bytes}

not_given : (how : Stage) → was_given how ≡ false → how ≡ at.Waiting
not_given at.Waiting e = refl
not_given at.Out e = no (sym e)
not_given at.Kept e = no (sym e)
not_given at.Again e = no (sym e)
not_given at.Fine e = no (sym e)
not_given at.Failed e = no (sym e)

upload_moves : (k : Kind) (small : Bool) → k ≡ kind.Upload
    → (moves_bytes k ≡ true) × (goes_up (piece_op k small) ≡ true)
upload_moves k true e = (rw e refl, rw e refl)
upload_moves k false e = (rw e refl, rw e refl)

read_holds : (k : Kind) (p : Bool) → k ≡ kind.Upload → holds_part k false true p at.Waiting ≡ true
read_holds k p e = rw e refl

placed_holds_none : (k : Kind) (r : Bool) → k ≡ kind.Download → holds_part k false r true at.Fine ≡ false
placed_holds_none k r e = rw e refl

-- a call without a cause did what it was to do
no_cause : {P : Type 0} {c : Cause} → Some c ≡ None → P
no_cause e = cc

read_fine : (m : ℕ) (r : FileCame) → file_cause (act.Read m) r ≡ None → file_stage r ≡ at.Fine
read_fine m file.Fine e = refl
read_fine m file.Short e = no_cause e
read_fine m (file.Fault fault.Failed) e = no_cause e
read_fine m (file.Fault (fault.Blocked length)) e = no_cause e
read_fine m (file.Fault fault.Memory) e = no_cause e

place_fine : (m : ℕ) (r : FileCame) → file_cause (act.Place m) r ≡ None → file_stage r ≡ at.Fine
place_fine m file.Fine e = refl
place_fine m file.Short e = no_cause e
place_fine m (file.Fault fault.Failed) e = no_cause e
place_fine m (file.Fault (fault.Blocked length)) e = no_cause e
place_fine m (file.Fault fault.Memory) e = no_cause e

module _ (w : Work) (h : History) (r : FileCame) (n : ℕ) where
  abbrev job : Act
  job = act.Send (piece_op w.of_kind w.small) n

  abbrev next : Act → History
  next a = called_in a r h

  same_job_stage : (a : Act) → is_file_act a ≡ true → stage w (next a) job ≡ stage w h job
  same_job_stage (act.Send o k) e = no e
  same_job_stage (act.Read k) e = refl
  same_job_stage act.Assemble e = refl
  same_job_stage (act.Place k) e = refl
  same_job_stage act.Rename e = refl
  same_job_stage act.DropTemp e = refl
  same_job_stage act.Remove e = refl
  same_job_stage act.Stamp e = refl

  abbrev stop_by : Option Cause → Bool
  stop_by cause = is_some (option_or (option_or (first_failure w h) None) cause)
      || is_some (option_or (option_or (first_reason h) None) None)

  stops : (a : Act) (c : Cause) → file_cause a r ≡ Some c → is_stopped w (next a) ≡ true
  stops a c e = ap (λ (x : Option Cause). stop_by x) e ∙ fail_stops (option_or (first_failure w h) None) c _

  same_stop : (a : Act) → file_cause a r ≡ None → is_stopped w (next a) ≡ is_stopped w h
  same_stop a e =
      ap (λ (x : Option Cause). stop_by x) e
      ∙ stops_alike (option_or (first_failure w h) None) (option_or (first_reason h) None)
      ∙ stopped_alike w h a

  failed : (a : Act) (c : Cause) → is_file_act a ≡ true → file_cause a r ≡ Some c
      → has_part w (next a) n ≡ is_away w h n
  failed a c of_file e =
      ap (λ (t : Bool). part_by w t (stage w (next a) (act.Read n)) (stage w (next a) (act.Place n))
      (stage w (next a) job)) (stops a c e)
      ∙ stopped_holds w.of_kind (has_done (stage w (next a) (act.Read n))) (has_done (stage w (next a) (act.Place n)))
      (stage w (next a) job)
      ∙ ap (λ (x : Stage). away_by w x) (same_job_stage a of_file)

  -- the same acts of this piece are done as before
  untouched : (a : Act) → is_file_act a ≡ true → file_cause a r ≡ None
      → stage w (next a) (act.Read n) ≡ stage w h (act.Read n)
      → stage w (next a) (act.Place n) ≡ stage w h (act.Place n)
      → has_part w (next a) n ≡ has_part w h n
  untouched a of_file e read place =
      alike w (is_stopped w (next a)) (is_stopped w h) (stage w (next a) (act.Read n)) (stage w h (act.Read n))
      (stage w (next a) (act.Place n)) (stage w h (act.Place n)) (stage w (next a) job) (stage w h job)
      (same_stop a e) read place (same_job_stage a of_file)

  passed : (m : ℕ) (c : Bool) (new old before : Stage) → (m == n) ≡ c → c ≡ false
      → (if n == m then new else (if n == m then old else before)) ≡ before
  passed m c new old before e f =
      let other = flip m n false (e ∙ f) in skip (n == m) _ _ other ∙ skip (n == m) _ _ other

  reached : (m : ℕ) (new old : Stage) → (m == n) ≡ true → (if n == m then new else old) ≡ new
  reached m new old e = ap (λ (b : Bool). if b then new else old) (flip m n true e)

  module _ (m : ℕ) (is : IsHistory w h) where
    -- no job of a piece was given before its read
    pub waits : is_ready_in w h (act.Read m) ≡ true → (m == n) ≡ true → (b : Bool) → was_given (stage w h job) ≡ b
        → stage w h job ≡ at.Waiting
    waits ready same false e = not_given _ e
    waits ready same true e =
        let up = upload_moves w.of_kind w.small (reading w h m ready).1 in
        let known = given_piece w (piece_op w.of_kind w.small) n (piece_takes w.of_kind w.small up.0) h is e in
        let was : stage w h (act.Read m) ≡ at.Fine =
        subst (λ (x : ℕ). stage w h (act.Read x) ≡ at.Fine) (sym (eqb-true m n same)) (known.was_read up.1) in
        fine_is_not_given (stage w h (act.Read m)) was (may_be w h (act.Read m) ready)

    read_here : is_ready_in w h (act.Read m) ≡ true → file_cause (act.Read m) r ≡ None → (m == n) ≡ true
        → has_part w (next (act.Read m)) n ≡ true
    read_here ready e same =
        let is_next = reading w h m ready in
        alike w (is_stopped w (next (act.Read m))) false (stage w (next (act.Read m)) (act.Read n)) at.Fine
        (stage w h (act.Place n)) (stage w h (act.Place n)) (stage w h job) at.Waiting
        (same_stop (act.Read m) e ∙ is_next.0) (reached m _ _ same ∙ read_fine m r e) refl
        (waits ready same (was_given (stage w h job)) refl)
        ∙ read_holds w.of_kind (has_done (stage w h (act.Place n))) is_next.1

    read_by : (c : Bool) → is_ready_in w h (act.Read m) ≡ true → file_cause (act.Read m) r ≡ None → (m == n) ≡ c
        → has_part w (next (act.Read m)) n ≡ (if c then true else has_part w h n)
    read_by true ready e same = read_here ready e same
    read_by false ready e same = untouched (act.Read m) refl e (passed m false _ _ _ same refl) refl

    -- a piece that is placed came
    pub came_fine : is_ready_in w h (act.Place m) ≡ true → (m == n) ≡ true → stage w h job ≡ at.Fine
    came_fine ready same =
        let is_next = placing w h m ready in
        subst (λ (k : Kind). stage w h (act.Send (piece_op k w.small) n) ≡ at.Fine) (sym is_next.1)
        (subst (λ (x : ℕ). stage w h (act.Send op.Get x) ≡ at.Fine) (eqb-true m n same) is_next.3)

    place_here : is_ready_in w h (act.Place m) ≡ true → file_cause (act.Place m) r ≡ None → (m == n) ≡ true
        → has_part w (next (act.Place m)) n ≡ false
    place_here ready e same =
        let is_next = placing w h m ready in
        alike w (is_stopped w (next (act.Place m))) false (stage w h (act.Read n)) (stage w h (act.Read n))
        (stage w (next (act.Place m)) (act.Place n)) at.Fine (stage w h job) at.Fine
        (same_stop (act.Place m) e ∙ is_next.0) refl (reached m _ _ same ∙ place_fine m r e) (came_fine ready same)
        ∙ placed_holds_none w.of_kind (has_done (stage w h (act.Read n))) is_next.1

    place_by : (c : Bool) → is_ready_in w h (act.Place m) ≡ true → file_cause (act.Place m) r ≡ None → (m == n) ≡ c
        → has_part w (next (act.Place m)) n ≡ (if c then false else has_part w h n)
    place_by true ready e same = place_here ready e same
    place_by false ready e same = untouched (act.Place m) refl e refl (passed m false _ _ _ same refl)

  done : (a : Act) → IsHistory w (next a) → file_cause a r ≡ None
      → has_part w (next a) n ≡ after_call a n (has_part w h n)
  done (act.Send o k) is e = no is.0.0
  done (act.Read m) is e = read_by m is.1.1 (m == n) is.1.0 e refl
  done act.Assemble is e = untouched act.Assemble refl e refl refl
  done (act.Place m) is e = place_by m is.1.1 (m == n) is.1.0 e refl
  done act.Rename is e = untouched act.Rename refl e refl refl
  done act.DropTemp is e = untouched act.DropTemp refl e refl refl
  done act.Remove is e = untouched act.Remove refl e refl refl
  done act.Stamp is e = untouched act.Stamp refl e refl refl

  changes : (a : Act) → IsHistory w (next a) → (x : Option Cause) → file_cause a r ≡ x
      → has_part w (next a) n ≡ (if is_some x then is_away w h n else after_call a n (has_part w h n))
  changes a is (Some c) e = failed a c is.0.0 e
  changes a is None e = done a is e

pub call_changes_part : CallChangesPart
call_changes_part w h a r n is = changes w h r n a is (file_cause a r) refl

pub call_moves_no_part : CallMovesNoPart
call_moves_no_part w h a r n is = ap (λ (x : Stage). away_by w x) (same_job_stage w h r n a is.0.0)
