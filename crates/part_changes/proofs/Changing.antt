-- What one more happening changes of the pieces that hold a part.
use Rattle.std.proofs.Common.{◌≡◌, ◌∙◌, ◌==◌, ◌&&◌, ◌||◌, ℕ, Bool, true, false, ◌∷◌, Option, Some, None, refl, sym}
use Rattle.std.proofs.Common.{subst, ap, arith, is_some, if◌then◌else◌}
use Rattle.std.proofs.lemmas.Bool.{eqb-true}
use Rattle.std.specs.Option.{option_or}
use Rattle.job_terms.specs.Buffers.{holds_buffer}
use Rattle.job_terms.specs.Ops.{is_op, op_number}
use Rattle.s3_model.specs.declared.outcomes.Cause.{Cause}
use Rattle.s3_model.specs.declared.outcomes.Reason.{Reason}
use Rattle.s3_model.specs.declared.requests.Op.{Op}
use Rattle.s3_model.specs.declared.tasks.Kind.{Kind}
use Rattle.s3_model.specs.declared.tasks.Kind.TheVariants as kind
use Rattle.task_acts.specs.declared.acts.Act.{Act}
use Rattle.task_acts.specs.declared.acts.Act.TheVariants as act
use Rattle.task_acts.specs.declared.acts.Stage.{Stage}
use Rattle.task_acts.specs.declared.acts.Stage.TheVariants as at
use Rattle.task_acts.specs.declared.work.Work.{Work}
use Rattle.task_acts.specs.Failures.{first_failure, first_reason, is_stopped}
use Rattle.task_acts.specs.Histories.{Cancelled, Gave, History, Taken}
use Rattle.task_acts.specs.Kept.{IsHistory, kept_job}
use Rattle.task_acts.specs.Stages.{given_stage, has_done, is_out, stage}
use Rattle.task_acts.specs.Work.{piece_op}
use Rattle.manager_moves.proofs.CountLemmas.{no}
use Rattle.manager_moves.proofs.HoldLemmas.{same_number, same_op, skip}
use Rattle.manager_moves.specs.Parts.{has_part, holds_part}
use Rattle.manager_moves.specs.Runs.{with_taken}
use Rattle.part_changes.proofs.Pieces.{IsPieceJob, named}
use Rattle.part_changes.specs.Changes.{CancelFreesParts, GivingSendsPart, GivingTakesPart, given_in, is_away}
use Rattle.part_changes.specs.Changes.{moves_bytes}

-- ---- a piece

-- once a task is stopped, a piece holds a part while its job is out
pub stopped_holds : (k : Kind) (r p : Bool) (how : Stage) → holds_part k true r p how ≡ (moves_bytes k && is_out how)
stopped_holds kind.Upload r p at.Waiting = refl
stopped_holds kind.Upload r p at.Out = refl
stopped_holds kind.Upload r p at.Kept = refl
stopped_holds kind.Upload r p at.Again = refl
stopped_holds kind.Upload r p at.Fine = refl
stopped_holds kind.Upload r p at.Failed = refl
stopped_holds kind.Download r p at.Waiting = refl
stopped_holds kind.Download r p at.Out = refl
stopped_holds kind.Download r p at.Kept = refl
stopped_holds kind.Download r p at.Again = refl
stopped_holds kind.Download r p at.Fine = refl
stopped_holds kind.Download r p at.Failed = refl
stopped_holds kind.Copy r p how = refl
stopped_holds kind.RemoveObject r p how = refl
stopped_holds kind.RemoveFile r p how = refl

-- a piece whose job is out holds a part
pub out_holds : (k : Kind) (t r p : Bool) (how : Stage) → moves_bytes k ≡ true → is_out how ≡ true
    → holds_part k t r p how ≡ true
out_holds kind.Upload t r p how m e = rw e refl
out_holds kind.Download t r p how m e = rw e refl
out_holds kind.Copy t r p how m e = no m
out_holds kind.RemoveObject t r p how m e = no m
out_holds kind.RemoveFile t r p how m e = no m

pub none_holds : (k : Kind) (t r p : Bool) (how : Stage) → moves_bytes k ≡ false → holds_part k t r p how ≡ false
none_holds kind.Upload t r p how m = no (sym m)
none_holds kind.Download t r p how m = no (sym m)
none_holds kind.Copy t r p how m = refl
none_holds kind.RemoveObject t r p how m = refl
none_holds kind.RemoveFile t r p how m = refl

pub piece_takes : (k : Kind) (small : Bool) → moves_bytes k ≡ true → holds_buffer (piece_op k small) ≡ true
piece_takes kind.Upload true m = refl
piece_takes kind.Upload false m = refl
piece_takes kind.Download small m = refl
piece_takes kind.Copy small m = no m
piece_takes kind.RemoveObject small m = no m
piece_takes kind.RemoveFile small m = no m

pub out_once_given : (how : Stage) → is_out (given_stage how) ≡ true
out_once_given at.Waiting = refl
out_once_given at.Out = refl
out_once_given at.Kept = refl
out_once_given at.Again = refl
out_once_given at.Fine = refl
out_once_given at.Failed = refl

-- ---- failures and cancels

cancel_stops : (a : Option Cause) (b : Option Reason) (r : Reason)
    → (is_some (option_or a None) || is_some (option_or b (Some r))) ≡ true
cancel_stops None None r = refl
cancel_stops None (Some q) r = refl
cancel_stops (Some c) b r = refl

pub stops_alike : (a : Option Cause) (b : Option Reason)
    → (is_some (option_or a None) || is_some (option_or b None)) ≡ (is_some a || is_some b)
stops_alike None None = refl
stops_alike None (Some q) = refl
stops_alike (Some c) b = refl

pub fail_stops : (a : Option Cause) (c : Cause) (b : Bool) → (is_some (option_or a (Some c)) || b) ≡ true
fail_stops None c b = refl
fail_stops (Some d) c b = refl

pub flip : (a b : ℕ) (c : Bool) → (a == b) ≡ c → (b == a) ≡ c
flip a b true e = subst (λ (x : ℕ). (x == a) ≡ true) (eqb-true a b e) (same_number a)
flip a b false e = grind arith

pub both_true : (a b : Bool) → a ≡ true → b ≡ true → (a && b) ≡ true
both_true true true e f = refl
both_true true false e f = f
both_true false b e f = no e

pub both_false : (a b : Bool) → b ≡ false → (a && b) ≡ false
both_false true b e = e
both_false false b e = refl

pub first_false : (a b : Bool) → a ≡ false → (a && b) ≡ false
first_false true b e = no (sym e)
first_false false b e = refl

module _ (w : Work) where
  abbrev job : ℕ → Act
  job n = act.Send (piece_op w.of_kind w.small) n

  abbrev pub part_by : Bool → Stage → Stage → Stage → Bool
  part_by t r p how = holds_part w.of_kind t (has_done r) (has_done p) how

  pub alike : (t u : Bool) (r s p q x y : Stage) → t ≡ u → r ≡ s → p ≡ q → x ≡ y → part_by t r p x ≡ part_by u s q y
  alike t u r s p q x y a b c d = rw (a, b, c, d) refl

  abbrev pub away_by : Stage → Bool
  away_by how = moves_bytes w.of_kind && is_out how

  -- that job is the one of that piece
  abbrev pub is_job : Op → (given number : ℕ) → Bool
  is_job o k n = is_op (piece_op w.of_kind w.small) o && (n == k)

  pub its_job : (o : Op) (k n : ℕ) → piece_op w.of_kind w.small ≡ o → (k == n) ≡ true → is_job o k n ≡ true
  its_job o k n of_piece e =
      let same : is_op (piece_op w.of_kind w.small) o ≡ true =
      subst (λ (x : Op). is_op (piece_op w.of_kind w.small) x ≡ true) of_piece
      (same_number (op_number (piece_op w.of_kind w.small))) in
      both_true _ _ same (flip k n true e)

  -- a piece that does not go through a part holds none
  pub no_mover : (o : Op) → holds_buffer o ≡ false → is_op (piece_op w.of_kind w.small) o ≡ true → (m : Bool)
      → moves_bytes w.of_kind ≡ m → m ≡ false
  no_mover o b e false m = refl
  no_mover o b e true m = sym (piece_takes w.of_kind w.small m) ∙ ap holds_buffer (same_op _ _ e) ∙ b

  -- such a job moves no part
  pub away_by_op : (o : Op) (now before : Stage) → holds_buffer o ≡ false → (c : Bool)
      → is_op (piece_op w.of_kind w.small) o ≡ c → (c ≡ false → now ≡ before) → away_by now ≡ away_by before
  away_by_op o now before b false e h = ap (λ (x : Stage). away_by x) (h refl)
  away_by_op o now before b true e h =
      let none = no_mover o b e (moves_bytes w.of_kind) refl in
      first_false _ (is_out now) none ∙ sym (first_false _ (is_out before) none)

  pub cancel_frees : (h : History) (r : Reason) (n : ℕ) → has_part w (Cancelled r ∷ h) n ≡ is_away w h n
  cancel_frees h r n =
      ap (λ (t : Bool). part_by t (stage w h (act.Read n)) (stage w h (act.Place n)) (stage w h (job n)))
      (cancel_stops (first_failure w h) (first_reason h) r)
      ∙ stopped_holds w.of_kind (has_done (stage w h (act.Read n))) (has_done (stage w h (act.Place n)))
      (stage w h (job n))

  -- ---- a job is given

  pub stopped_alike : (h : History) (a : Act) → is_stopped w (Gave a ∷ h) ≡ is_stopped w h
  stopped_alike h a = stops_alike (first_failure w h) (first_reason h)

  taken_stage : (b : Bool) (o : Op) (k : ℕ) (h : History) (a : Act)
      → stage w (if b then Taken o k ∷ h else h) a ≡ stage w h a
  taken_stage true o k h a = refl
  taken_stage false o k h a = refl

  taken_stopped : (b : Bool) (o : Op) (k : ℕ) (h : History)
      → is_stopped w (if b then Taken o k ∷ h else h) ≡ is_stopped w h
  taken_stopped true o k h = stops_alike (first_failure w h) (first_reason h)
  taken_stopped false o k h = refl

  module _ (o : Op) (k : ℕ) (h : History) where
    abbrev g : History
    g = with_taken w o k h

    abbrev next : History
    next = given_in w o k h

    same_stage : (a : Act) → stage w g a ≡ stage w h a
    same_stage a = taken_stage (is_some (kept_job w h (act.Send o k))) o k h a

    same_stop : is_stopped w next ≡ is_stopped w h
    same_stop = stopped_alike g (act.Send o k) ∙ taken_stopped (is_some (kept_job w h (act.Send o k))) o k h

    abbrev is_its : ℕ → Bool
    is_its n = is_job o k n

    other_stage : (n : ℕ) → is_its n ≡ false → stage w next (job n) ≡ stage w h (job n)
    other_stage n e = skip (is_its n) _ _ e ∙ same_stage (job n)

    other_part : (n : ℕ) → is_its n ≡ false → has_part w next n ≡ has_part w h n
    other_part n e =
        alike (is_stopped w next) (is_stopped w h) (stage w next (act.Read n)) (stage w h (act.Read n))
        (stage w next (act.Place n)) (stage w h (act.Place n)) (stage w next (job n)) (stage w h (job n))
        same_stop (same_stage (act.Read n)) (same_stage (act.Place n)) (other_stage n e)

    -- the stage of the job that was given
    given_at : (n : ℕ) → is_its n ≡ true → is_out (stage w next (job n)) ≡ true
    given_at n e =
        ap (λ (c : Bool). is_out (if c then given_stage (stage w g (act.Send o k)) else stage w g (job n))) e
        ∙ out_once_given (stage w g (act.Send o k))

    module _ (is : IsHistory w next) where
      known : holds_buffer o ≡ true → IsPieceJob w w.of_kind o k (stage w g (act.Read k))
      known b = (named w g o k b is.0).1

      its : (n : ℕ) → holds_buffer o ≡ true → (k == n) ≡ true → is_its n ≡ true
      its n b e = its_job o k n (known b).of_piece e

      part_by_op : (n : ℕ) → holds_buffer o ≡ false → (c : Bool) → is_op (piece_op w.of_kind w.small) o ≡ c
          → has_part w next n ≡ has_part w h n
      part_by_op n b false e = other_part n (first_false _ (n == k) e)
      part_by_op n b true e =
          let none = no_mover o b e (moves_bytes w.of_kind) refl in
          none_holds w.of_kind (is_stopped w next) (has_done (stage w next (act.Read n)))
          (has_done (stage w next (act.Place n))) (stage w next (job n)) none
          ∙ sym (none_holds w.of_kind (is_stopped w h) (has_done (stage w h (act.Read n)))
          (has_done (stage w h (act.Place n))) (stage w h (job n)) none)

      part_now : (n : ℕ) (b c : Bool) → holds_buffer o ≡ b → (k == n) ≡ c
          → has_part w next n ≡ (if b && c then true else has_part w h n)
      part_now n true true b e =
          out_holds w.of_kind (is_stopped w next) (has_done (stage w next (act.Read n)))
          (has_done (stage w next (act.Place n))) (stage w next (job n))
          (known b).moves (given_at n (its n b e))
      part_now n true false b e = other_part n (both_false _ (n == k) (flip k n false e))
      part_now n false c b e = part_by_op n b (is_op (piece_op w.of_kind w.small) o) refl

      away_now : (n : ℕ) (b c : Bool) → holds_buffer o ≡ b → (k == n) ≡ c
          → is_away w next n ≡ (if b && c then true else is_away w h n)
      away_now n true true b e = both_true _ _ (known b).moves (given_at n (its n b e))
      away_now n true false b e = ap (λ (x : Stage). away_by x)
          (other_stage n (both_false _ (n == k) (flip k n false e)))
      away_now n false c b e =
          away_by_op o (stage w next (job n)) (stage w h (job n)) b (is_op (piece_op w.of_kind w.small) o) refl
          (λ other. other_stage n (first_false _ (n == k) other))

pub cancel_frees_parts : CancelFreesParts
cancel_frees_parts w h r n = cancel_frees w h r n

pub giving_takes_part : GivingTakesPart
giving_takes_part w h o k n is = part_now w o k h is n (holds_buffer o) (k == n) refl refl

pub giving_sends_part : GivingSendsPart
giving_sends_part w h o k n is = away_now w o k h is n (holds_buffer o) (k == n) refl refl
