-- What a job that comes back changes of the pieces that hold a part.
use Rattle.std.proofs.Common.{◌≡◌, ◌∙◌, ◌==◌, ◌&&◌, ◌||◌, ℕ, Bool, true, false, ◌∷◌, not, Option, Some, None, refl}
use Rattle.std.proofs.Common.{sym, subst, ap, is_some, if◌then◌else◌}
use Rattle.std.proofs.lemmas.Bool.{eqb-true}
use Rattle.std.specs.Option.{option_or}
use Rattle.jobs.specs.Endings.{SeenCarried}
use Rattle.job_terms.specs.Buffers.{holds_buffer}
use Rattle.job_terms.specs.Ops.{is_op, op_number}
use Rattle.s3_model.specs.declared.outcomes.Cause.{Cause}
use Rattle.s3_model.specs.declared.requests.Op.{Op}
use Rattle.s3_model.specs.declared.requests.Op.TheVariants as op
use Rattle.s3_model.specs.declared.tasks.Kind.{Kind}
use Rattle.s3_model.specs.declared.tasks.Kind.TheVariants as kind
use Rattle.task_acts.specs.declared.acts.Act.{Act}
use Rattle.task_acts.specs.declared.acts.Act.TheVariants as act
use Rattle.task_acts.specs.declared.acts.Stage.{Stage}
use Rattle.task_acts.specs.declared.acts.Stage.TheVariants as at
use Rattle.task_acts.specs.declared.work.Work.{Work}
use Rattle.task_acts.specs.Failures.{carried_cause, failure_by, first_failure, first_reason, is_cut_short, is_stopped}
use Rattle.task_acts.specs.Histories.{Came, History}
use Rattle.task_acts.specs.Kept.{IsHistory}
use Rattle.task_acts.specs.Stages.{carried_stage, has_done, is_out, stage}
use Rattle.task_acts.specs.Work.{piece_op}
use Rattle.manager_moves.proofs.CountLemmas.{no}
use Rattle.manager_moves.proofs.HoldLemmas.{same_number, same_op, skip}
use Rattle.manager_moves.specs.Parts.{has_part, holds_part}
use Rattle.part_changes.proofs.Changing.{alike, away_by, away_by_op, both_false, fail_stops, first_false, flip}
use Rattle.part_changes.proofs.Changing.{is_job, its_job}
use Rattle.part_changes.proofs.Changing.{no_mover, none_holds, part_by, stopped_holds, stops_alike}
use Rattle.part_changes.proofs.Pieces.{IsPieceJob, fine_is_not_out, given_piece, goes_up, out_was_given, placed_came}
use Rattle.part_changes.proofs.Pieces.{was_given}
use Rattle.part_changes.specs.Changes.{ReturnBringsPart, ReturnChangesPart, comes_down, is_away, is_its_piece}
use Rattle.part_changes.specs.Changes.{moves_bytes, stays_here}

-- how far a job is that came
abbrev how_by : (cut stopped : Bool) → Option Cause → Stage
how_by cut stopped cause = if cut then (if stopped then at.Failed else at.Kept)
    else if is_some cause then at.Failed else at.Fine

not_out : (cut stopped : Bool) (cause : Option Cause) → is_out (how_by cut stopped cause) ≡ false
not_out true true cause = refl
not_out true false cause = refl
not_out false stopped None = refl
not_out false stopped (Some c) = refl

kept_holds : (k : Kind) (small r p : Bool) → moves_bytes k ≡ true → (goes_up (piece_op k small) ≡ true → r ≡ true)
    → holds_part k false r p at.Kept ≡ true
kept_holds kind.Upload true r p m h = rw (h refl) refl
kept_holds kind.Upload false r p m h = rw (h refl) refl
kept_holds kind.Download small r p m h = refl
kept_holds kind.Copy small r p m h = no m
kept_holds kind.RemoveObject small r p m h = no m
kept_holds kind.RemoveFile small r p m h = no m

upload_done : (r p : Bool) → holds_part kind.Upload false r p at.Fine ≡ false
upload_done true p = refl
upload_done false p = refl

fine_holds : (k : Kind) (small r p : Bool) → moves_bytes k ≡ true → (comes_down (piece_op k small) ≡ true → p ≡ false)
    → holds_part k false r p at.Fine ≡ comes_down (piece_op k small)
fine_holds kind.Upload true r p m h = upload_done r p
fine_holds kind.Upload false r p m h = upload_done r p
fine_holds kind.Download small r p m h = rw (h refl) refl
fine_holds kind.Copy small r p m h = no m
fine_holds kind.RemoveObject small r p m h = no m
fine_holds kind.RemoveFile small r p m h = no m

is_get : (o : Op) → comes_down o ≡ true → o ≡ op.Get
is_get op.Get e = refl
is_get op.Head e = no e
is_get op.Put e = no e
is_get op.Copy e = no e
is_get op.Delete e = no e
is_get op.Create e = no e
is_get op.Part e = no e
is_get op.PartCopy e = no e
is_get op.Complete e = no e
is_get op.Abort e = no e
is_get op.List e = no e
is_get op.Buckets e = no e

done_was_given : (how : Stage) → has_done how ≡ true → was_given how ≡ true
done_was_given at.Fine e = refl
done_was_given at.Waiting e = no e
done_was_given at.Out e = no e
done_was_given at.Kept e = no e
done_was_given at.Again e = no e
done_was_given at.Failed e = no e

not_so : (b : Bool) → (b ≡ true → false ≡ true) → b ≡ false
not_so true h = no (h refl)
not_so false h = refl

module _ (w : Work) (h : History) (c : SeenCarried) (is : IsHistory w (Came c ∷ h)) where
  abbrev o : Op
  o = c.job.id.op

  abbrev k : ℕ
  k = c.job.id.number

  abbrev next : History
  next = Came c ∷ h

  abbrev job : ℕ → Act
  job n = act.Send (piece_op w.of_kind w.small) n

  abbrev is_its : ℕ → Bool
  is_its n = is_job w o k n

  known : holds_buffer o ≡ true → IsPieceJob w w.of_kind o k (stage w h (act.Read k))
  known b = given_piece w o k b h is.1 (out_was_given _ is.0.0)

  its : (n : ℕ) → holds_buffer o ≡ true → (k == n) ≡ true → is_its n ≡ true
  its n b e = its_job w o k n (known b).of_piece e

  came_stage : (n : ℕ) → is_its n ≡ true → stage w next (job n) ≡ carried_stage w (is_stopped w h) c
  came_stage n e = ap (λ (b : Bool). if b then carried_stage w (is_stopped w h) c else stage w h (job n)) e

  other_stage : (n : ℕ) → is_its n ≡ false → stage w next (job n) ≡ stage w h (job n)
  other_stage n e = skip (is_its n) _ _ e

  -- ---- parts that are away

  away_now : (n : ℕ) (b d : Bool) → holds_buffer o ≡ b → (k == n) ≡ d
      → is_away w next n ≡ (if b && d then false else is_away w h n)
  away_now n true true b e =
      ap (λ (x : Stage). away_by w x) (came_stage n (its n b e))
      ∙ both_false (moves_bytes w.of_kind) _ (not_out (is_cut_short w c) (is_stopped w h) (carried_cause w c))
  away_now n true false b e =
      ap (λ (x : Stage). away_by w x) (other_stage n (both_false _ (n == k) (flip k n false e)))
  away_now n false d b e =
      away_by_op w o (stage w next (job n)) (stage w h (job n)) b (is_op (piece_op w.of_kind w.small) o) refl
      (λ other. other_stage n (first_false _ (n == k) other))

  -- ---- parts that are held

  abbrev stop_by : Option Cause → Bool
  stop_by cause = is_some (option_or (first_failure w h) cause) || is_some (option_or (first_reason h) None)

  failed : (n : ℕ) (why : Cause) → failure_by w (Came c) ≡ Some why → has_part w next n ≡ is_away w next n
  failed n why e =
      ap (λ (t : Bool). part_by w t (stage w h (act.Read n)) (stage w h (act.Place n)) (stage w next (job n)))
      (ap (λ (x : Option Cause). stop_by x) e ∙ fail_stops (first_failure w h) why _)
      ∙ stopped_holds w.of_kind (has_done (stage w h (act.Read n))) (has_done (stage w h (act.Place n)))
      (stage w next (job n))

  module _ (fine : failure_by w (Came c) ≡ None) (n : ℕ) where
    same_stop : is_stopped w next ≡ is_stopped w h
    same_stop =
        ap (λ (x : Option Cause). stop_by x) fine ∙ stops_alike (first_failure w h) (first_reason h)

    with_job : (how : Stage) → stage w next (job n) ≡ how
        → has_part w next n ≡ part_by w (is_stopped w h) (stage w h (act.Read n)) (stage w h (act.Place n)) how
    with_job how e =
        alike w (is_stopped w next) (is_stopped w h) (stage w h (act.Read n)) (stage w h (act.Read n))
        (stage w h (act.Place n)) (stage w h (act.Place n)) (stage w next (job n)) how same_stop refl refl e

    part_by_op : holds_buffer o ≡ false → (d : Bool) → is_op (piece_op w.of_kind w.small) o ≡ d
        → has_part w next n ≡ has_part w h n
    part_by_op b false e = with_job (stage w h (job n)) (other_stage n (first_false _ (n == k) e))
    part_by_op b true e =
        let none = no_mover w o b e (moves_bytes w.of_kind) refl in
        let read = has_done (stage w h (act.Read n)) in
        let placed = has_done (stage w h (act.Place n)) in
        none_holds w.of_kind (is_stopped w next) read placed (stage w next (job n)) none
        ∙ sym (none_holds w.of_kind (is_stopped w h) read placed (stage w h (job n)) none)

    module _ (b : holds_buffer o ≡ true) (same : (k == n) ≡ true) where
      was_read : goes_up (piece_op w.of_kind w.small) ≡ true → has_done (stage w h (act.Read n)) ≡ true
      was_read u =
          let read = (known b).was_read (subst (λ (x : Op). goes_up x ≡ true) (known b).of_piece u) in
          subst (λ (x : ℕ). has_done (stage w h (act.Read x)) ≡ true) (eqb-true k n same) (ap has_done read)

      -- a piece whose Get is out was not placed
      not_placed : comes_down (piece_op w.of_kind w.small) ≡ true → has_done (stage w h (act.Place n)) ≡ false
      not_placed d =
          let get : o ≡ op.Get = is_get o (subst (λ (x : Op). comes_down x ≡ true) (known b).of_piece d) in
          not_so _ (λ e. fine_is_not_out (stage w h (act.Send op.Get n)) (placed_came w n h is.1 (done_was_given _ e))
          (subst (λ (x : ℕ). is_out (stage w h (act.Send op.Get x)) ≡ true) (eqb-true k n same)
          (subst (λ (x : Op). is_out (stage w h (act.Send x k)) ≡ true) get is.0.0)))

      by_ending : (cut t : Bool) (cause : Option Cause) → (if cut then None else cause) ≡ None
          → part_by w t (stage w h (act.Read n)) (stage w h (act.Place n)) (how_by cut t cause)
          ≡ (not t && (cut || comes_down o))
      by_ending cut true cause e =
          stopped_holds w.of_kind (has_done (stage w h (act.Read n))) (has_done (stage w h (act.Place n)))
          (how_by cut true cause)
          ∙ both_false (moves_bytes w.of_kind) _ (not_out cut true cause)
      by_ending true false cause e =
          kept_holds w.of_kind w.small (has_done (stage w h (act.Read n))) (has_done (stage w h (act.Place n)))
          (known b).moves was_read
      by_ending false false None e =
          fine_holds w.of_kind w.small (has_done (stage w h (act.Read n))) (has_done (stage w h (act.Place n)))
          (known b).moves not_placed
          ∙ ap comes_down (known b).of_piece
      by_ending false false (Some why) e = no (sym (ap is_some e))

      of_its_piece : has_part w next n ≡ stays_here w h c
      of_its_piece =
          with_job (carried_stage w (is_stopped w h) c) (came_stage n (its n b same))
          ∙ by_ending (is_cut_short w c) (is_stopped w h) (carried_cause w c) fine

    part_now : (b d : Bool) → holds_buffer o ≡ b → (k == n) ≡ d
        → has_part w next n ≡ (if b && d then stays_here w h c else has_part w h n)
    part_now true true b e = of_its_piece b e
    part_now true false b e = with_job (stage w h (job n)) (other_stage n (both_false _ (n == k) (flip k n false e)))
    part_now false d b e = part_by_op b (is_op (piece_op w.of_kind w.small) o) refl

  changes : (n : ℕ) (x : Option Cause) → failure_by w (Came c) ≡ x
      → has_part w next n
      ≡ (if is_some x then is_away w next n else if is_its_piece c n then stays_here w h c else has_part w h n)
  changes n (Some why) e = failed n why e
  changes n None e = part_now e n (holds_buffer o) (k == n) refl refl

pub return_changes_part : ReturnChangesPart
return_changes_part w h c n is = changes w h c is n (failure_by w (Came c)) refl

pub return_brings_part : ReturnBringsPart
return_brings_part w h c n is = away_now w h c is n (holds_buffer c.job.id.op) (c.job.id.number == n) refl refl
