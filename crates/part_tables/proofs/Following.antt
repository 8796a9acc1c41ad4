-- The table after each event of a run.
use Rattle.std.proofs.Common.{◌≡◌, ◌∙◌, ◌==◌, ◌&&◌, ◌||◌, ℕ, Bool, true, false, List, ◌∷◌, Option, Some, None, refl}
use Rattle.std.proofs.Common.{sym, subst, ap, is_some, not, slice_get, if◌then◌else◌}
use Rattle.std.proofs.lemmas.Bool.{and_parts, eqb-true}
use Rattle.std.specs.Option.{option_or}
use Rattle.jobs.specs.Endings.{SeenCarried}
use Rattle.job_terms.specs.Buffers.{holds_buffer}
use Rattle.job_terms.specs.Ops.{is_op}
use Rattle.s3_model.specs.declared.bytes.Part.{Part}
use Rattle.s3_model.specs.declared.outcomes.Cause.{Cause}
use Rattle.s3_model.specs.declared.outcomes.Reason.{Reason}
use Rattle.s3_model.specs.declared.requests.Op.{Op}
use Rattle.task_acts.specs.declared.acts.Act.{Act}
use Rattle.task_acts.specs.declared.acts.Act.TheVariants as act
use Rattle.task_acts.specs.declared.acts.FileCame.{FileCame}
use Rattle.task_acts.specs.declared.acts.Stage.{Stage}
use Rattle.task_acts.specs.declared.acts.Stage.TheVariants as at
use Rattle.task_acts.specs.declared.work.Work.{Work}
use Rattle.task_acts.specs.Failures.{carried_cause, failure_by, file_cause, first_failure, first_reason, is_cut_short}
use Rattle.task_acts.specs.Failures.{is_stopped, reason_by}
use Rattle.task_acts.specs.Histories.{Came, Gave, Happening, History, Returned, Taken}
use Rattle.task_acts.specs.Kept.{IsHistory, is_file_act, kept_job}
use Rattle.task_acts.specs.Kept as again
use Rattle.task_acts.specs.Stages.{carried_stage, is_out, stage}
use Rattle.task_acts.specs.Work.{is_piece, piece_op}
use Rattle.manager_moves.proofs.CountLemmas.{no}
use Rattle.manager_moves.proofs.HoldLemmas.{same_number, skip}
use Rattle.manager_moves.proofs.MoveLaws.{given}
use Rattle.manager_moves.proofs.ShareLaws.{shares_are_histories}
use Rattle.manager_moves.specs.Laws.{IsRun}
use Rattle.manager_moves.specs.Parts.{has_part}
use Rattle.manager_moves.specs.Runs.{Back, Called, Events, Lined, Made, Sent, Shared, is_task, share, with_taken}
use Rattle.held_parts.specs.declared.held.Held.{Held}
use Rattle.held_parts.specs.Held.{held_at}
use Rattle.part_changes.proofs.Calling.{call_changes_part, came_fine, waits}
use Rattle.part_changes.proofs.Changing.{both_false, both_true, fail_stops, first_false, flip, giving_sends_part}
use Rattle.part_changes.proofs.Changing.{giving_takes_part, is_job, its_job, no_mover, stopped_alike, stops_alike}
use Rattle.part_changes.proofs.Pieces.{IsPieceJob, given_piece, named, out_was_given, placing, reading, was_given}
use Rattle.part_changes.proofs.Returning.{return_brings_part, return_changes_part}
use Rattle.part_changes.specs.Changes.{after_call, called_in, given_in, is_away, is_its_piece, is_part_job, moves_bytes}
use Rattle.part_changes.specs.Changes.{comes_down, stays_here}
use Rattle.part_tables.proofs.Tables.{alike_unfreed, none_with_fine, none_with_waiting, one_task, put_apart, put_here}
use Rattle.part_tables.proofs.Tables.{stopped_has, unchanged}
use Rattle.part_tables.specs.Tables.{CallingPutsPart, IsCallPut, IsPutWhere, IsTableBut, IsTableOf, OthersMoveNoPart}
use Rattle.part_tables.specs.Tables.{ReturningBringsPart, SendingTakesPart}
use Rattle.part_tables.specs.Tables.{has_stopped, is_gone, is_read, is_with_job, job_of, none_unfreed, stops_now}

pub others_move_no_part : OthersMoveNoPart
others_move_no_part works events slots fits table = (
  unchanged works events (Made fits ∷ events) slots slots (λ v t. refl) table,
  unchanged works events (Lined ∷ events) slots slots (λ v t. refl) table,
)

-- ---- a task that stops

still_by : (a b : Option Cause) (c d : Option Reason) → (is_some a || is_some c) ≡ true
    → (is_some (option_or a b) || is_some (option_or c d)) ≡ true
still_by (Some why) b c d e = refl
still_by None None (Some r) d e = refl
still_by None (Some why) (Some r) d e = refl
still_by None b None d e = no e

-- a task that has stopped stays so
still_stopped : (w : Work) (event : Happening) (h : History) → is_stopped w h ≡ true → is_stopped w (event ∷ h) ≡ true
still_stopped w event h e =
    still_by (first_failure w h) (failure_by w event) (first_reason h) (reason_by event) e

-- what stops a task
failure_stops : (w : Work) (event : Happening) (h : History) (why : Cause) → failure_by w event ≡ Some why
    → is_stopped w (event ∷ h) ≡ true
failure_stops w event h why e =
    ap (λ (x : Option Cause). is_some (option_or (first_failure w h) x) || is_some (first_reason (event ∷ h))) e
    ∙ fail_stops (first_failure w h) why _

-- whether it had stopped before, by whether it has and by whether it has just now
stopped_before : (before after : Bool) → (before ≡ true → after ≡ true)
    → (not (after && not before) && after) ≡ before
stopped_before true true h = refl
stopped_before true false h = no (h refl)
stopped_before false true h = refl
stopped_before false false h = refl

was_stopped : (before after : Bool) → after ≡ true → (after && not before) ≡ false → before ≡ true
was_stopped true after a e = refl
was_stopped false true a e = no (sym e)
was_stopped false false a e = no a

-- ---- a part that is with its job

or_true : (a b : Bool) → a ≡ true → (a || b) ≡ true
or_true true b e = refl
or_true false b e = no e

module _ (w : Work) where
  pub with_out : (t : Bool) (how : Stage) → moves_bytes w.of_kind ≡ true → is_out how ≡ true
      → is_with_job w.of_kind t how ≡ true
  with_out t how m e = both_true (moves_bytes w.of_kind) _ m (or_true (is_out how) _ e)

  with_alike : (t u : Bool) (now before : Stage) → t ≡ u → now ≡ before
      → is_with_job w.of_kind t now ≡ is_with_job w.of_kind u before
  with_alike t u now before e f =
      ap (λ (x : Bool). is_with_job w.of_kind x now) e ∙ ap (λ (x : Stage). is_with_job w.of_kind u x) f

  -- a job that takes no part moves none
  with_by_op : (o : Op) (t u : Bool) (now before : Stage) → holds_buffer o ≡ false → t ≡ u → (c : Bool)
      → is_op (piece_op w.of_kind w.small) o ≡ c → (c ≡ false → now ≡ before)
      → is_with_job w.of_kind t now ≡ is_with_job w.of_kind u before
  with_by_op o t u now before b same false e h = with_alike t u now before same (h refl)
  with_by_op o t u now before b same true e h =
      let none = no_mover w o b e (moves_bytes w.of_kind) refl in
      first_false (moves_bytes w.of_kind) _ none ∙ sym (first_false (moves_bytes w.of_kind) _ none)

  with_ending : (cut stopped : Bool) (cause : Option Cause) → moves_bytes w.of_kind ≡ true
      → is_with_job w.of_kind stopped (if cut then (if stopped then at.Failed else at.Kept)
      else if is_some cause then at.Failed else at.Fine)
      ≡ (cut && not stopped)
  with_ending true true cause m = both_false (moves_bytes w.of_kind) _ refl
  with_ending true false cause m = both_true (moves_bytes w.of_kind) _ m refl
  with_ending false true None m = both_false (moves_bytes w.of_kind) _ refl
  with_ending false false None m = both_false (moves_bytes w.of_kind) _ refl
  with_ending false true (Some why) m = both_false (moves_bytes w.of_kind) _ refl
  with_ending false false (Some why) m = both_false (moves_bytes w.of_kind) _ refl

  -- ---- as a job is given

  taken_stage : (b : Bool) (o : Op) (k : ℕ) (h : History) (a : Act)
      → stage w (if b then Taken o k ∷ h else h) a ≡ stage w h a
  taken_stage true o k h a = refl
  taken_stage false o k h a = refl

  taken_stopped : (b : Bool) (o : Op) (k : ℕ) (h : History)
      → is_stopped w (if b then Taken o k ∷ h else h) ≡ is_stopped w h
  taken_stopped true o k h = stops_alike (first_failure w h) (first_reason h)
  taken_stopped false o k h = refl

  module _ (o : Op) (k : ℕ) (h : History) where
    abbrev was_kept : Bool
    was_kept = is_some (kept_job w h (act.Send o k))

    same_stop : is_stopped w (given_in w o k h) ≡ is_stopped w h
    same_stop = stopped_alike w (with_taken w o k h) (act.Send o k) ∙ taken_stopped was_kept o k h

    other_given : (n : ℕ) → is_job w o k n ≡ false
        → stage w (given_in w o k h) (job_of w n) ≡ stage w h (job_of w n)
    other_given n e = skip (is_job w o k n) _ _ e ∙ taken_stage was_kept o k h (job_of w n)

    module _ (is : IsHistory w (given_in w o k h)) where
      goes_out : (n : ℕ) → is_part_job o k n ≡ true → is_away w (given_in w o k h) n ≡ true
      goes_out n e =
          giving_sends_part w h o k n is ∙ ap (λ (b : Bool). if b then true else is_away w h n) e

      sends : (n : ℕ) (b c : Bool) → holds_buffer o ≡ b → (k == n) ≡ c
          → is_with_job w.of_kind (is_stopped w (given_in w o k h)) (stage w (given_in w o k h) (job_of w n))
          ≡ (if b && c then true else is_with_job w.of_kind (is_stopped w h) (stage w h (job_of w n)))
      sends n true true b e =
          let out = and_parts (moves_bytes w.of_kind) (is_out (stage w (given_in w o k h) (job_of w n)))
          (goes_out n (both_true (holds_buffer o) (k == n) b e)) in
          with_out (is_stopped w (given_in w o k h)) (stage w (given_in w o k h) (job_of w n)) out.0 out.1
      sends n true false b e = with_alike (is_stopped w (given_in w o k h)) (is_stopped w h)
          (stage w (given_in w o k h) (job_of w n)) (stage w h (job_of w n)) same_stop
          (other_given n (both_false _ (n == k) (flip k n false e)))
      sends n false c b e = with_by_op o (is_stopped w (given_in w o k h)) (is_stopped w h)
          (stage w (given_in w o k h) (job_of w n)) (stage w h (job_of w n)) b same_stop
          (is_op (piece_op w.of_kind w.small) o) refl
          (λ other. other_given n (first_false _ (n == k) other))

  -- ---- as it comes back

  module _ (h : History) (c : SeenCarried) (is : IsHistory w (Came c ∷ h)) where
    abbrev is_its : ℕ → Bool
    is_its n = is_job w c.job.id.op c.job.id.number n

    known : holds_buffer c.job.id.op ≡ true
        → IsPieceJob w w.of_kind c.job.id.op c.job.id.number (stage w h (act.Read c.job.id.number))
    known b = given_piece w c.job.id.op c.job.id.number b h is.1 (out_was_given _ is.0.0)

    own_stage : (n : ℕ) → is_its n ≡ true → stage w (Came c ∷ h) (job_of w n) ≡ carried_stage w (is_stopped w h) c
    own_stage n e = ap (λ (b : Bool). if b then carried_stage w (is_stopped w h) c else stage w h (job_of w n)) e

    other_came : (n : ℕ) → is_its n ≡ false → stage w (Came c ∷ h) (job_of w n) ≡ stage w h (job_of w n)
    other_came n e = skip (is_its n) _ _ e

    brings : (n : ℕ) (b d : Bool) → holds_buffer c.job.id.op ≡ b → (c.job.id.number == n) ≡ d
        → is_with_job w.of_kind (is_stopped w h) (stage w (Came c ∷ h) (job_of w n))
        ≡ (if b && d then again.is_kept w (is_stopped w h) c
        else is_with_job w.of_kind (is_stopped w h) (stage w h (job_of w n)))
    brings n true true b e =
        ap (λ (x : Stage). is_with_job w.of_kind (is_stopped w h) x)
        (own_stage n (its_job w c.job.id.op c.job.id.number n (known b).of_piece e))
        ∙ with_ending (is_cut_short w c) (is_stopped w h) (carried_cause w c) (known b).moves
    brings n true false b e = ap (λ (x : Stage). is_with_job w.of_kind (is_stopped w h) x)
        (other_came n (both_false _ (n == c.job.id.number) (flip c.job.id.number n false e)))
    brings n false d b e = with_by_op c.job.id.op (is_stopped w h) (is_stopped w h)
        (stage w (Came c ∷ h) (job_of w n)) (stage w h (job_of w n)) b refl
        (is_op (piece_op w.of_kind w.small) c.job.id.op) refl
        (λ other. other_came n (first_false _ (n == c.job.id.number) other))

  -- ---- as a call on files comes back

  call_stage : (h : History) (r : FileCame) (n : ℕ) (a : Act) → is_file_act a ≡ true
      → stage w (called_in a r h) (job_of w n) ≡ stage w h (job_of w n)
  call_stage h r n (act.Send o k) e = no e
  call_stage h r n (act.Read k) e = refl
  call_stage h r n act.Assemble e = refl
  call_stage h r n (act.Place k) e = refl
  call_stage h r n act.Rename e = refl
  call_stage h r n act.DropTemp e = refl
  call_stage h r n act.Remove e = refl
  call_stage h r n act.Stamp e = refl

module _ (s : Shared) (events : Events) (slots new : List (Option Held)) (table : IsTableOf s.works events slots)
    (task : ℕ)
    (w : Work) (there : slice_get s.works task ≡ Some w) where
  abbrev h : History
  h = share w task events

  -- ---- a job is given

  module _ (o : Op) (k lane : ℕ) (run : IsRun s (Sent task o k lane ∷ events))
      (put : IsPutWhere (holds_buffer o) task k (Some None) slots new) where
    sent_share : share w task (Sent task o k lane ∷ events) ≡ given_in w o k h
    sent_share = ap (λ (b : Bool). if b then given_in w o k h else h) (same_number task)

    sent_is : IsHistory w (given_in w o k h)
    sent_is = subst (λ (x : History). IsHistory w x) sent_share
        (shares_are_histories s (Sent task o k lane ∷ events) task w there run)

    sent_piece : (n : ℕ) → is_part_job o k n ≡ true → is_piece w n ≡ true
    sent_piece n e =
        let each = and_parts (holds_buffer o) (k == n) e in
        subst (λ (x : ℕ). is_piece w x ≡ true) (eqb-true k n each.1)
        (named w (with_taken w o k h) o k each.0 sent_is.0).1.piece

    sent_table : IsTableOf s.works (Sent task o k lane ∷ events) new
    sent_table = alike_unfreed (λ t. (task == t) && false) none_unfreed s.works (Sent task o k lane ∷ events) new
        (λ t. both_false (task == t) false refl)
        (one_task s.works events (Sent task o k lane ∷ events) slots new task w there
        (λ v t e. skip (task == t) _ _ e)
        (put_apart task k (Some None) slots new (holds_buffer o) put)
        (is_part_job o k) (Some None) (put_here task k (Some None) slots new (holds_buffer o) put) sent_piece false
        (λ n. ap (λ (x : History). is_with_job w.of_kind (is_stopped w x) (stage w x (job_of w n))) sent_share
        ∙ sends w o k h sent_is n (holds_buffer o) (k == n) refl refl)
        (λ e n. ap (λ (x : History). has_part w x n) sent_share ∙ giving_takes_part w h o k n sent_is) table)

  module _ (part : Option (Option Part)) where
    -- ---- a job comes back

    module _ (lane : ℕ) (c : SeenCarried) (run : IsRun s (Back lane c ∷ events)) (its : c.job.id.task ≡ Some task)
        (gone : is_gone part ≡ again.is_kept w (is_stopped w h) c)
        (wants : stops_now w task events (Back lane c ∷ events) ≡ false → is_some part ≡ stays_here w h c)
        (put : IsPutWhere (holds_buffer c.job.id.op) task c.job.id.number part slots new) where
      abbrev back_stops : Bool
      back_stops = stops_now w task events (Back lane c ∷ events)

      back_share : share w task (Back lane c ∷ events) ≡ Came c ∷ h
      back_share = ap (λ (b : Bool). if b then Came c ∷ h else h) (ap (is_task task) its ∙ same_number task)

      back_is : IsHistory w (Came c ∷ h)
      back_is = subst (λ (x : History). IsHistory w x) back_share
          (shares_are_histories s (Back lane c ∷ events) task w there run)

      back_piece : (n : ℕ) → is_its_piece c n ≡ true → is_piece w n ≡ true
      back_piece n e =
          let each = and_parts (holds_buffer c.job.id.op) (c.job.id.number == n) e in
          subst (λ (x : ℕ). is_piece w x ≡ true) (eqb-true c.job.id.number n each.1)
          (given_piece w c.job.id.op c.job.id.number each.0 h back_is.1 (out_was_given _ back_is.0.0)).piece

      -- the job of a task that had stopped brings back a part that nothing wants
      stopped_gives : is_stopped w h ≡ true → is_some part ≡ stays_here w h c → is_some part ≡ false
      stopped_gives e f = f ∙ ap (λ (t : Bool). not t && (is_cut_short w c || comes_down c.job.id.op)) e

      by_failure : back_stops ≡ false → (n : ℕ) (x : Option Cause) → failure_by w (Came c) ≡ x
          → (if is_some x then is_away w (Came c ∷ h) n
          else if is_its_piece c n then stays_here w h c else has_part w h n)
          ≡ (if is_its_piece c n then is_some part else has_part w h n)
      by_failure e n None f = ap (λ (b : Bool). if is_its_piece c n then b else has_part w h n) (sym (wants e))
      by_failure e n (Some why) f =
          let had : is_stopped w h ≡ true = was_stopped (is_stopped w h) (is_stopped w (share w task (Back lane c ∷ events)))
          (ap (λ (x : History). is_stopped w x) back_share ∙ failure_stops w (Came c) h why f) e in
          return_brings_part w h c n back_is
          ∙ ap (λ (b : Bool). if is_its_piece c n then b else is_away w h n) (sym (stopped_gives had (wants e)))
          ∙ ap (λ (b : Bool). if is_its_piece c n then is_some part else b) (sym (stopped_has w h n had))

      back_holds : back_stops ≡ false → (n : ℕ)
          → has_part w (share w task (Back lane c ∷ events)) n
          ≡ (if is_its_piece c n then is_some part else has_part w h n)
      back_holds e n =
          ap (λ (x : History). has_part w x n) back_share ∙ return_changes_part w h c n back_is
          ∙ by_failure e n (failure_by w (Came c)) refl

      back_stopped : (not back_stops && is_stopped w (share w task (Back lane c ∷ events))) ≡ is_stopped w h
      back_stopped = stopped_before (is_stopped w h) (is_stopped w (share w task (Back lane c ∷ events)))
          (λ e. ap (λ (x : History). is_stopped w x) back_share ∙ still_stopped w (Came c) h e)

      back_away : (n : ℕ) → is_with_job w.of_kind (not back_stops && is_stopped w (share w task (Back lane c ∷ events)))
          (stage w (share w task (Back lane c ∷ events)) (job_of w n))
          ≡ (if is_its_piece c n then is_gone part else is_with_job w.of_kind (is_stopped w h) (stage w h (job_of w n)))
      back_away n =
          with_alike w _ (is_stopped w h) (stage w (share w task (Back lane c ∷ events)) (job_of w n))
          (stage w (Came c ∷ h) (job_of w n)) back_stopped (ap (λ (x : History). stage w x (job_of w n)) back_share)
          ∙ brings w h c back_is n (holds_buffer c.job.id.op) (c.job.id.number == n) refl refl
          ∙ ap (λ (b : Bool). if is_its_piece c n then b
          else is_with_job w.of_kind (is_stopped w h) (stage w h (job_of w n))) (sym gone)

      back_table : IsTableBut (has_stopped w task events (Back lane c ∷ events)) s.works (Back lane c ∷ events) new
      back_table = one_task s.works events (Back lane c ∷ events) slots new task w there
          (λ v t e. skip (is_task t c.job.id.task) _ _ (ap (is_task t) its ∙ e))
          (put_apart task c.job.id.number part slots new (holds_buffer c.job.id.op) put)
          (is_its_piece c) part (put_here task c.job.id.number part slots new (holds_buffer c.job.id.op) put) back_piece
          back_stops back_away back_holds table

    -- ---- a call on files

    module _ (fine : is_gone part ≡ false) (r : FileCame) where
      abbrev is_called : Act → ℕ → Bool
      is_called (act.Read m) n = m == n
      is_called (act.Place m) n = m == n
      is_called called n = false

      call_here : (a : Act) → IsCallPut task a part slots new → (n : ℕ)
          → held_at new task n ≡ (if is_called a n then part else held_at slots task n)
      call_here (act.Read m) put n = put_here task m part slots new true put n
      call_here (act.Place m) put n = put_here task m part slots new true put n
      call_here (act.Send o k) put n = put_here task 0 part slots new false put n
      call_here act.Assemble put n = put_here task 0 part slots new false put n
      call_here act.Rename put n = put_here task 0 part slots new false put n
      call_here act.DropTemp put n = put_here task 0 part slots new false put n
      call_here act.Remove put n = put_here task 0 part slots new false put n
      call_here act.Stamp put n = put_here task 0 part slots new false put n

      call_apart : (a : Act) → IsCallPut task a part slots new → (t n : ℕ) → (task == t) ≡ false
          → held_at new t n ≡ held_at slots t n
      call_apart (act.Read m) put t n e = put_apart task m part slots new true put t n e
      call_apart (act.Place m) put t n e = put_apart task m part slots new true put t n e
      call_apart (act.Send o k) put t n e = put_apart task 0 part slots new false put t n e
      call_apart act.Assemble put t n e = put_apart task 0 part slots new false put t n e
      call_apart act.Rename put t n e = put_apart task 0 part slots new false put t n e
      call_apart act.DropTemp put t n e = put_apart task 0 part slots new false put t n e
      call_apart act.Remove put t n e = put_apart task 0 part slots new false put t n e
      call_apart act.Stamp put t n e = put_apart task 0 part slots new false put t n e

      call_piece : (a : Act) → IsHistory w (called_in a r h) → (n : ℕ) → is_called a n ≡ true → is_piece w n ≡ true
      call_piece (act.Read m) is n e =
          subst (λ (x : ℕ). is_piece w x ≡ true) (eqb-true m n e) (reading w h m is.1.0).2
      call_piece (act.Place m) is n e =
          subst (λ (x : ℕ). is_piece w x ≡ true) (eqb-true m n e) (placing w h m is.1.0).2
      call_piece (act.Send o k) is n e = no e
      call_piece act.Assemble is n e = no e
      call_piece act.Rename is n e = no e
      call_piece act.DropTemp is n e = no e
      call_piece act.Remove is n e = no e
      call_piece act.Stamp is n e = no e

      abbrev before : ℕ → Bool
      before n = is_with_job w.of_kind (is_stopped w h) (stage w h (job_of w n))

      read_away : (m n : ℕ) (c : Bool) → (m == n) ≡ c → IsHistory w (called_in (act.Read m) r h)
          → before n ≡ (if c then is_gone part else before n)
      read_away m n true e is =
          ap (λ (x : Stage). is_with_job w.of_kind (is_stopped w h) x)
          (waits w h r n m is.1.1 is.1.0 e (was_given (stage w h (job_of w n))) refl)
          ∙ none_with_waiting w.of_kind (is_stopped w h) ∙ sym fine
      read_away m n false e is = refl

      place_away : (m n : ℕ) (c : Bool) → (m == n) ≡ c → IsHistory w (called_in (act.Place m) r h)
          → before n ≡ (if c then is_gone part else before n)
      place_away m n true e is =
          ap (λ (x : Stage). is_with_job w.of_kind (is_stopped w h) x) (came_fine w h r n m is.1.1 is.1.0 e)
          ∙ none_with_fine w.of_kind (is_stopped w h) ∙ sym fine
      place_away m n false e is = refl

      call_away : (a : Act) → IsHistory w (called_in a r h) → (n : ℕ)
          → before n ≡ (if is_called a n then is_gone part else before n)
      call_away (act.Read m) is n = read_away m n (m == n) refl is
      call_away (act.Place m) is n = place_away m n (m == n) refl is
      call_away (act.Send o k) is n = refl
      call_away act.Assemble is n = refl
      call_away act.Rename is n = refl
      call_away act.DropTemp is n = refl
      call_away act.Remove is n = refl
      call_away act.Stamp is n = refl

      -- once a task has stopped, no piece is read or placed
      never : (a : Act) → IsHistory w (called_in a r h) → is_stopped w h ≡ true → (n : ℕ) → is_called a n ≡ false
      never (act.Read m) is e n = no (sym (reading w h m is.1.0).0 ∙ e)
      never (act.Place m) is e n = no (sym (placing w h m is.1.0).0 ∙ e)
      never (act.Send o k) is e n = refl
      never act.Assemble is e n = refl
      never act.Rename is e n = refl
      never act.DropTemp is e n = refl
      never act.Remove is e n = refl
      never act.Stamp is e n = refl

      call_holds : (a : Act) (n : ℕ) → is_some part ≡ is_read a
          → after_call a n (has_part w h n) ≡ (if is_called a n then is_some part else has_part w h n)
      call_holds (act.Read m) n e = ap (λ (b : Bool). if m == n then b else has_part w h n) (sym e)
      call_holds (act.Place m) n e = ap (λ (b : Bool). if m == n then b else has_part w h n) (sym e)
      call_holds (act.Send o k) n e = refl
      call_holds act.Assemble n e = refl
      call_holds act.Rename n e = refl
      call_holds act.DropTemp n e = refl
      call_holds act.Remove n e = refl
      call_holds act.Stamp n e = refl

      module _ (a : Act) (run : IsRun s (Called task a r ∷ events))
          (wants : stops_now w task events (Called task a r ∷ events) ≡ false → is_some part ≡ is_read a)
          (put : IsCallPut task a part slots new) where
        abbrev call_stops : Bool
        call_stops = stops_now w task events (Called task a r ∷ events)

        call_share : share w task (Called task a r ∷ events) ≡ called_in a r h
        call_share = ap (λ (b : Bool). if b then called_in a r h else h) (same_number task)

        call_is : IsHistory w (called_in a r h)
        call_is = subst (λ (x : History). IsHistory w x) call_share
            (shares_are_histories s (Called task a r ∷ events) task w there run)

        by_cause : call_stops ≡ false → (n : ℕ) (x : Option Cause) → file_cause a r ≡ x
            → (if is_some x then is_away w h n else after_call a n (has_part w h n))
            ≡ (if is_called a n then is_some part else has_part w h n)
        by_cause e n None f = call_holds a n (wants e)
        by_cause e n (Some why) f =
            let had : is_stopped w h ≡ true =
            was_stopped (is_stopped w h) (is_stopped w (share w task (Called task a r ∷ events)))
            (ap (λ (x : History). is_stopped w x) call_share ∙ failure_stops w (Returned a r) (Gave a ∷ h) why f) e in
            sym (stopped_has w h n had) ∙ sym (skip (is_called a n) (is_some part) (has_part w h n) (never a call_is had n))

        call_part : call_stops ≡ false → (n : ℕ)
            → has_part w (share w task (Called task a r ∷ events)) n
            ≡ (if is_called a n then is_some part else has_part w h n)
        call_part e n =
            ap (λ (x : History). has_part w x n) call_share ∙ call_changes_part w h a r n call_is
            ∙ by_cause e n (file_cause a r) refl

        call_stopped : (not call_stops && is_stopped w (share w task (Called task a r ∷ events))) ≡ is_stopped w h
        call_stopped = stopped_before (is_stopped w h) (is_stopped w (share w task (Called task a r ∷ events)))
            (λ e. ap (λ (x : History). is_stopped w x) call_share
            ∙ still_stopped w (Returned a r) (Gave a ∷ h) (still_stopped w (Gave a) h e))

        called_away : (n : ℕ)
            → is_with_job w.of_kind (not call_stops && is_stopped w (share w task (Called task a r ∷ events)))
            (stage w (share w task (Called task a r ∷ events)) (job_of w n))
            ≡ (if is_called a n then is_gone part else before n)
        called_away n =
            with_alike w _ (is_stopped w h) (stage w (share w task (Called task a r ∷ events)) (job_of w n))
            (stage w h (job_of w n)) call_stopped
            (ap (λ (x : History). stage w x (job_of w n)) call_share ∙ call_stage w h r n a call_is.0.0)
            ∙ call_away a call_is n

        call_table : IsTableBut (has_stopped w task events (Called task a r ∷ events)) s.works
            (Called task a r ∷ events) new
        call_table = one_task s.works events (Called task a r ∷ events) slots new task w there
            (λ v t e. skip (task == t) _ _ e) (call_apart a put) (is_called a) part (call_here a put)
            (call_piece a call_is) call_stops called_away call_part table

pub sending_takes_part : SendingTakesPart
sending_takes_part s events slots new task o k lane run table put =
    let g = given s events task o k lane run.0 in
    sent_table s events slots new table task g.work g.of_plan o k lane run put

pub returning_brings_part : ReturningBringsPart
returning_brings_part s events slots new lane c task w part run table its there gone wants put =
    back_table s events slots new table task w there part lane c run its gone wants put

pub calling_puts_part : CallingPutsPart
calling_puts_part s events slots new task a r w part run table there fine wants put =
    call_table s events slots new table task w there part fine r a run wants put
