-- The table of parts as one task hears of a cancel.
use Rattle.std.proofs.Common.{◌≡◌, ◌≢◌, ◌∙◌, ◌+◌, ◌==◌, ◌&&◌, ◌||◌, ◌∷◌, ℕ, Bool, true, false, List, Option, Some, None}
use Rattle.std.proofs.Common.{refl, sym, subst, ap, arith, is_some, nat_lt, not, slice_get}
use Rattle.std.specs.Option.{option_or}
use Rattle.std.proofs.lemmas.Bool.{eqb-true, le-ltb, lt-ltb, ltb-false, ltb-true}
use Rattle.s3_model.specs.declared.bytes.Part.{Part}
use Rattle.s3_model.specs.declared.outcomes.Cause.{Cause}
use Rattle.s3_model.specs.declared.outcomes.Reason.{Reason}
use Rattle.task_acts.specs.declared.work.Work.{Work}
use Rattle.task_acts.specs.Failures.{first_failure, first_reason, is_stopped}
use Rattle.task_acts.specs.Histories.{Cancelled, History}
use Rattle.task_acts.specs.Kept.{kept_job}
use Rattle.task_acts.specs.Stages.{is_out, stage}
use Rattle.task_acts.specs.Work.{is_piece, piece_op}
use Rattle.held_parts.specs.Held.{SeenParts, held_at}
use Rattle.kept_jobs.specs.Slots.{job_at}
use Rattle.manager_moves.proofs.CountLemmas.{no}
use Rattle.manager_moves.specs.Laws.{IsRun}
use Rattle.manager_moves.specs.Parts.{is_kept}
use Rattle.manager_moves.specs.Runs.{Events, Shared, Stopped, share}
use Rattle.manager_parts.specs.Counts.{holds_of}
use Rattle.part_changes.proofs.Changing.{cancel_frees_parts}
use Rattle.part_changes.specs.Changes.{is_away, moves_bytes}
use Rattle.part_tables.proofs.Tables.{alike_unfreed}
use Rattle.part_tables.specs.Tables.{IsFreed, IsTableBut, Slots, away_in, away_of, is_cancelled, is_gone, job_of}
use Rattle.task_core.specs.Machine.{SeenTask}
use Rattle.move_laws.specs.Cancelling.{is_to_hear}
use Rattle.move_laws.specs.Follows.{IsTaskIn}
use Rattle.move_laws.proofs.FreedParts.{are_with_jobs, freed_settles}
use Rattle.move_laws.specs.Freed.{AreWithJobs, keeps_part}

-- ---- a task that is still to hear

stops_by : (a : Option Cause) (b : Option Reason) (reason : Reason)
    → (is_some (option_or a None) || is_some (option_or b (Some reason))) ≡ true
stops_by (Some why) b reason = refl
stops_by None (Some q) reason = refl
stops_by None None reason = refl

pub cancel_stops : (w : Work) (h : History) (reason : Reason) → is_stopped w (Cancelled reason ∷ h) ≡ true
cancel_stops w h reason = stops_by (first_failure w h) (first_reason h) reason

and_true : (b : Bool) → (b && true) ≡ b
and_true true = refl
and_true false = refl

and_false : (b : Bool) → (b && false) ≡ false
and_false true = refl
and_false false = refl

passed : (less same less_now c : Bool) → not less_now ≡ (not less && not same)
    → (not less_now && c) ≡ ((not less && c) && not same)
passed less same less_now c e = ap (λ (b : Bool). b && c) e ∙ by less same c
  where
    by : (less same c : Bool) → ((not less && not same) && c) ≡ ((not less && c) && not same)
    by true same c = refl
    by false true true = refl
    by false true false = refl
    by false false true = refl
    by false false false = refl

not_below : (task t : ℕ) (less same : Bool) → nat_lt t task ≡ less → (task == t) ≡ same
    → not (nat_lt t (task + 1)) ≡ (not less && not same)
not_below task t true same l e = ap not (lt-ltb t (task + 1) (let b = ltb-true t task l in omega arith))
not_below task t false true l e = ap not (lt-ltb t (task + 1) (let b = eqb-true task t e in omega arith))
not_below task t false false l e =
    ap not (le-ltb t (task + 1) (let b = ltb-false t task l in let c : task ≢ t = grind arith in omega arith))

pub next_hears : (works : List Work) (events : Events) (task t : ℕ)
    → (is_to_hear works events task t && not (task == t)) ≡ is_to_hear works events (task + 1) t
next_hears works events task t =
    sym (passed (nat_lt t task) (task == t) (nat_lt t (task + 1)) (is_cancelled works events t)
    (not_below task t (nat_lt t task) (task == t) refl refl))

-- ---- one task is settled

module _ (works : List Work) (unfreed : ℕ → Bool) (after : Events) (slots : Slots) (task : ℕ)
    (table : IsTableBut unfreed works after slots)
    (own_away : (n : ℕ) → is_gone (held_at slots task n) ≡ away_of false (slice_get works task) after task n)
    (own_held : (n : ℕ) → is_some (held_at slots task n) ≡ holds_of (slice_get works task) after task n) where
  away_by : (t n : ℕ) (b : Bool) → (task == t) ≡ b
      → is_gone (held_at slots t n) ≡ away_of (unfreed t && not b) (slice_get works t) after t n
  away_by t n true e =
      subst (λ (x : ℕ). is_gone (held_at slots x n) ≡ away_of false (slice_get works x) after x n)
      (eqb-true task t e) (own_away n)
      ∙ ap (λ (u : Bool). away_of u (slice_get works t) after t n) (sym (and_false (unfreed t)))
  away_by t n false e =
      table.away t n ∙ ap (λ (u : Bool). away_of u (slice_get works t) after t n) (sym (and_true (unfreed t)))

  held_by : (t n : ℕ) (b : Bool) → (task == t) ≡ b → (unfreed t && not b) ≡ false
      → is_some (held_at slots t n) ≡ holds_of (slice_get works t) after t n
  held_by t n true e u =
      subst (λ (x : ℕ). is_some (held_at slots x n) ≡ holds_of (slice_get works x) after x n) (eqb-true task t e)
      (own_held n)
  held_by t n false e u = table.held t n (sym (and_true (unfreed t)) ∙ u)

  one_settled : IsTableBut (λ t. unfreed t && not (task == t)) works after slots
  one_settled = record {
    away = λ t n. away_by t n (task == t) refl;
    held = λ t n u. held_by t n (task == t) refl u;
  }

-- ---- a task to which the cancel comes

no_away : (piece moves out more : Bool) → false ≡ (piece && (moves && (out || more)))
    → (piece && (moves && out)) ≡ false
no_away false moves out more e = refl
no_away true false out more e = refl
no_away true true true more e = no e
no_away true true false more e = refl

away_stopped : (piece moves out kept stops : Bool) → stops ≡ true
    → (piece && (moves && (out || (not (not false && stops) && kept)))) ≡ (piece && (moves && out))
away_stopped piece moves true kept stops e = refl
away_stopped piece moves false kept true e = refl
away_stopped piece moves false kept false e = no e

pub is_none : (x : Option (Option Part)) → is_some x ≡ false → x ≡ None
is_none None e = refl
is_none (Some part) e = no (sym e)

module _ (s : Shared) (events : Events) (reason : Reason) (run : IsRun s (Stopped reason ∷ events)) (task : ℕ)
    (w : Work) (there : slice_get s.works task ≡ Some w) (slots : Slots)
    (table : IsTableBut (is_to_hear s.works events task) s.works (Stopped reason ∷ events) slots) where
  abbrev h : History
  h = share w task events

  abbrev after : Events
  after = Stopped reason ∷ events

  abbrev hears : ℕ → Bool
  hears t = is_to_hear s.works events task t

  abbrev IsTold : Slots → Type 0
  IsTold now = IsTableBut (is_to_hear s.works events (task + 1)) s.works after now

  told : (now : Slots) → IsTableBut (λ t. hears t && not (task == t)) s.works after now → IsTold now
  told now settled =
      alike_unfreed (λ t. hears t && not (task == t)) (is_to_hear s.works events (task + 1)) s.works after now
      (λ t. next_hears s.works events task t) settled

  -- what the table says of the task
  its_away : (n : ℕ) → is_gone (held_at slots task n) ≡ away_in (hears task) w (Cancelled reason ∷ h) n
  its_away n = table.away task n ∙ ap (λ (o : Option Work). away_of (hears task) o after task n) there

  -- ---- it holds no part

  module _ (none : (n : ℕ) → held_at slots task n ≡ None) where
    not_out : (n : ℕ) → (is_piece w n && is_away w h n) ≡ false
    not_out n = no_away (is_piece w n) (moves_bytes w.of_kind) (is_out (stage w h (job_of w n))) _
        (sym (ap is_gone (none n)) ∙ its_away n)

    no_more_away : (n : ℕ) → is_gone (held_at slots task n) ≡ away_of false (slice_get s.works task) after task n
    no_more_away n =
        ap is_gone (none n)
        ∙ sym (ap (λ (o : Option Work). away_of false o after task n) there
        ∙ away_stopped (is_piece w n) (moves_bytes w.of_kind) (is_out (stage w h (job_of w n)))
        (is_kept (stage w h (job_of w n))) (is_stopped w (Cancelled reason ∷ h)) (cancel_stops w h reason)
        ∙ not_out n)

    holds_no_more : (n : ℕ) → is_some (held_at slots task n) ≡ holds_of (slice_get s.works task) after task n
    holds_no_more n =
        ap (λ (x : Option (Option Part)). is_some x) (none n)
        ∙ sym (ap (λ (o : Option Work). holds_of o after task n) there
        ∙ ap (λ (b : Bool). is_piece w n && b) (cancel_frees_parts w h reason n) ∙ not_out n)

    pub empty_told : IsTold slots
    empty_told = told slots (one_settled s.works hears after slots task table no_more_away holds_no_more)

  -- ---- it has stopped before

  module _ (stopped : hears task ≡ false) where
    still_away : (n : ℕ) → is_gone (held_at slots task n) ≡ away_of false (slice_get s.works task) after task n
    still_away n =
        table.away task n ∙ ap (λ (u : Bool). away_of u (slice_get s.works task) after task n) stopped

    pub stopped_told : IsTold slots
    stopped_told = told slots
        (one_settled s.works hears after slots task table still_away (λ n. table.held task n stopped))

  -- ---- its parts are freed

  module _ (room : ℕ) (t : SeenTask) (is : IsTaskIn room w h t) (going : is_stopped w h ≡ false) where
    kept_is : (n : ℕ) → job_at t.kept (piece_op w.of_kind w.small) n ≡ kept_job w (Cancelled reason ∷ h) (job_of w n)
    kept_is n =
        is.stands.kept_are (piece_op w.of_kind w.small) n
        ∙ ap (λ (x : History). kept_job w x (job_of w n)) (is.alike.same going)

    pub told_with_jobs : hears task ≡ true → (parts : SeenParts) → parts.slots ≡ slots → parts.pool.room ≡ room
        → AreWithJobs parts task t
    told_with_jobs waits =
        are_with_jobs s after run task w there hears slots table room t is.stands.work_is kept_is is.parts waits

    pub freed_told : (now : Slots) → IsFreed task (keeps_part t) slots now → IsTold now
    freed_told now is_freed = told now
        (freed_settles s after run task w there hears slots table room t is.stands.work_is kept_is is.parts
        (cancel_stops w h reason) now is_freed)
