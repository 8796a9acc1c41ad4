-- A job is kept where its stage says so, and the parts of a task that has stopped are freed.
use Rattle.std.proofs.Common.{◌≡◌, ◌∙◌, ◌==◌, ◌&&◌, ◌||◌, ℕ, Bool, true, false, List, [], ◌∷◌, Option, Some, None, refl}
use Rattle.std.proofs.Common.{sym, subst, ap, is_some, not, slice_get, if◌then◌else◌}
use Rattle.std.proofs.lemmas.Bool.{eqb-true}
use Rattle.jobs.specs.Endings.{SeenCarried}
use Rattle.jobs.specs.Jobs.{SeenJob}
use Rattle.s3_model.specs.declared.bytes.Part.{Part}
use Rattle.s3_model.specs.declared.outcomes.Cause.{Cause}
use Rattle.s3_model.specs.declared.requests.Op.{Op}
use Rattle.task_acts.specs.declared.acts.Act.{Act}
use Rattle.task_acts.specs.declared.acts.Act.TheVariants as act
use Rattle.task_acts.specs.declared.acts.FileCame.{FileCame}
use Rattle.task_acts.specs.declared.acts.Stage.{Stage}
use Rattle.task_acts.specs.declared.acts.Stage.TheVariants as at
use Rattle.task_acts.specs.declared.work.Work.{Work}
use Rattle.task_acts.specs.Failures.{carried_cause, is_cut_short, is_stopped}
use Rattle.task_acts.specs.Histories.{Came, Gave, History, Returned, Taken, is_act, sent}
use Rattle.task_acts.specs.Kept.{again, kept_job}
use Rattle.task_acts.specs.Stages.{carried_stage, given_stage, is_out, stage}
use Rattle.task_acts.specs.Work.{is_piece, piece_op}
use Rattle.manager_moves.proofs.CountLemmas.{no}
use Rattle.manager_moves.proofs.HoldLemmas.{same_number}
use Rattle.manager_moves.proofs.PartLaws.{nothing}
use Rattle.manager_moves.specs.Laws.{IsRun}
use Rattle.manager_moves.specs.Moves.{call_of, next_move}
use Rattle.manager_moves.specs.Parts.{is_kept}
use Rattle.manager_moves.specs.Runs.{Back, Called, Events, Lined, Made, Sent, Shared, Stopped, is_task, share, with_taken}
use Rattle.held_parts.specs.declared.held.Held.{Held}
use Rattle.held_parts.specs.Held.{held_at, inner}
use Rattle.manager_parts.specs.Counts.{holds_of}
use Rattle.part_changes.specs.Changes.{is_away, moves_bytes}
use Rattle.part_tables.proofs.Tables.{stopped_has}
use Rattle.part_tables.specs.Tables.{AreKept, FreeingSettlesTask, IsFreed, IsTableBut, KeptJobsWait, away_in, away_of}
use Rattle.part_tables.specs.Tables.{is_gone, job_of}

-- ---- kept jobs

abbrev WaitsIn : Work → Act → History → Type 0
WaitsIn w a h = is_some (kept_job w h a) ≡ is_kept (stage w h a)

given_is_not_kept : (how : Stage) → is_kept (given_stage how) ≡ false
given_is_not_kept at.Waiting = refl
given_is_not_kept at.Out = refl
given_is_not_kept at.Kept = refl
given_is_not_kept at.Again = refl
given_is_not_kept at.Fine = refl
given_is_not_kept at.Failed = refl

by_ending : (cut stopped : Bool) (cause : Option Cause) (job : SeenJob)
    → is_some (if cut && not stopped then Some job else None)
    ≡ is_kept (if cut then (if stopped then at.Failed else at.Kept) else if is_some cause then at.Failed else at.Fine)
by_ending true true cause job = refl
by_ending true false cause job = refl
by_ending false stopped None job = refl
by_ending false stopped (Some why) job = refl

module _ (w : Work) (o : Op) (k : ℕ) where
  abbrev a : Act
  a = act.Send o k

  came_by : (h : History) (c : SeenCarried) (b : Bool) → WaitsIn w a h
      → is_some (if b then (if is_cut_short w c && not (is_stopped w h) then Some (again c) else None) else kept_job w h a)
      ≡ is_kept (if b then carried_stage w (is_stopped w h) c else stage w h a)
  came_by h c true e = by_ending (is_cut_short w c) (is_stopped w h) (carried_cause w c) (again c)
  came_by h c false e = e

  -- a job that was taken is given at once
  taken_by : (p : Op) (m : ℕ) (h : History) (taken b : Bool) (how : Stage) → is_act a (act.Send p m) ≡ b → WaitsIn w a h
      → is_some (if b then None else kept_job w (if taken then Taken p m ∷ h else h) a)
      ≡ is_kept (if b then given_stage how else stage w (if taken then Taken p m ∷ h else h) a)
  taken_by p m h taken true how e same = sym (given_is_not_kept how)
  taken_by p m h false false how e same = same
  taken_by p m h true false how e same =
      ap (λ (b : Bool). is_some (if b then None else kept_job w h a)) e ∙ same

  sent_waits : (p : Op) (m : ℕ) (h : History) → WaitsIn w a h → WaitsIn w a (Gave (act.Send p m) ∷ with_taken w p m h)
  sent_waits p m h same =
      taken_by p m h (is_some (kept_job w h (act.Send p m))) (is_act a (act.Send p m))
      (stage w (with_taken w p m h) (act.Send p m)) refl same

  called_waits : (s : Shared) (before : Events) (t : ℕ) (called : Act) (r : FileCame) (h : History)
      → call_of s before t called ≡ Some (next_move s before) → WaitsIn w a h
      → WaitsIn w a (Returned called r ∷ Gave called ∷ h)
  called_waits s before t (act.Send p m) r h e same = absurd (nothing e)
  called_waits s before t (act.Read m) r h e same = same
  called_waits s before t act.Assemble r h e same = same
  called_waits s before t (act.Place m) r h e same = same
  called_waits s before t act.Rename r h e same = same
  called_waits s before t act.DropTemp r h e same = same
  called_waits s before t act.Remove r h e same = same
  called_waits s before t act.Stamp r h e same = same

  either : (b : Bool) (x y : History) → WaitsIn w a x → WaitsIn w a y → WaitsIn w a (if b then x else y)
  either true x y h g = h
  either false x y h g = g

  waits : (s : Shared) (n : ℕ) (events : Events) → IsRun s events → WaitsIn w a (share w n events)
  waits s n [] run = refl
  waits s n (Made fits ∷ before) run = waits s n before run.1
  waits s n (Lined ∷ before) run = waits s n before run.1
  waits s n (Stopped reason ∷ before) run = waits s n before run.1
  waits s n (Sent t p m lane ∷ before) run =
      let same = waits s n before run.1 in
      either (t == n) _ (share w n before) (sent_waits p m (share w n before) same) same
  waits s n (Back lane c ∷ before) run =
      let same = waits s n before run.1 in
      either (is_task n c.job.id.task) (Came c ∷ share w n before) (share w n before)
      (came_by (share w n before) c (is_act a (sent c)) same) same
  waits s n (Called t called r ∷ before) run =
      let same = waits s n before run.1 in
      either (t == n) (Returned called r ∷ Gave called ∷ share w n before) (share w n before)
      (called_waits s before t called r (share w n before) run.0.0 same) same

pub kept_jobs_wait : KeptJobsWait
kept_jobs_wait s events task w o k run = waits w o k s task events run

-- ---- parts are freed

freed_gone : (x : Option (Option Part)) → is_gone (if true && is_some (inner x) then None else x) ≡ is_gone x
freed_gone None = refl
freed_gone (Some None) = refl
freed_gone (Some (Some part)) = refl

-- what is left is away
freed_held : (x : Option (Option Part)) → is_some (if true && is_some (inner x) then None else x) ≡ is_gone x
freed_held None = refl
freed_held (Some None) = refl
freed_held (Some (Some part)) = refl

-- what of a piece is seen as it is freed is whether its job is out
freed_with : (kept stops moves : Bool) (x : Option (Option Part)) (how : Stage) → is_kept how ≡ kept
    → is_gone x ≡ (moves && (is_out how || (stops && is_kept how)))
    → is_gone (if kept then None else x) ≡ (moves && is_out how)
freed_with true stops moves x at.Kept e g = by moves
  where
    by : (m : Bool) → false ≡ (m && false)
    by true = refl
    by false = refl
freed_with true stops moves x at.Waiting e g = no e
freed_with true stops moves x at.Out e g = no e
freed_with true stops moves x at.Again e g = no e
freed_with true stops moves x at.Fine e g = no e
freed_with true stops moves x at.Failed e g = no e
freed_with false stops moves x how e g = g ∙ ap (λ (b : Bool). moves && b)
    (ap (λ (b : Bool). is_out how || (stops && b)) e ∙ by (is_out how) stops)
  where
    by : (b s : Bool) → (b || (s && false)) ≡ b
    by true s = refl
    by false true = refl
    by false false = refl

-- a piece of the task, and what is no piece of it
freed_piece : (piece kept stops moves : Bool) (x : Option (Option Part)) (how : Stage)
    → (piece ≡ true → kept ≡ is_kept how)
    → is_gone x ≡ (piece && (moves && (is_out how || (stops && is_kept how))))
    → is_gone (if kept then None else x) ≡ (piece && (moves && is_out how))
freed_piece true kept stops moves x how e g = freed_with kept stops moves x how (sym (e refl)) g
freed_piece false true stops moves x how e g = refl
freed_piece false false stops moves x how e g = g

freed_apart : (b kept : Bool) (x : Option (Option Part)) → b ≡ false
    → (if b && is_some (inner (if b && kept then None else x)) then None else (if b && kept then None else x)) ≡ x
freed_apart true kept x e = no (sym e)
freed_apart false kept x e = refl

and_true : (b : Bool) → (b && true) ≡ b
and_true true = refl
and_true false = refl

and_false : (b : Bool) → (b && false) ≡ false
and_false true = refl
and_false false = refl

module _ (s : Shared) (unfreed kept : ℕ → Bool) (events : Events) (slots new : List (Option Held)) (task : ℕ) (w : Work)
    (run : IsRun s events) (there : slice_get s.works task ≡ Some w)
    (stops : is_stopped w (share w task events) ≡ true) (are : AreKept w (share w task events) kept)
    (table : IsTableBut unfreed s.works events slots) (freed : IsFreed task kept slots new) where
  abbrev h : History
  h = share w task events

  abbrev how : ℕ → Stage
  how n = stage w h (job_of w n)

  abbrev left : ℕ → Option (Option Part)
  left n = if kept n then None else held_at slots task n

  freed_here : (n : ℕ) → held_at new task n ≡ (if true && is_some (inner (left n)) then None else left n)
  freed_here n = freed task n ∙ ap
      (λ (b : Bool). if b && is_some (inner (if b && kept n then None else held_at slots task n)) then None
      else (if b && kept n then None else held_at slots task n)) (same_number task)

  left_gone : (n : ℕ) → is_gone (left n) ≡ (is_piece w n && is_away w h n)
  left_gone n = freed_piece (is_piece w n) (kept n) (not (not (unfreed task) && is_stopped w h))
      (moves_bytes w.of_kind) (held_at slots task n) (how n)
      (λ e. are n e ∙ kept_jobs_wait s events task w (piece_op w.of_kind w.small) n run)
      (table.away task n ∙ ap (λ (o : Option Work). away_of (unfreed task) o events task n) there)

  -- what of the task's jobs is out is away
  away_stopped : (n : ℕ) → (is_piece w n && is_away w h n) ≡ away_in false w h n
  away_stopped n = ap (λ (b : Bool). is_piece w n && (moves_bytes w.of_kind && b))
      (by (is_out (how n)) (is_kept (how n))
      ∙ ap (λ (t : Bool). is_out (how n) || (not t && is_kept (how n))) (sym stops))
    where
      by : (b k : Bool) → b ≡ (b || (not true && k))
      by true k = refl
      by false k = refl

  own_away : (n : ℕ) → is_gone (held_at new task n) ≡ away_of false (slice_get s.works task) events task n
  own_away n = ap is_gone (freed_here n) ∙ freed_gone (left n) ∙ left_gone n ∙ away_stopped n
      ∙ sym (ap (λ (o : Option Work). away_of false o events task n) there)

  own_held : (n : ℕ) → is_some (held_at new task n) ≡ holds_of (slice_get s.works task) events task n
  own_held n =
      ap (λ (x : Option (Option Part)). is_some x) (freed_here n) ∙ freed_held (left n) ∙ left_gone n
      ∙ ap (λ (b : Bool). is_piece w n && b) (sym (stopped_has w h n stops))
      ∙ sym (ap (λ (o : Option Work). holds_of o events task n) there)

  away_by : (t n : ℕ) (b : Bool) → (task == t) ≡ b
      → is_gone (held_at new t n) ≡ away_of (unfreed t && not b) (slice_get s.works t) events t n
  away_by t n true e =
      subst (λ (x : ℕ). is_gone (held_at new x n) ≡ away_of false (slice_get s.works x) events x n)
      (eqb-true task t e) (own_away n)
      ∙ ap (λ (u : Bool). away_of u (slice_get s.works t) events t n) (sym (and_false (unfreed t)))
  away_by t n false e =
      ap is_gone (freed t n ∙ freed_apart (task == t) (kept n) (held_at slots t n) e) ∙ table.away t n
      ∙ ap (λ (u : Bool). away_of u (slice_get s.works t) events t n) (sym (and_true (unfreed t)))

  held_by : (t n : ℕ) (b : Bool) → (task == t) ≡ b → (unfreed t && not b) ≡ false
      → is_some (held_at new t n) ≡ holds_of (slice_get s.works t) events t n
  held_by t n true e u = subst (λ (x : ℕ). is_some (held_at new x n) ≡ holds_of (slice_get s.works x) events x n)
      (eqb-true task t e) (own_held n)
  held_by t n false e u =
      ap (λ (x : Option (Option Part)). is_some x) (freed t n ∙ freed_apart (task == t) (kept n) (held_at slots t n) e)
      ∙ table.held t n (sym (and_true (unfreed t)) ∙ u)

  settled : IsTableBut (λ t. unfreed t && not (task == t)) s.works events new
  settled = record { away = λ t n. away_by t n (task == t) refl; held = λ t n u. held_by t n (task == t) refl u }

pub freeing_settles_task : FreeingSettlesTask
freeing_settles_task s unfreed kept events slots new task w run there stops are table freed =
    settled s unfreed kept events slots new task w run there stops are table freed
