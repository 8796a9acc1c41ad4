-- A table in which one task's pieces change.
use Rattle.std.proofs.Common.{◌≡◌, ◌∙◌, ◌==◌, ◌&&◌, ℕ, zero, suc, Bool, true, false, [], List, Option, Some, None, refl}
use Rattle.std.proofs.Common.{sym, subst, ap, is_some, not, slice_get, if◌then◌else◌}
use Rattle.std.specs.Prelude.{replicate}
use Rattle.std.proofs.lemmas.Bool.{eqb-true}
use Rattle.s3_model.specs.declared.bytes.Part.{Part}
use Rattle.s3_model.specs.declared.tasks.Kind.{Kind}
use Rattle.s3_model.specs.declared.tasks.Kind.TheVariants as kind
use Rattle.task_acts.specs.declared.acts.Stage.{Stage}
use Rattle.task_acts.specs.declared.acts.Stage.TheVariants as at
use Rattle.task_acts.specs.declared.work.Work.{Work}
use Rattle.task_acts.specs.Failures.{is_stopped}
use Rattle.task_acts.specs.Histories.{History}
use Rattle.task_acts.specs.Stages.{has_done, stage}
use Rattle.task_acts.specs.Work.{is_piece}
use Rattle.task_acts.specs.declared.acts.Act.TheVariants as act
use Rattle.manager_moves.proofs.HoldLemmas.{same_number}
use Rattle.manager_moves.specs.Parts.{has_part, holds_part}
use Rattle.manager_moves.specs.Runs.{Events, share}
use Rattle.held_parts.specs.declared.held.Held.{Held}
use Rattle.held_parts.specs.Held.{held_at}
use Rattle.manager_parts.specs.Counts.{holds_of}
use Rattle.part_changes.proofs.Changing.{both_false, part_by, stopped_holds}
use Rattle.part_changes.specs.Changes.{is_away, moves_bytes}
use Rattle.part_tables.specs.Tables.{AlikeUnfreed, EmptyTablesBegin, IsPutWhere, IsTableBut, IsTableOf, LastPutCounts}
use Rattle.part_tables.specs.Tables.{away_in, away_of, is_gone, is_with_job, job_of}

-- a piece of a task that has stopped holds a part while its job is out
pub stopped_has : (w : Work) (h : History) (n : ℕ) → is_stopped w h ≡ true → has_part w h n ≡ is_away w h n
stopped_has w h n e =
    ap (λ (t : Bool). part_by w t (stage w h (act.Read n)) (stage w h (act.Place n)) (stage w h (job_of w n))) e
    ∙ stopped_holds w.of_kind (has_done (stage w h (act.Read n))) (has_done (stage w h (act.Place n)))
    (stage w h (job_of w n))

-- a piece that was neither read nor given holds none
none_waits : (k : Kind) (t p : Bool) → holds_part k t false p at.Waiting ≡ false
none_waits kind.Upload true p = refl
none_waits kind.Upload false p = refl
none_waits kind.Download true p = refl
none_waits kind.Download false p = refl
none_waits kind.Copy t p = refl
none_waits kind.RemoveObject t p = refl
none_waits kind.RemoveFile t p = refl

pub unread_holds : (k : Kind) (t r p : Bool) (how : Stage) → r ≡ false → how ≡ at.Waiting
    → holds_part k t r p how ≡ false
unread_holds k t r p how a b =
    ap (λ (x : Bool). holds_part k t x p how) a ∙ ap (λ (x : Stage). holds_part k t false p x) b ∙ none_waits k t p

-- ---- parts that are with their jobs

none_after : (t : Bool) → (not t && false) ≡ false
none_after true = refl
none_after false = refl

-- a job that was not given, or that came as it was to come, has no part with it
pub none_with_waiting : (k : Kind) (t : Bool) → is_with_job k t at.Waiting ≡ false
none_with_waiting k t = both_false (moves_bytes k) (not t && false) (none_after t)

pub none_with_fine : (k : Kind) (t : Bool) → is_with_job k t at.Fine ≡ false
none_with_fine k t = both_false (moves_bytes k) (not t && false) (none_after t)

-- ---- one piece

abbrev Seen : Type 0
Seen = Option (Option Part) → Bool

-- what is seen of a piece after a change of some pieces
pub after_put : (sees : Seen) (part before : Option (Option Part)) (changed piece was now : Bool)
    → sees before ≡ (piece && was)
    → now ≡ (if changed then sees part else was) → (changed ≡ true → piece ≡ true)
    → sees (if changed then part else before) ≡ (piece && now)
after_put sees part before true piece was now old e h = sym (ap (λ (b : Bool). b && now) (h refl) ∙ e)
after_put sees part before false piece was now old e h = old ∙ ap (λ (b : Bool). piece && b) (sym e)

module _ (task number : ℕ) (part : Option (Option Part)) (slots new : List (Option Held)) where
  -- what a piece of that task holds
  pub put_here : (b : Bool) → IsPutWhere b task number part slots new → (n : ℕ)
      → held_at new task n ≡ (if b && (number == n) then part else held_at slots task n)
  put_here true put n =
      put task n ∙ ap (λ (c : Bool). if c && (number == n) then part else held_at slots task n) (same_number task)
  put_here false put n = ap (λ (x : List (Option Held)). held_at x task n) put

  -- and one of another task
  pub put_apart : (b : Bool) → IsPutWhere b task number part slots new → (t n : ℕ) → (task == t) ≡ false
      → held_at new t n ≡ held_at slots t n
  put_apart true put t n e =
      put t n ∙ ap (λ (c : Bool). if c && (number == n) then part else held_at slots t n) e
  put_apart false put t n e = ap (λ (x : List (Option Held)). held_at x t n) put

twice : (c : Bool) (first last before : Option (Option Part))
    → (if c then last else (if c then first else before)) ≡ (if c then last else before)
twice true first last before = refl
twice false first last before = refl

pub last_put_counts : LastPutCounts
last_put_counts task number first last slots between new a b x y =
    b x y ∙ ap (λ (p : Option (Option Part)). if (task == x) && (number == y) then last else p) (a x y)
    ∙ twice ((task == x) && (number == y)) first last (held_at slots x y)

-- ---- a task

-- the same happened to a task
module _ (events after : Events) (t : ℕ) (same : (v : Work) → share v t after ≡ share v t events) where
  pub same_away : (o : Option Work) (n : ℕ) → away_of false o events t n ≡ away_of false o after t n
  same_away None n = refl
  same_away (Some v) n = ap (λ (h : History). away_in false v h n) (sym (same v))

  pub same_holds : (o : Option Work) (n : ℕ) → holds_of o events t n ≡ holds_of o after t n
  same_holds None n = refl
  same_holds (Some v) n = ap (λ (h : History). is_piece v n && has_part v h n) (sym (same v))

module _ (works : List Work) (events after : Events) (slots new : List (Option Held)) where
  -- nothing changes
  pub unchanged : ((v : Work) (t : ℕ) → share v t after ≡ share v t events) → IsTableOf works events slots
      → IsTableOf works after slots
  unchanged same table = record {
    away = λ t n. table.away t n ∙ same_away events after t (λ v. same v t) (slice_get works t) n;
    held = λ t n e. table.held t n e ∙ same_holds events after t (λ v. same v t) (slice_get works t) n;
  }

  module _ (task : ℕ) (w : Work) (there : slice_get works task ≡ Some w)
      (others : (v : Work) (t : ℕ) → (task == t) ≡ false → share v t after ≡ share v t events)
      (apart : (t n : ℕ) → (task == t) ≡ false → held_at new t n ≡ held_at slots t n)
      (changed : ℕ → Bool) (part : Option (Option Part))
      (put : (n : ℕ) → held_at new task n ≡ (if changed n then part else held_at slots task n))
      (piece : (n : ℕ) → changed n ≡ true → is_piece w n ≡ true) (unfreed : Bool)
      (away_is : (n : ℕ) → is_with_job w.of_kind (not unfreed && is_stopped w (share w task after))
      (stage w (share w task after) (job_of w n))
      ≡ (if changed n then is_gone part else is_with_job w.of_kind (is_stopped w (share w task events))
      (stage w (share w task events) (job_of w n))))
      (holds_is : unfreed ≡ false → (n : ℕ) → has_part w (share w task after) n
      ≡ (if changed n then is_some part else has_part w (share w task events) n))
      (table : IsTableOf works events slots) where
    own_away : (n : ℕ) → is_gone (held_at new task n) ≡ away_of unfreed (slice_get works task) after task n
    own_away n =
        ap is_gone (put n)
        ∙ after_put is_gone part (held_at slots task n) (changed n) (is_piece w n)
        (is_with_job w.of_kind (is_stopped w (share w task events)) (stage w (share w task events) (job_of w n)))
        (is_with_job w.of_kind (not unfreed && is_stopped w (share w task after))
        (stage w (share w task after) (job_of w n)))
        (table.away task n ∙ ap (λ (o : Option Work). away_of false o events task n) there) (away_is n) (piece n)
        ∙ sym (ap (λ (o : Option Work). away_of unfreed o after task n) there)

    own_held : unfreed ≡ false → (n : ℕ) → is_some (held_at new task n) ≡ holds_of (slice_get works task) after task n
    own_held e n =
        ap (λ (x : Option (Option Part)). is_some x) (put n)
        ∙ after_put (λ (x : Option (Option Part)). is_some x) part (held_at slots task n) (changed n) (is_piece w n)
        (has_part w (share w task events) n) (has_part w (share w task after) n)
        (table.held task n refl ∙ ap (λ (o : Option Work). holds_of o events task n) there) (holds_is e n) (piece n)
        ∙ sym (ap (λ (o : Option Work). holds_of o after task n) there)

    away_at : (t n : ℕ) (b : Bool) → (task == t) ≡ b
        → is_gone (held_at new t n) ≡ away_of (b && unfreed) (slice_get works t) after t n
    away_at t n true e = subst (λ (x : ℕ). is_gone (held_at new x n) ≡ away_of unfreed (slice_get works x) after x n)
        (eqb-true task t e) (own_away n)
    away_at t n false e =
        ap is_gone (apart t n e) ∙ table.away t n ∙ same_away events after t (λ v. others v t e) (slice_get works t) n

    held_by : (t n : ℕ) (b : Bool) → (task == t) ≡ b → (b && unfreed) ≡ false
        → is_some (held_at new t n) ≡ holds_of (slice_get works t) after t n
    held_by t n true e s = subst (λ (x : ℕ). is_some (held_at new x n) ≡ holds_of (slice_get works x) after x n)
        (eqb-true task t e) (own_held s n)
    held_by t n false e s =
        ap (λ (x : Option (Option Part)). is_some x) (apart t n e)
        ∙ table.held t n refl ∙ same_holds events after t (λ v. others v t e) (slice_get works t) n

    -- one task's pieces change, and what of them is to be freed is not looked at
    pub one_task : IsTableBut (λ t. (task == t) && unfreed) works after new
    one_task = record { away = λ t n. away_at t n (task == t) refl; held = λ t n s. held_by t n (task == t) refl s }

pub alike_unfreed : AlikeUnfreed
alike_unfreed unfreed left works events slots same table = record {
  away = λ t n. table.away t n ∙ ap (λ (b : Bool). away_of b (slice_get works t) events t n) (same t);
  held = λ t n e. table.held t n (same t ∙ e);
}

-- ---- the start

none_held : (count t n : ℕ) → held_at (replicate count None) t n ≡ None
none_held zero t n = refl
none_held (suc count) t n = none_held count t n

begin_away : (o : Option Work) (t n : ℕ) → false ≡ away_of false o [] t n
begin_away None t n = refl
begin_away (Some w) t n = sym (both_false (is_piece w n) _ (none_with_waiting w.of_kind false))

begin_held : (o : Option Work) (t n : ℕ) → false ≡ holds_of o [] t n
begin_held None t n = refl
begin_held (Some w) t n = sym (both_false (is_piece w n) _ (none_waits w.of_kind false false))

pub empty_tables_begin : EmptyTablesBegin
empty_tables_begin works count = record {
  away = λ t n. ap is_gone (none_held count t n) ∙ begin_away (slice_get works t) t n;
  held = λ t n e. ap (λ (x : Option (Option Part)). is_some x) (none_held count t n)
      ∙ begin_held (slice_get works t) t n;
}
