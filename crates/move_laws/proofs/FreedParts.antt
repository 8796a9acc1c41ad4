-- The parts of a task that stops: where they are, and the table once they are freed.
use Rattle.std.proofs.Common.{◌≡◌, ◌≤◌, ◌∙◌, ◌==◌, ◌&&◌, ◌||◌, ℕ, Bool, true, false, Option, Some, None, IfSome}
use Rattle.std.proofs.Common.{refl, sym, subst, ap, is_some, not, slice_get, if◌then◌else◌}
use Rattle.std.proofs.lemmas.Bool.{eqb-true}
use Rattle.held_parts.specs.Held.{SeenParts, held_at, inner, stopped_at}
use Rattle.jobs.specs.Jobs.{SeenJob}
use Rattle.kept_jobs.specs.Slots.{job_at}
use Rattle.manager_moves.proofs.CountLemmas.{no}
use Rattle.manager_moves.specs.Laws.{IsRun}
use Rattle.manager_moves.specs.Parts.{is_kept}
use Rattle.manager_moves.specs.Runs.{Events, Shared, share}
use Rattle.part_changes.specs.Changes.{moves_bytes}
use Rattle.part_tables.proofs.Freeing.{freeing_settles_task, kept_jobs_wait}
use Rattle.part_tables.specs.Tables.{IsFreed, IsTableBut, Slots, away_in, away_of, is_gone, job_of}
use Rattle.job_terms.specs.Buffers.{holds_buffer}
use Rattle.s3_model.specs.declared.bytes.Part.{Part}
use Rattle.s3_model.specs.declared.requests.Op.{Op}
use Rattle.s3_model.specs.declared.tasks.Kind.{Kind}
use Rattle.s3_model.specs.declared.tasks.Kind.TheVariants as kind
use Rattle.task_acts.specs.declared.work.Work.{Work}
use Rattle.task_acts.specs.Failures.{is_stopped}
use Rattle.task_acts.specs.Histories.{History}
use Rattle.task_acts.specs.Kept.{kept_job}
use Rattle.task_acts.specs.Stages.{is_out, stage}
use Rattle.task_acts.specs.Work.{is_piece, piece_op}
use Rattle.task_core.specs.Machine.{SeenTask}
use Rattle.move_laws.specs.Follows.{HasItsPart}
use Rattle.move_laws.specs.Freed.{AreWithJobs, IsWith, keeps_part, kept_piece, part_in}

-- ---- parts that are away

pub gone_is : (held : Option (Option Part)) → is_gone held ≡ true → held ≡ Some None
gone_is None e = no e
gone_is (Some None) e = refl
gone_is (Some (Some part)) e = no e

abbrev after_stop : (its : Bool) → Option (Option Part) → Option (Option Part)
after_stop its held = if its && is_some (inner held) then None else held

-- a part of the task that is not away goes back
unstopped : (its : Bool) (held : Option (Option Part)) → its ≡ true → is_gone held ≡ false
    → after_stop its held ≡ after_stop its None
unstopped true None e f = refl
unstopped true (Some None) e f = no (sym f)
unstopped true (Some (Some part)) e f = refl
unstopped false held e f = no e

-- the jobs of pieces take a part where the task goes through parts
buffer_kind : (k : Kind) (small : Bool) → holds_buffer (piece_op k small) ≡ moves_bytes k
buffer_kind kind.Upload true = refl
buffer_kind kind.Upload false = refl
buffer_kind kind.Download true = refl
buffer_kind kind.Download false = refl
buffer_kind kind.Copy true = refl
buffer_kind kind.Copy false = refl
buffer_kind kind.RemoveObject true = refl
buffer_kind kind.RemoveObject false = refl
buffer_kind kind.RemoveFile true = refl
buffer_kind kind.RemoveFile false = refl

with_kept : (piece moves out kept unfreed stops : Bool) → piece ≡ true → moves ≡ true → kept ≡ true → unfreed ≡ true
    → (piece && (moves && (out || (not (not unfreed && stops) && kept)))) ≡ true
with_kept true true true kept unfreed stops a b c d = refl
with_kept true true false true true stops a b c d = refl
with_kept true true false true false stops a b c d = no d
with_kept true true false false unfreed stops a b c d = no c
with_kept true false out kept unfreed stops a b c d = no b
with_kept false moves out kept unfreed stops a b c d = no a

no_buffer : (piece moves with : Bool) → moves ≡ false → (piece && (moves && with)) ≡ false
no_buffer true true with e = no (sym e)
no_buffer true false with e = refl
no_buffer false moves with e = refl

module _ (s : Shared) (after : Events) (run : IsRun s after) (task : ℕ) (w : Work) (there : slice_get s.works task ≡
    Some w)
    (unfreed : ℕ → Bool) (slots : Slots) (table : IsTableBut unfreed s.works after slots) (room : ℕ) (t : SeenTask)
    (work_is : t.stages.work ≡ w)
    (kept_is : (n : ℕ) → job_at t.kept (piece_op w.of_kind w.small) n ≡ kept_job w (share w task after) (job_of w n))
    (has : (o : Op) (n : ℕ) → HasItsPart room o (job_at t.kept o n)) where
  abbrev h : History
  h = share w task after

  abbrev its_op : Op
  its_op = piece_op w.of_kind w.small

  abbrev kept_at : ℕ → Option SeenJob
  kept_at n = job_at t.kept its_op n

  piece_is : (n : ℕ) → kept_piece t n ≡ kept_at n
  piece_is n = ap (λ (v : Work). job_at t.kept (piece_op v.of_kind v.small) n) work_is

  away_is : (n : ℕ) → is_gone (held_at slots task n) ≡ away_in (unfreed task) w h n
  away_is n = table.away task n ∙ ap (λ (o : Option Work). away_of (unfreed task) o after task n) there

  -- ---- the parts of its jobs are away

  module _ (waits : unfreed task ≡ true) where
    is_away : (n : ℕ) → is_piece w n ≡ true → is_some (kept_at n) ≡ true → holds_buffer its_op ≡ true
        → held_at slots task n ≡ Some None
    is_away n piece kept buffer =
        gone_is (held_at slots task n)
        (away_is n
        ∙ with_kept (is_piece w n) (moves_bytes w.of_kind) (is_out (stage w h (job_of w n)))
        (is_kept (stage w h (job_of w n))) (unfreed task) (is_stopped w h) piece
        (sym (buffer_kind w.of_kind w.small) ∙ buffer)
        (sym (kept_jobs_wait s after task w its_op n run)
        ∙ ap (λ (job : Option SeenJob). is_some job) (sym (kept_is n)) ∙ kept) waits)

    its_part : (n : ℕ) → is_piece w n ≡ true → (job : Option SeenJob) → kept_at n ≡ job
        → IsWith room (held_at slots task n) job
    its_part n piece None is = tt
    its_part n piece (Some job) is =
        let its = subst (λ (x : Option SeenJob). HasItsPart room its_op x) is (has its_op n) in
        part_is job.part its.0 its.1
      where
        part_is : (part : Option Part) → is_some part ≡ holds_buffer its_op
            → IfSome part (λ x. room ≤ x.bytes.room)
            → IfSome part (λ x. (held_at slots task n ≡ Some None) × (room ≤ x.bytes.room))
        part_is None so fits = tt
        part_is (Some part) so fits = (is_away n piece (ap (λ (x : Option SeenJob). is_some x) is) (sym so), fits)

    pub are_with_jobs : (parts : SeenParts) → parts.slots ≡ slots → parts.pool.room ≡ room → AreWithJobs parts task t
    are_with_jobs parts same_slots same_room n piece =
        subst (λ (job : Option SeenJob). IsWith parts.pool.room (held_at parts.slots task n) job) (sym (piece_is n))
        (subst (λ (r : ℕ). IsWith r (held_at parts.slots task n) (kept_at n)) (sym same_room)
        (subst (λ (x : Slots). IsWith room (held_at x task n) (kept_at n)) (sym same_slots)
        (its_part n (subst (λ (v : Work). is_piece v n ≡ true) work_is piece) (kept_at n) refl)))

  -- ---- its parts are freed

  abbrev kept_pieces : ℕ → Bool
  kept_pieces n = is_piece w n && is_some (kept_at n)

  -- where a job is kept without a part, its piece holds none that is away
  unparted : (n : ℕ) (job : Option SeenJob) → HasItsPart room its_op job → is_some (part_in job) ≡ false
      → is_some job ≡ true → is_gone (held_at slots task n) ≡ false
  unparted n None its none some = no some
  unparted n (Some job) its none some =
      away_is n ∙ no_buffer (is_piece w n) (moves_bytes w.of_kind) _
      (sym (buffer_kind w.of_kind w.small) ∙ sym its.0 ∙ none)

  same_freed : (x n : ℕ) (held : Option (Option Part)) → held_at slots x n ≡ held → (task == x) ≡ true → (piece : Bool)
      (job : Option SeenJob) → kept_at n ≡ job
      → stopped_at task x (if piece && is_some (part_in job) then None else held)
      ≡ stopped_at task x (if piece && is_some job then None else held)
  same_freed x n held e here false job is = refl
  same_freed x n held e here true None is = refl
  same_freed x n held e here true (Some job) is = by (is_some job.part) refl
    where
      by : (b : Bool) → is_some job.part ≡ b → stopped_at task x (if b then None else held) ≡ stopped_at task x None
      by true f = refl
      by false f =
          unstopped (task == x) held here
          (ap is_gone (sym e ∙ ap (λ (k : ℕ). held_at slots k n) (sym (eqb-true task x here)))
          ∙ unparted n (Some job) (subst (λ (y : Option SeenJob). HasItsPart room its_op y) is (has its_op n)) f refl)

  freed_so : (new : Slots) → IsFreed task (keeps_part t) slots new → IsFreed task kept_pieces slots new
  freed_so new freed x n =
      freed x n
      ∙ ap (λ (v : Work). stopped_at task x (if (task == x) && (is_piece v n && is_some (part_in (kept_piece t n)))
      then None else held_at slots x n)) work_is
      ∙ ap (λ (job : Option SeenJob). stopped_at task x (if (task == x) && (is_piece w n && is_some (part_in job))
      then None else held_at slots x n)) (piece_is n)
      ∙ by (task == x) refl
    where
      by : (b : Bool) → (task == x) ≡ b
          → stopped_at task x (if b && (is_piece w n && is_some (part_in (kept_at n))) then None else held_at slots x n)
          ≡ stopped_at task x (if b && (is_piece w n && is_some (kept_at n)) then None else held_at slots x n)
      by true e = same_freed x n (held_at slots x n) refl e (is_piece w n) (kept_at n) refl
      by false e = refl

  -- no more of its parts are to be freed then
  pub freed_settles : is_stopped w h ≡ true → (new : Slots) → IsFreed task (keeps_part t) slots new
      → IsTableBut (λ other. unfreed other && not (task == other)) s.works after new
  freed_settles stops new freed =
      freeing_settles_task s unfreed kept_pieces after slots new task w run there stops
      (λ n piece. ap (λ (b : Bool). b && is_some (kept_at n)) piece
      ∙ ap (λ (job : Option SeenJob). is_some job) (kept_is n)) table (freed_so new freed)
