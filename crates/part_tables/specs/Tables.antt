-- How a table of the pieces that hold a part follows a run.
use Rattle.std.specs.Prelude.{◌≡◌, ◌==◌, ◌&&◌, ◌||◌, [], ◌∷◌, ℕ, Bool, true, false, List, Option, Some, None, is_some, nat_lt}
use Rattle.std.specs.Prelude.{not, replicate, slice_get, if◌then◌else◌}
use Rattle.jobs.specs.Endings.{SeenCarried}
use Rattle.job_terms.specs.Buffers.{holds_buffer}
use Rattle.s3_model.specs.declared.bytes.Part.{Part}
use Rattle.s3_model.specs.declared.outcomes.Reason.{Reason}
use Rattle.s3_model.specs.declared.requests.Op.{Op}
use Rattle.s3_model.specs.declared.tasks.Kind.{Kind}
use Rattle.task_acts.specs.declared.acts.Act.{Act}
use Rattle.task_acts.specs.declared.acts.Act.TheVariants as act
use Rattle.task_acts.specs.declared.acts.FileCame.{FileCame}
use Rattle.task_acts.specs.declared.acts.Stage.{Stage}
use Rattle.task_acts.specs.declared.work.Work.{Work}
use Rattle.task_acts.specs.Failures.{is_stopped}
use Rattle.task_acts.specs.Histories.{History}
use Rattle.task_acts.specs.Kept.{kept_job}
use Rattle.task_acts.specs.Kept as again
use Rattle.task_acts.specs.Stages.{is_out, stage}
use Rattle.task_acts.specs.Work.{is_piece, piece_op}
use Rattle.manager_moves.specs.Laws.{IsRun}
use Rattle.manager_moves.specs.Parts.{is_kept}
use Rattle.manager_moves.specs.Runs.{Back, Called, Events, Lined, Made, Sent, Shared, Stopped, made_count, share}
use Rattle.held_parts.specs.declared.held.Held.{Held}
use Rattle.held_parts.specs.Held.{held_at, stopped_at}
use Rattle.manager_parts.specs.Counts.{holds}
use Rattle.part_changes.specs.Changes.{moves_bytes, stays_here}

-- the places of a table
abbrev pub Slots : Type 0
Slots = List (Option Held)

-- what a piece holds is away, with its job
abbrev pub is_gone : Option (Option Part) → Bool
is_gone None = false
is_gone (Some None) = true
is_gone (Some (Some part)) = false

-- the act by which the job of a piece is given
abbrev pub job_of : Work → (number : ℕ) → Act
job_of w number = act.Send (piece_op w.of_kind w.small) number

-- The part of a piece is with its job, which is out, or kept to be given again. A task that has stopped gives none again.
abbrev pub is_with_job : Kind → (stopped : Bool) → Stage → Bool
is_with_job of_kind stopped sent = moves_bytes of_kind && (is_out sent || (not stopped && is_kept sent))

abbrev pub away_in : (unfreed : Bool) → Work → History → (number : ℕ) → Bool
away_in unfreed w h number =
    is_piece w number && is_with_job w.of_kind (not unfreed && is_stopped w h) (stage w h (job_of w number))

abbrev pub away_of : (unfreed : Bool) → Option Work → Events → (task number : ℕ) → Bool
away_of unfreed None events task number = false
away_of unfreed (Some w) events task number = away_in unfreed w (share w task events) number

-- by what happened, the part of that piece of that task is away
abbrev pub has_away : (unfreed : Bool) → List Work → Events → (task number : ℕ) → Bool
has_away unfreed works events task number = away_of unfreed (slice_get works task) events task number

-- The table says of each piece whether it holds a part, and whether that is away. Of tasks that have stopped just now,
-- the parts that are here and those of jobs that were kept are still to be freed.
pub record IsTableBut (unfreed : ℕ → Bool) (works : List Work) (events : Events) (slots : Slots) : Type 0 where
  pub away : (task number : ℕ) → is_gone (held_at slots task number)
      ≡ has_away (unfreed task) works events task number
  pub held : (task number : ℕ) → unfreed task ≡ false
      → is_some (held_at slots task number) ≡ holds works events task number

abbrev pub none_unfreed : ℕ → Bool
none_unfreed task = false

abbrev pub IsTableOf : List Work → Events → Slots → Type 0
IsTableOf works events slots = IsTableBut none_unfreed works events slots

-- at the start no piece holds a part
abbrev pub EmptyTablesBegin : Type 0
EmptyTablesBegin = (works : List Work) (count : ℕ) → IsTableOf works [] (replicate count None)

-- ---- what calls change of a table

-- that piece holds this now, and each other piece what it held
abbrev pub IsPut : (task number : ℕ) → Option (Option Part) → (slots new : Slots) → Type 0
IsPut task number part slots new =
    (x y : ℕ) → held_at new x y ≡ (if (task == x) && (number == y) then part else held_at slots x y)

abbrev pub IsPutWhere : Bool → (task number : ℕ) → Option (Option Part) → (slots new : Slots) → Type 0
IsPutWhere true task number part slots new = IsPut task number part slots new
IsPutWhere false task number part slots new = new ≡ slots

-- of two calls on one piece the last counts
abbrev pub LastPutCounts : Type 0
LastPutCounts = (task number : ℕ) (first last : Option (Option Part)) (slots between new : Slots)
    → IsPut task number first slots between → IsPut task number last between new → IsPut task number last slots new

-- ---- events that change no part

abbrev pub OthersMoveNoPart : Type 0
OthersMoveNoPart = (works : List Work) (events : Events) (slots : Slots) (fits : Bool)
    → IsTableOf works events slots → IsTableOf works (Made fits ∷ events) slots × IsTableOf works (Lined ∷ events) slots

-- ---- a job is given

-- where the job takes a part, that of its piece is away
abbrev pub SendingTakesPart : Type 0
SendingTakesPart = (s : Shared) (events : Events) (slots new : Slots) (task : ℕ) (of_op : Op) (number lane : ℕ)
    → IsRun s (Sent task of_op number lane ∷ events) → IsTableOf s.works events slots
    → IsPutWhere (holds_buffer of_op) task number (Some None) slots new
    → IsTableOf s.works (Sent task of_op number lane ∷ events) new

-- ---- a failure or a cancel

-- that event has stopped that task
abbrev pub stops_now : Work → (task : ℕ) → (before after : Events) → Bool
stops_now w task before after = is_stopped w (share w task after) && not (is_stopped w (share w task before))

-- it is that task, and it has stopped just now
abbrev pub has_stopped : Work → (task : ℕ) → (before after : Events) → (other : ℕ) → Bool
has_stopped w task before after other = (task == other) && stops_now w task before after

-- ---- a job comes back

-- Where the job took a part, that stays with it where the job is kept, and is else here or free now: here where the
-- task goes on and still wants it. So the table follows the run, but for a task that has stopped just now.
abbrev pub ReturningBringsPart : Type 0
ReturningBringsPart = (s : Shared) (events : Events) (slots new : Slots) (lane : ℕ) (carried : SeenCarried) (task : ℕ)
    (w : Work) (part : Option (Option Part))
    → IsRun s (Back lane carried ∷ events) → IsTableOf s.works events slots
    → carried.job.id.task ≡ Some task → slice_get s.works task ≡ Some w
    → is_gone part ≡ again.is_kept w (is_stopped w (share w task events)) carried
    → (stops_now w task events (Back lane carried ∷ events) ≡ false
    → is_some part ≡ stays_here w (share w task events) carried)
    → IsPutWhere (holds_buffer carried.job.id.op) task carried.job.id.number part slots new
    → IsTableBut (has_stopped w task events (Back lane carried ∷ events)) s.works (Back lane carried ∷ events) new

-- ---- a call on files

abbrev pub is_read : Act → Bool
is_read (act.Read number) = true
is_read called = false

-- the piece that is read or placed holds this now
abbrev pub IsCallPut : (task : ℕ) → Act → Option (Option Part) → (slots new : Slots) → Type 0
IsCallPut task (act.Read number) part slots new = IsPut task number part slots new
IsCallPut task (act.Place number) part slots new = IsPut task number part slots new
IsCallPut task called part slots new = new ≡ slots

-- A piece that was read holds a part that is here, and one that was placed holds none. So the table follows the run,
-- but for a task that has stopped just now.
abbrev pub CallingPutsPart : Type 0
CallingPutsPart = (s : Shared) (events : Events) (slots new : Slots) (task : ℕ) (called : Act) (result : FileCame)
    (w : Work) (part : Option (Option Part))
    → IsRun s (Called task called result ∷ events) → IsTableOf s.works events slots
    → slice_get s.works task ≡ Some w → is_gone part ≡ false
    → (stops_now w task events (Called task called result ∷ events) ≡ false → is_some part ≡ is_read called)
    → IsCallPut task called part slots new
    → IsTableBut (has_stopped w task events (Called task called result ∷ events)) s.works
    (Called task called result ∷ events) new

-- ---- a cancel

abbrev pub goes_on : Option Work → (task : ℕ) → Events → Bool
goes_on None task events = false
goes_on (Some w) task events = not (is_stopped w (share w task events))

-- that task was made, and had not stopped
abbrev pub is_cancelled : List Work → Events → (task : ℕ) → Bool
is_cancelled works events task = nat_lt task (made_count events) && goes_on (slice_get works task) task events

abbrev pub CancelLeavesParts : Type 0
CancelLeavesParts = (s : Shared) (events : Events) (slots : Slots) (reason : Reason)
    → IsRun s events → IsTableOf s.works events slots
    → IsTableBut (is_cancelled s.works events) s.works (Stopped reason ∷ events) slots

-- ---- parts are freed

-- a job is kept exactly where its stage says so
abbrev pub KeptJobsWait : Type 0
KeptJobsWait = (s : Shared) (events : Events) (task : ℕ) (w : Work) (of_op : Op) (number : ℕ) → IsRun s events
    → is_some (kept_job w (share w task events) (act.Send of_op number))
    ≡ is_kept (stage w (share w task events) (act.Send of_op number))

-- those pieces of a task whose job is kept
abbrev pub AreKept : Work → History → (ℕ → Bool) → Type 0
AreKept w h kept = (number : ℕ) → is_piece w number ≡ true → kept number ≡ is_some (kept_job w h (job_of w number))

-- the parts of those pieces of that task, and all that it has here, are free
abbrev pub IsFreed : (task : ℕ) → (kept : ℕ → Bool) → (slots new : Slots) → Type 0
IsFreed task kept slots new = (x y : ℕ)
    → held_at new x y ≡ stopped_at task x (if (task == x) && kept y then None else held_at slots x y)

-- one task less has parts that are to be freed
abbrev pub FreeingSettlesTask : Type 0
FreeingSettlesTask = (s : Shared) (unfreed kept : ℕ → Bool) (events : Events) (slots new : Slots) (task : ℕ) (w : Work)
    → IsRun s events → slice_get s.works task ≡ Some w → is_stopped w (share w task events) ≡ true
    → AreKept w (share w task events) kept
    → IsTableBut unfreed s.works events slots → IsFreed task kept slots new
    → IsTableBut (λ other. unfreed other && not (task == other)) s.works events new

-- the tasks of which parts are to be freed, named in another way
abbrev pub AlikeUnfreed : Type 0
AlikeUnfreed = (unfreed left : ℕ → Bool) (works : List Work) (events : Events) (slots : Slots)
    → ((task : ℕ) → unfreed task ≡ left task)
    → IsTableBut unfreed works events slots → IsTableBut left works events slots
