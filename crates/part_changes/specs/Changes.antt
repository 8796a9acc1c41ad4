-- What one more happening changes of the pieces of a task that hold a part.
use Rattle.std.specs.Prelude.{◌≡◌, ◌==◌, ◌&&◌, ◌||◌, ◌∷◌, ℕ, Bool, true, false, is_some, not, if◌then◌else◌}
use Rattle.jobs.specs.Endings.{SeenCarried}
use Rattle.job_terms.specs.Buffers.{holds_buffer}
use Rattle.s3_model.specs.declared.outcomes.Reason.{Reason}
use Rattle.s3_model.specs.declared.requests.Op.{Op}
use Rattle.s3_model.specs.declared.requests.Op.TheVariants as op
use Rattle.s3_model.specs.declared.tasks.Kind.{Kind}
use Rattle.s3_model.specs.declared.tasks.Kind.TheVariants as kind
use Rattle.task_acts.specs.declared.acts.Act.{Act}
use Rattle.task_acts.specs.declared.acts.Act.TheVariants as act
use Rattle.task_acts.specs.declared.acts.FileCame.{FileCame}
use Rattle.task_acts.specs.declared.work.Work.{Work}
use Rattle.task_acts.specs.Failures.{failure_by, file_cause, is_cut_short, is_stopped}
use Rattle.task_acts.specs.Histories.{Came, Cancelled, Gave, History, Returned}
use Rattle.task_acts.specs.Kept.{IsHistory}
use Rattle.task_acts.specs.Stages.{is_out, stage}
use Rattle.task_acts.specs.Work.{piece_op}
use Rattle.manager_moves.specs.Parts.{has_part}
use Rattle.manager_moves.specs.Runs.{with_taken}

-- the pieces of such a task go through parts
abbrev pub moves_bytes : Kind → Bool
moves_bytes kind.Upload = true
moves_bytes kind.Download = true
moves_bytes of_kind = false

-- the job of that piece is out, and its part with it
abbrev pub is_away : Work → History → (number : ℕ) → Bool
is_away w history number =
    moves_bytes w.of_kind && is_out (stage w history (act.Send (piece_op w.of_kind w.small) number))

-- ---- a cancel

-- after a cancel those pieces alone hold a part whose job is out
abbrev pub CancelFreesParts : Type 0
CancelFreesParts = (w : Work) (h : History) (reason : Reason) (number : ℕ)
    → has_part w (Cancelled reason ∷ h) number ≡ is_away w h number

-- ---- a job is given

abbrev pub is_part_job : Op → (number other : ℕ) → Bool
is_part_job of_op number other = holds_buffer of_op && (number == other)

abbrev pub given_in : Work → Op → (number : ℕ) → History → History
given_in w of_op number h = Gave (act.Send of_op number) ∷ with_taken w of_op number h

-- its piece holds a part then, which is away, if such a job takes one, and each other piece is as it was
abbrev pub GivingTakesPart : Type 0
GivingTakesPart = (w : Work) (h : History) (of_op : Op) (number other : ℕ) → IsHistory w (given_in w of_op number h)
    → has_part w (given_in w of_op number h) other
    ≡ (if is_part_job of_op number other then true else has_part w h other)

abbrev pub GivingSendsPart : Type 0
GivingSendsPart = (w : Work) (h : History) (of_op : Op) (number other : ℕ) → IsHistory w (given_in w of_op number h)
    → is_away w (given_in w of_op number h) other
    ≡ (if is_part_job of_op number other then true else is_away w h other)

-- ---- a call on files

abbrev pub called_in : Act → FileCame → History → History
called_in called result h = Returned called result ∷ Gave called ∷ h

-- a piece that was read holds a part, and one that was placed holds none
abbrev pub after_call : Act → (number : ℕ) → (before : Bool) → Bool
after_call (act.Read read) number before = if read == number then true else before
after_call (act.Place placed) number before = if placed == number then false else before
after_call called number before = before

-- After a call that fails those pieces alone hold a part whose job is out.
abbrev pub CallChangesPart : Type 0
CallChangesPart = (w : Work) (h : History) (called : Act) (result : FileCame) (number : ℕ)
    → IsHistory w (called_in called result h)
    → has_part w (called_in called result h) number
    ≡ (if is_some (file_cause called result) then is_away w h number
    else after_call called number (has_part w h number))

abbrev pub CallMovesNoPart : Type 0
CallMovesNoPart = (w : Work) (h : History) (called : Act) (result : FileCame) (number : ℕ)
    → IsHistory w (called_in called result h) → is_away w (called_in called result h) number ≡ is_away w h number

-- ---- a job comes back

abbrev pub comes_down : Op → Bool
comes_down op.Get = true
comes_down of_op = false

-- its bytes are to be sent again, or to be placed
abbrev pub stays_here : Work → History → SeenCarried → Bool
stays_here w h carried = not (is_stopped w h) && (is_cut_short w carried || comes_down carried.job.id.op)

abbrev pub is_its_piece : SeenCarried → (number : ℕ) → Bool
is_its_piece carried number = is_part_job carried.job.id.op carried.job.id.number number

-- After a job that fails those pieces alone hold a part whose job is still out. Any other job changes what its piece
-- holds, and nothing else.
abbrev pub ReturnChangesPart : Type 0
ReturnChangesPart = (w : Work) (h : History) (carried : SeenCarried) (number : ℕ) → IsHistory w (Came carried ∷ h)
    → has_part w (Came carried ∷ h) number
    ≡ (if is_some (failure_by w (Came carried)) then is_away w (Came carried ∷ h) number
    else if is_its_piece carried number then stays_here w h carried else has_part w h number)

-- the part of its piece is away no longer
abbrev pub ReturnBringsPart : Type 0
ReturnBringsPart = (w : Work) (h : History) (carried : SeenCarried) (number : ℕ) → IsHistory w (Came carried ∷ h)
    → is_away w (Came carried ∷ h) number ≡ (if is_its_piece carried number then false else is_away w h number)
