-- What in a history is a failure, and its cause.
use Rattle.std.specs.Option.{option_or}
use Rattle.std.specs.Prelude.{◌+◌, ◌-◌, ◌==◌, ◌&&◌, ◌||◌, ◌∷◌, [], ℕ, Bool, true, false, List, Option, Some, None}
use Rattle.std.specs.Prelude.{codes}
use Rattle.std.specs.Str.{bytes_eq}
use Rattle.std.specs.Prelude.{is_some, length, nat_lt, if◌then◌else◌}
use Rattle.jobs.specs.Endings.{SeenCarried}
use Rattle.jobs.specs.declared.ending.Ending.{Ending}
use Rattle.jobs.specs.declared.ending.Ending.TheVariants as ending
use Rattle.s3_model.specs.Classes.{is_tried_again}
use Rattle.s3_model.specs.Parts.{piece_range}
use Rattle.s3_model.specs.declared.answers.Class.TheVariants as class
use Rattle.s3_model.specs.declared.answers.Reply.{Reply}
use Rattle.s3_model.specs.declared.answers.Reply.TheVariants as reply
use Rattle.s3_model.specs.declared.answers.Why.{Why}
use Rattle.s3_model.specs.declared.answers.Why.TheVariants as reason_of
use Rattle.s3_model.specs.declared.outcomes.Cause.{Cause}
use Rattle.s3_model.specs.declared.outcomes.Cause.TheVariants as cause
use Rattle.s3_model.specs.declared.outcomes.FileCall.{FileCall}
use Rattle.s3_model.specs.declared.outcomes.FileCall.TheVariants as call
use Rattle.s3_model.specs.declared.outcomes.Reason.{Reason}
use Rattle.s3_model.specs.declared.requests.Op.{Op}
use Rattle.s3_model.specs.declared.requests.Op.TheVariants as op
use Rattle.s3_outside.specs.declared.files.FileFault.TheVariants as fault
use Rattle.task_acts.specs.declared.acts.Act.{Act}
use Rattle.task_acts.specs.declared.acts.Act.TheVariants as act
use Rattle.task_acts.specs.declared.acts.FileCame.{FileCame}
use Rattle.task_acts.specs.declared.acts.FileCame.TheVariants as file
use Rattle.task_acts.specs.Histories.{History, Happening, Gave, Came, Returned, Cancelled, Taken}
use Rattle.task_acts.specs.declared.work.Work.{Work}

-- ---- jobs

-- no attempt was made, or the last one would be tried again and others were left
abbrev pub is_unfinished : (attempts made : ℕ) → Ending → Bool
is_unfinished attempts made (ending.Cancelled reason) = true
is_unfinished attempts made (ending.Refused status code message) =
    nat_lt made attempts && is_tried_again (class.Refusal code message)
is_unfinished attempts made (ending.Uncertain reason) = nat_lt made attempts && is_tried_again (class.Uncertain reason)
is_unfinished attempts made ended = false

-- It was cut short by its cell.
abbrev pub is_cut_short : Work → SeenCarried → Bool
is_cut_short w carried =
    is_some carried.job.cell && is_unfinished w.attempts (length carried.tries) carried.ending

abbrev pub is_same_range : Option (ℕ × ℕ × ℕ) → (first last size : ℕ) → Bool
is_same_range None first last size = false
is_same_range (Some range) first last size = (range.0 == first) && (range.1 == last) && (range.2 == size)

-- the reply to a Get is the whole of the planned size, or the range of its number
abbrev pub is_whole_object : Work → (status length : ℕ) → Bool
is_whole_object w status length = (status == 200) && (length == w.size)

abbrev pub is_range : Work → (number status : ℕ) → Option (ℕ × ℕ × ℕ) → (length : ℕ) → Bool
is_range w number status range length =
    let asked = piece_range w.size w.piece number in
    (status == 206) && is_same_range range asked.0 (asked.0 + asked.1 - 1) w.size && (length == asked.1)

abbrev pub is_asked_for : Work → (number : ℕ) → Reply → Bool
is_asked_for w number (reply.Got status range length) =
    if number == 0 then is_whole_object w status length else is_range w number status range length
is_asked_for w number said = true

abbrev pub reads_source : Op → Bool
reads_source op.Get = true
reads_source op.Copy = true
reads_source op.PartCopy = true
reads_source of_op = false

-- the source is another one by now: the status of the refusal says so, or its code
abbrev pub says_changed : Op → (status : ℕ) → (code : List ℕ) → Bool
says_changed of_op status code = reads_source of_op && ((status == 412) || bytes_eq (codes "PreconditionFailed") code)

abbrev pub refused_cause : Op → (status : ℕ) → (code message : List ℕ) → Cause
refused_cause of_op status code message =
    if says_changed of_op status code then cause.Changed else cause.Service of_op code message

abbrev pub lost_cause : Op → Why → Cause
lost_cause of_op reason_of.Memory = cause.Memory
lost_cause of_op reason = cause.Lost of_op reason

-- the cause that the ending of a job shows, none where it gained what was asked for
abbrev pub ended_cause : Work → Op → (number : ℕ) → Ending → Option Cause
ended_cause w of_op number (ending.Gained said) =
    if is_asked_for w number said then None else Some (cause.BadReply of_op)
ended_cause w of_op number (ending.Refused status code message) = Some (refused_cause of_op status code message)
ended_cause w of_op number (ending.Uncertain reason) = Some (lost_cause of_op reason)
ended_cause w of_op number (ending.Cancelled reason) = Some (cause.Cancelled reason)
ended_cause w of_op number ending.Memory = Some cause.Memory

abbrev pub carried_cause : Work → SeenCarried → Option Cause
carried_cause w carried = ended_cause w carried.job.id.op carried.job.id.number carried.ending

-- ---- calls on files

abbrev pub call_of : Act → FileCall
call_of act.Assemble = call.Create
call_of (act.Place number) = call.Write
call_of act.Rename = call.Rename
call_of act.Remove = call.Remove
call_of of_act = call.Read

abbrev pub is_fine : FileCame → Bool
is_fine file.Fine = true
is_fine result = false

abbrev pub result_cause : Act → FileCame → Option Cause
result_cause called file.Fine = None
result_cause called file.Short = Some cause.Changed
result_cause called (file.Fault fault.Failed) = Some (cause.Files (call_of called))
result_cause called (file.Fault (fault.Blocked length)) = Some (cause.Blocked length)
result_cause called (file.Fault fault.Memory) = Some cause.Memory

-- that a time could not be set, or that a temporary file stayed, is a warning
abbrev pub file_cause : Act → FileCame → Option Cause
file_cause act.Stamp result = None
file_cause act.DropTemp result = None
file_cause called result = result_cause called result

-- ---- failures

-- a job that was cut short is no failure
abbrev pub failure_by : Work → Happening → Option Cause
failure_by w (Came carried) = if is_cut_short w carried then None else carried_cause w carried
failure_by w (Returned called result) = file_cause called result
failure_by w (Gave given) = None
failure_by w (Cancelled reason) = None
failure_by w (Taken of_op number) = None

abbrev pub first_failure : Work → History → Option Cause
first_failure w [] = None
first_failure w (event ∷ before) = option_or (first_failure w before) (failure_by w event)

abbrev pub is_memory : Option Cause → Bool
is_memory (Some cause.Memory) = true
is_memory why = false

abbrev pub wanted_memory : Work → History → Bool
wanted_memory w [] = false
wanted_memory w (event ∷ before) = wanted_memory w before || is_memory (failure_by w event)

-- ---- cancels

abbrev pub reason_by : Happening → Option Reason
reason_by (Cancelled reason) = Some reason
reason_by (Gave given) = None
reason_by (Came carried) = None
reason_by (Returned called result) = None
reason_by (Taken of_op number) = None

abbrev pub first_reason : History → Option Reason
first_reason [] = None
first_reason (event ∷ before) = option_or (first_reason before) (reason_by event)

-- a failure or a cancel came
abbrev pub is_stopped : Work → History → Bool
is_stopped w history = is_some (first_failure w history) || is_some (first_reason history)
