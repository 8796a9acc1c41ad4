-- How a task ends, and why, by what happened.
use Rattle.std.specs.Option.{option_or}
use Rattle.std.specs.Prelude.{◌==◌, ◌&&◌, ◌||◌, [], ◌∷◌, Bool, true, false, Option, Some, None, is_some, length, not}
use Rattle.std.specs.Prelude.{nat_lt, if◌then◌else◌}
use Rattle.std.specs.List.{list_any}
use Rattle.jobs.specs.Endings.{SeenCarried}
use Rattle.job_terms.specs.Ops.{is_op}
use Rattle.s3_model.specs.declared.outcomes.Cause.{Cause}
use Rattle.s3_model.specs.declared.outcomes.Cause.TheVariants as cause
use Rattle.s3_model.specs.declared.outcomes.Outcome.{Outcome}
use Rattle.s3_model.specs.declared.outcomes.Outcome.TheVariants as outcome
use Rattle.s3_model.specs.declared.outcomes.Reason.{Reason}
use Rattle.s3_model.specs.declared.requests.Op.TheVariants as op
use Rattle.s3_model.specs.declared.tasks.Kind.{Kind}
use Rattle.s3_model.specs.declared.tasks.Kind.TheVariants as kind
use Rattle.s3_model.specs.declared.tries.Mark.{Mark}
use Rattle.s3_model.specs.declared.tries.Mark.TheVariants as mark
use Rattle.task_acts.specs.declared.acts.Act.{Act}
use Rattle.task_acts.specs.declared.acts.Act.TheVariants as act
use Rattle.task_acts.specs.Failures.{carried_cause, first_failure, first_reason, wanted_memory}
use Rattle.task_acts.specs.Histories.{History, Gave, Came, Returned, Cancelled, Taken}
use Rattle.task_acts.specs.Rule.{first_ready_in, is_decided_in, is_done_in, is_idle_in}
use Rattle.task_acts.specs.declared.work.Work.{Work}
use Rattle.task_acts.specs.Work.{deciding_op}

-- ---- the deciding request

-- a download and the removal of a file are decided by calls on files
abbrev pub is_by_request : Kind → Bool
is_by_request kind.Download = false
is_by_request kind.RemoveFile = false
is_by_request of_kind = true

abbrev pub decides : Work → SeenCarried → Bool
decides w carried =
    is_by_request w.of_kind && is_op carried.job.id.op (deciding_op w) && (carried.job.id.number == 0)

abbrev pub is_uncertain : Mark → Bool
is_uncertain mark.Uncertain = true
is_uncertain marked = false

-- some attempt of it left open what it did
abbrev pub has_uncertain : Work → History → Bool
has_uncertain w [] = false
has_uncertain w (Came carried ∷ before) =
    has_uncertain w before || (decides w carried && list_any is_uncertain carried.tries)
has_uncertain w (Gave given ∷ before) = has_uncertain w before
has_uncertain w (Returned called result ∷ before) = has_uncertain w before
has_uncertain w (Cancelled reason ∷ before) = has_uncertain w before
has_uncertain w (Taken of_op number ∷ before) = has_uncertain w before

abbrev pub has_tries : SeenCarried → Bool
has_tries carried = nat_lt 0 (length carried.tries)

-- what its last attempt shows
abbrev pub last_cause : Work → History → Option Cause
last_cause w [] = None
last_cause w (Came carried ∷ before) =
    if decides w carried && has_tries carried then carried_cause w carried else last_cause w before
last_cause w (Gave given ∷ before) = last_cause w before
last_cause w (Returned called result ∷ before) = last_cause w before
last_cause w (Cancelled reason ∷ before) = last_cause w before
last_cause w (Taken of_op number ∷ before) = last_cause w before

-- Nobody can know: some attempt of the deciding request was uncertain, and none a success.
abbrev pub is_left_open : Work → History → Bool
is_left_open w history = has_uncertain w history && not (is_decided_in w history)

-- ---- causes

-- want of memory wins over every other cause
abbrev pub unless_memory : (memory : Bool) → Option Cause → Option Cause
unless_memory memory why = if memory then Some cause.Memory else why

abbrev pub cancel_cause : Option Reason → Option Cause
cancel_cause None = None
cancel_cause (Some reason) = Some (cause.Cancelled reason)

-- the first failure, or where there is none the cancel
abbrev pub stop_cause : Work → History → Option Cause
stop_cause w history = unless_memory (wanted_memory w history)
    (option_or (first_failure w history) (cancel_cause (first_reason history)))

abbrev pub open_cause : Work → History → Option Cause
open_cause w history = unless_memory (wanted_memory w history) (last_cause w history)

-- ---- outcomes

-- how the source of a move is removed: an uploaded file by a call, an object by a request
abbrev pub removal : Kind → Act
removal kind.Upload = act.Remove
removal kind.RemoveFile = act.Remove
removal of_kind = act.Send op.Delete 0

abbrev pub is_whole : Work → History → Bool
is_whole w history = is_decided_in w history && (not w.moves || is_done_in w history (removal w.of_kind))

abbrev pub unknown_for : Option Cause → Option Outcome
unknown_for None = None
unknown_for (Some why) = Some (outcome.Unknown why)

abbrev pub copied_for : Option Cause → Option Outcome
copied_for None = None
copied_for (Some why) = Some (outcome.Copied why)

abbrev pub failed_for : Option Cause → Option Outcome
failed_for None = None
failed_for (Some why) = Some (outcome.Failed why)

-- Done where what the task is for has happened and the source of a move went, Unknown where nobody can know, Copied
-- where only the source of a move stayed, and Failed at every other end.
abbrev pub how_ended : Work → History → Option Outcome
how_ended w history =
    if is_whole w history then Some outcome.Done
    else if is_left_open w history then unknown_for (open_cause w history)
    else if is_decided_in w history then copied_for (stop_cause w history) else failed_for (stop_cause w history)

-- The outcome comes once no act is ready and none is out, and stays.
abbrev pub settled : Work → History → Option Outcome
settled w history =
    if is_some (first_ready_in w history) || not (is_idle_in w history) then None else how_ended w history

abbrev pub outcome_of : Work → History → Option Outcome
outcome_of w [] = settled w []
outcome_of w (event ∷ before) = option_or (outcome_of w before) (settled w (event ∷ before))
