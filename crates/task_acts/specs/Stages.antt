-- How far each act of a task is, by what happened.
use Rattle.std.specs.Prelude.{[], ◌∷◌, Bool, true, false, is_some, if◌then◌else◌}
use Rattle.jobs.specs.Endings.{SeenCarried}
use Rattle.task_acts.specs.declared.acts.Act.{Act}
use Rattle.task_acts.specs.declared.acts.FileCame.{FileCame}
use Rattle.task_acts.specs.declared.acts.Stage.{Stage}
use Rattle.task_acts.specs.declared.acts.Stage.TheVariants as at
use Rattle.task_acts.specs.Failures.{carried_cause, is_cut_short, is_fine, is_stopped}
use Rattle.task_acts.specs.Histories.{History, Gave, Came, Returned, Cancelled, Taken, is_act, sent}
use Rattle.task_acts.specs.declared.work.Work.{Work}

abbrev pub given_stage : Stage → Stage
given_stage at.Kept = at.Again
given_stage before = at.Out

-- A job that was cut short before a failure and before a cancel is kept, to be given again.
abbrev pub carried_stage : Work → (stopped : Bool) → SeenCarried → Stage
carried_stage w stopped carried =
    if is_cut_short w carried then (if stopped then at.Failed else at.Kept)
    else if is_some (carried_cause w carried) then at.Failed else at.Fine

abbrev pub file_stage : FileCame → Stage
file_stage result = if is_fine result then at.Fine else at.Failed

abbrev pub stage : Work → History → Act → Stage
stage w [] of_act = at.Waiting
stage w (Gave given ∷ before) of_act =
    if is_act of_act given then given_stage (stage w before given) else stage w before of_act
stage w (Came carried ∷ before) of_act =
    if is_act of_act (sent carried) then carried_stage w (is_stopped w before) carried else stage w before of_act
stage w (Returned called result ∷ before) of_act =
    if is_act of_act called then file_stage result else stage w before of_act
stage w (Cancelled reason ∷ before) of_act = stage w before of_act
stage w (Taken of_op number ∷ before) of_act = stage w before of_act

abbrev pub has_done : Stage → Bool
has_done at.Fine = true
has_done how = false

-- it came back, whether or not it did what it was to do
abbrev pub has_ended : Stage → Bool
has_ended at.Fine = true
has_ended at.Failed = true
has_ended how = false

-- it was not given, or is given again
abbrev pub may_be_given : Stage → Bool
may_be_given at.Waiting = true
may_be_given at.Kept = true
may_be_given how = false

abbrev pub is_out : Stage → Bool
is_out at.Out = true
is_out at.Again = true
is_out how = false
