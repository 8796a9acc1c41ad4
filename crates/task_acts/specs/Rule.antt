-- Which act of a task is ready.
use Rattle.std.specs.Prelude.{◌==◌, ◌&&◌, ◌||◌, ◌++◌, [], ◌∷◌, ℕ, Bool, true, false, List, Option, map, not}
use Rattle.std.specs.Prelude.{if◌then◌else◌}
use Rattle.std.specs.List.{find, list_all}
use Rattle.s3_model.specs.declared.requests.Op.TheVariants as op
use Rattle.s3_model.specs.declared.tasks.Kind.{Kind}
use Rattle.s3_model.specs.declared.tasks.Kind.TheVariants as kind
use Rattle.task_acts.specs.declared.acts.Act.{Act}
use Rattle.task_acts.specs.declared.acts.Act.TheVariants as act
use Rattle.task_acts.specs.declared.acts.Stage.{Stage}
use Rattle.task_acts.specs.Failures.{is_stopped}
use Rattle.task_acts.specs.Histories.{History}
use Rattle.task_acts.specs.Stages.{has_done, has_ended, is_out, may_be_given, stage}
use Rattle.task_acts.specs.declared.work.Work.{Work}
use Rattle.task_acts.specs.Work.{deciding_op, is_piece, numbers, piece_op}

-- ---- in which order

-- a call on files that is no Read first, then a job, then a Read, the least number first
abbrev pub file_acts : Work → List Act
file_acts w =
    act.Assemble ∷ act.Rename ∷ act.DropTemp ∷ act.Remove ∷ act.Stamp ∷ map (λ number. act.Place number) (numbers w)

abbrev pub single_sends : List Act
single_sends =
    act.Send op.Create 0 ∷ act.Send op.Complete 0 ∷ act.Send op.Abort 0 ∷ act.Send op.Delete 0 ∷ []

abbrev pub piece_sends : Work → List Act
piece_sends w = map (λ number. act.Send (piece_op w.of_kind w.small) number) (numbers w)

abbrev pub reads : Work → List Act
reads w = map (λ number. act.Read number) (numbers w)

abbrev pub acts_of : Work → List Act
acts_of w = file_acts w ++ single_sends ++ piece_sends w ++ reads w

-- by how far each act is, and whether a failure or a cancel came
module _ (w : Work) (stage_of : Act → Stage) (stopped : Bool) where
  abbrev pub is_done : Act → Bool
  is_done of_act = has_done (stage_of of_act)

  -- every piece came so far
  abbrev pub is_each_done : (ℕ → Act) → Bool
  is_each_done act_of = list_all (λ number. is_done (act_of number)) (numbers w)

  abbrev pub is_created : Bool
  is_created = is_done (act.Send op.Create 0)

  abbrev pub is_completed : Bool
  is_completed = is_done (act.Send op.Complete 0)

  -- what the task is for has happened: its deciding request came with success, or the file was renamed or removed
  abbrev pub is_decided_by : Kind → Bool
  is_decided_by kind.Download = is_done act.Rename
  is_decided_by kind.RemoveFile = is_done act.Remove
  is_decided_by of_kind = is_done (act.Send (deciding_op w) 0)

  abbrev pub is_decided : Bool
  is_decided = is_decided_by w.of_kind

  -- ---- without a failure and a cancel

  -- what comes before an act of that kind, for each act that the kind has
  abbrev pub is_due : Kind → Act → Bool
  is_due kind.Upload (act.Read number) = is_piece w number && (w.small || is_created)
  is_due kind.Upload (act.Send op.Put number) =
      w.small && is_piece w number && is_done (act.Read number)
  is_due kind.Upload (act.Send op.Create number) = not w.small && (number == 0)
  is_due kind.Upload (act.Send op.Part number) =
      not w.small && is_piece w number && is_done (act.Read number)
  is_due kind.Upload (act.Send op.Complete number) =
      not w.small && (number == 0) && is_created && is_each_done (act.Send op.Part)
  is_due kind.Upload act.Remove = w.moves && is_decided
  is_due kind.Download act.Assemble = true
  is_due kind.Download (act.Send op.Get number) = is_piece w number && is_done act.Assemble
  is_due kind.Download (act.Place number) = is_piece w number && is_done (act.Send op.Get number)
  is_due kind.Download act.Rename = is_done act.Assemble && is_each_done act.Place
  is_due kind.Download (act.Send op.Delete number) =
      w.moves && (number == 0) && has_ended (stage_of act.Stamp)
  is_due kind.Copy (act.Send op.Copy number) = w.small && is_piece w number
  is_due kind.Copy (act.Send op.Create number) = not w.small && (number == 0)
  is_due kind.Copy (act.Send op.PartCopy number) = not w.small && is_piece w number && is_created
  is_due kind.Copy (act.Send op.Complete number) =
      not w.small && (number == 0) && is_created && is_each_done (act.Send op.PartCopy)
  is_due kind.Copy (act.Send op.Delete number) = w.moves && (number == 0) && is_decided
  is_due kind.RemoveObject (act.Send op.Delete number) = number == 0
  is_due kind.RemoveFile act.Remove = true
  is_due of_kind of_act = false

  -- ---- after a failure or a cancel

  -- no act is out
  abbrev pub is_idle : Bool
  is_idle = list_all (λ of_act. not (is_out (stage_of of_act))) (acts_of w)

  -- An upload that was created and not completed is aborted, and a temporary file that was not renamed is dropped, once
  -- nothing else is out.
  abbrev pub is_left_over : Act → Bool
  is_left_over (act.Send op.Abort number) =
      (number == 0) && is_created && not (is_completed) && is_idle
  is_left_over act.DropTemp =
      is_done act.Assemble && not (is_done act.Rename) && is_idle
  is_left_over of_act = false

  -- ---- the rule

  -- the time of a file is set once it was renamed, also after a cancel
  abbrev pub is_named : Act → Bool
  is_named act.Stamp = is_done act.Rename
  is_named of_act =
      if stopped then is_left_over of_act else is_due w.of_kind of_act

  -- An act is ready where the rule names it, and it was not given, or its job is given again.
  abbrev pub is_ready : Act → Bool
  is_ready of_act = may_be_given (stage_of of_act) && is_named of_act

  abbrev pub first_ready : Option Act
  first_ready = find is_ready (acts_of w)

-- ---- in a history

abbrev pub is_ready_in : Work → History → Act → Bool
is_ready_in w history = is_ready w (stage w history) (is_stopped w history)

abbrev pub first_ready_in : Work → History → Option Act
first_ready_in w history = first_ready w (stage w history) (is_stopped w history)

abbrev pub is_done_in : Work → History → Act → Bool
is_done_in w history of_act = has_done (stage w history of_act)

abbrev pub is_decided_in : Work → History → Bool
is_decided_in w history = is_decided w (stage w history) (is_stopped w history)

abbrev pub is_idle_in : Work → History → Bool
is_idle_in w history = is_idle w (stage w history) (is_stopped w history)
