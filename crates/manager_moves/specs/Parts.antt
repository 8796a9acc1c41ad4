-- Which pieces hold a part.
use Rattle.std.specs.Prelude.{◌+◌, ◌&&◌, ◌||◌, [], ◌∷◌, ℕ, Bool, true, false, List, length, filter, not}
use Rattle.s3_model.specs.declared.tasks.Kind.{Kind}
use Rattle.s3_model.specs.declared.tasks.Kind.TheVariants as kind
use Rattle.task_acts.specs.declared.acts.Act.TheVariants as act
use Rattle.task_acts.specs.declared.acts.Stage.{Stage}
use Rattle.task_acts.specs.declared.acts.Stage.TheVariants as at
use Rattle.task_acts.specs.declared.work.Work.{Work}
use Rattle.task_acts.specs.Failures.{is_stopped}
use Rattle.task_acts.specs.Histories.{History}
use Rattle.task_acts.specs.Stages.{has_done, is_out, may_be_given, stage}
use Rattle.task_acts.specs.Work.{numbers, piece_op}
use Rattle.manager_moves.specs.Runs.{Events, share}

abbrev pub is_kept : Stage → Bool
is_kept at.Kept = true
is_kept how = false

-- A piece that goes up holds a part from its read to the return of its job, one that comes down from the giving of its
-- job until it is placed. What waits for neither a lane nor a file gives its part back once the task is stopped.
abbrev pub holds_part : Kind → (stopped read placed : Bool) → Stage → Bool
holds_part kind.Upload stopped read placed sent = is_out sent || (not stopped && read && may_be_given sent)
holds_part kind.Download stopped read placed sent =
    is_out sent || (not stopped && (is_kept sent || (has_done sent && not placed)))
holds_part of_kind stopped read placed sent = false

abbrev pub has_part : Work → History → ℕ → Bool
has_part w history number =
    holds_part w.of_kind (is_stopped w history) (has_done (stage w history (act.Read number)))
    (has_done (stage w history (act.Place number))) (stage w history (act.Send (piece_op w.of_kind w.small) number))

-- how many parts the pieces of a task hold
abbrev pub parts_of : Work → History → ℕ
parts_of w history = length (filter (λ number. has_part w history number) (numbers w))

abbrev pub sum_from : (ℕ → Work → ℕ) → ℕ → List Work → ℕ
sum_from count_of n [] = 0
sum_from count_of n (w ∷ works) = count_of n w + sum_from count_of (n + 1) works

-- how many parts all tasks hold
abbrev pub lent : List Work → Events → ℕ
lent works events = sum_from (λ n w. parts_of w (share w n events)) 0 works
