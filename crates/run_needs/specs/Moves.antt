-- How many moves a run makes at most.
use Rattle.std.specs.Prelude.{◌+◌, ◌*◌, ◌≤◌, [], ◌∷◌, ℕ, List, length}
use Rattle.std.specs.List.{sum_by}
use Rattle.manager_moves.specs.Laws.{IsRun}
use Rattle.manager_moves.specs.Runs.{Events, Shared, Stopped}
use Rattle.task_acts.specs.declared.work.Work.{Work}
use Rattle.task_acts.specs.Rule.{acts_of}

-- what happened, without cancels
abbrev pub move_count : Events → ℕ
move_count [] = 0
move_count (Stopped reason ∷ before) = move_count before
move_count (event ∷ before) = move_count before + 1

-- each act of a task is given twice at most, and comes back each time; the task is made, and has a line
abbrev pub most_moves : Work → ℕ
most_moves w = 4 * length (acts_of w) + 2

abbrev pub run_moves : List Work → ℕ
run_moves works = sum_by most_moves works

-- So a run comes to no more than these, whatever comes back and wherever it is cancelled.
abbrev pub RunsAreFinite : Type 0
RunsAreFinite = (s : Shared) (events : Events) → IsRun s events → move_count events ≤ run_moves s.works
