-- How many entries the journal of a run has at most.
use Rattle.std.specs.Prelude.{◌≤◌, ◌*◌, ℕ, List, length}
use Rattle.std.specs.List.{sum_by}
use Rattle.manager_moves.specs.Laws.{IsRun}
use Rattle.manager_moves.specs.Runs.{Events, Shared, journal_of}
use Rattle.task_acts.specs.declared.work.Work.{Work}
use Rattle.run_needs.specs.Jobs.{jobs_of}

-- a job is given twice at most, and comes back each time
abbrev pub most_entries : Work → ℕ
most_entries w = 4 * length (jobs_of w)

abbrev pub journal_room : List Work → ℕ
journal_room works = sum_by most_entries works

abbrev pub JournalsFit : Type 0
JournalsFit = (s : Shared) (events : Events) → IsRun s events
    → length (journal_of events) ≤ journal_room s.works
