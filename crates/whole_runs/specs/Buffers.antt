-- The parts that are out by the journal of a whole run, with that of its planning.
use Rattle.std.specs.Prelude.{◌≡◌, ◌≤◌, ◌++◌, false, List, Contains}
use Rattle.job_terms.specs.Buffers.{KeepsBuffers, gives_buffer_back, takes_buffer}
use Rattle.manager_moves.specs.Laws.{IsRun}
use Rattle.manager_moves.specs.Runs.{Events, Shared, journal_of}
use Rattle.s3_model.specs.declared.outcomes.Event.{Event as Entry}

-- no entry is of a job that takes a part
abbrev pub TakeNoParts : List Entry → Type 0
TakeNoParts planning = (event : Entry) → Contains planning event
    → (takes_buffer event ≡ false) × (gives_buffer_back event ≡ false)

-- Behind a planning that takes no parts the journal of a run with a lane keeps to the buffers.
abbrev pub JournalsKeepParts : Type 0
JournalsKeepParts = (s : Shared) (planning : List Entry) (events : Events) → 1 ≤ s.lanes → IsRun s events
    → TakeNoParts planning → KeepsBuffers s.buffers (planning ++ journal_of events)
