-- The calls on files that a conductor made.
use Rattle.std.specs.Prelude.{◌++◌, [], ◌∷◌, ℕ, List, length, map}
use Rattle.run_promise.specs.FileCalls.{TaskCall}
use Rattle.local_files.specs.Calls.{CallStep}
use Rattle.s3_outside.specs.declared.files.FileNote.{FileNote}
use Rattle.run_traces.specs.Traces.{Called, RunTrace, journal_of}

-- calls of a task behind so many entries of the journal
abbrev pub task_calls : (task : ℕ) → (entries_before : ℕ) → List CallStep → List TaskCall
task_calls task entries_before steps =
    map (λ (step : CallStep). record { task = task; events_before = entries_before; step = step }) steps

-- the calls that change files, each with its task and its place in the journal, the oldest first
abbrev pub calls_of : RunTrace → List TaskCall
calls_of [] = []
calls_of (Called task called result steps notes ∷ before) =
    calls_of before ++ task_calls task (length (journal_of before)) steps
calls_of (step ∷ before) = calls_of before

-- what was noted of the files, the oldest first
abbrev pub notes_of : RunTrace → List FileNote
notes_of [] = []
notes_of (Called task called result steps notes ∷ before) = notes_of before ++ notes
notes_of (step ∷ before) = notes_of before
