-- What local files hold after a run: what its calls made of them, whatever a service did and whatever is excused.
use Rattle.std.specs.Prelude.{◌≡◌, ℕ, Bool, true, false, List, [], ◌∷◌, None, Ok, map, if◌then◌else◌}
use Rattle.std.specs.FinMap.{empty, insert, remove}
use Rattle.s3_model.specs.declared.answers.Class.{Class}
use Rattle.s3_model.specs.declared.answers.Class.TheVariants as class
use Rattle.s3_model.specs.declared.answers.Listed.{Listed}
use Rattle.s3_model.specs.declared.answers.Reply.TheVariants as reply
use Rattle.s3_model.specs.declared.outcomes.Outcome.TheVariants as outcome
use Rattle.s3_model.specs.declared.places.Place.TheVariants as place
use Rattle.s3_model.specs.declared.requests.Ask.{Ask}
use Rattle.s3_model.specs.declared.requests.Ask.TheVariants as ask
use Rattle.s3_model.specs.Files.{HeldFile}
use Rattle.s3_model.specs.Maps.{MapOf}
use Rattle.s3_model.specs.Talks.{Talk}
use Rattle.s3_service.specs.ServiceState.{State}
use Rattle.job_terms.specs.Dispatches.{Dispatched, dispatches}
use Rattle.local_files.specs.Calls.{Call, DropTemp, MakeTemp, Remove, Rename, Stamp, WriteAt}
use Rattle.file_laws.specs.FileWitnesses.{file_removal}
use Rattle.run_promise.specs.Endings.{Excused, Holds, IsAbsent}
use Rattle.run_promise.specs.FileCalls.{TaskCall}
use Rattle.run_promise.specs.Runs.{Run}
use Rattle.run_promise.specs.Truthful.{AreToldByCalls, FitsShown, HoldsOver, OtherFilesStay, Shown, shown_after}
use Rattle.promise_examples.specs.BothKinds as both
use Rattle.promise_examples.specs.BothKinds.{call_of, with_bytes}
use Rattle.promise_examples.specs.Reading.{Reads}
use Rattle.rare_runs.specs.MovedDownload.{content, filled, makes, moved_run, path, renamed, renames_at, setting}
use Rattle.rare_runs.specs.MovedDownload.{stamped, temp, writes}

-- ---- runs

-- where memory ran out for some warning the status is 70, and all that a warning could name is excused
abbrev pub excusing : Bool → Excused
excusing wanted = record { left = []; untimed = []; wanted_memory = wanted }

-- the moved download of `rare_runs`, where the files tell these calls, and hold this at its end
abbrev pub ends_with : (wanted : Bool) → List Call → MapOf HeldFile → Shown
ends_with wanted told held = record {
  setting = setting;
  status = if wanted then 70 else 0;
  outcomes = outcome.Done ∷ [];
  journal = moved_run.journal;
  logs = moved_run.logs;
  notes = moved_run.notes;
  held_after = held;
  excused = excusing wanted;
  file_calls = told;
  refused_page = None;
}

-- the temporary file is made, written and renamed, and then its time is set, or cannot be set
abbrev pub placing : List Call
placing = MakeTemp path (Ok temp) ∷ WriteAt temp 0 content true ∷ Rename temp path None ∷ []

abbrev pub timed : (fine : Bool) → List Call
timed fine = MakeTemp path (Ok temp) ∷ WriteAt temp 0 content true ∷ Rename temp path None ∷ Stamp path 5 fine ∷ []

-- it is dropped in place of the rename
abbrev pub dropping : List Call
dropping = MakeTemp path (Ok temp) ∷ WriteAt temp 0 content true ∷ DropTemp temp true ∷ []

-- the calls of the run, with the files after the last of them
abbrev pub calls_to : (fine : Bool) → MapOf HeldFile → List TaskCall
calls_to fine held = makes ∷ writes ∷ renames_at 2 ∷ call_of 0 2 (Stamp path 5 fine) held ∷ []

-- the destination holds another byte, or has another time
abbrev pub other_bytes : MapOf HeldFile
other_bytes = insert renamed path (record { bytes = 9 ∷ []; micros = 5 })

abbrev pub other_time : MapOf HeldFile
other_time = insert stamped path (record { bytes = 7 ∷ 8 ∷ []; micros = 6 })

-- its temporary file stands beside it
abbrev pub temp_again : MapOf HeldFile
temp_again = insert stamped temp (with_bytes [])

-- the plan of both kinds of `promise_examples`, without a warning and with status 70
abbrev pub both_unwarned : Shown
both_unwarned = record both.shown { status = 70; excused = excusing true }

-- the removal of a file with the name of a temporary file, where the files tell these calls and hold this at its end
abbrev pub held : MapOf HeldFile
held = insert empty temp (with_bytes [])

abbrev pub removal : List Call → MapOf HeldFile → Shown
removal told after = record {
  setting = record setting { tasks = file_removal temp ∷ []; held = held };
  status = 70;
  outcomes = outcome.Done ∷ [];
  journal = [];
  logs = λ lane. [];
  notes = λ lane. [];
  held_after = after;
  excused = excusing true;
  file_calls = told;
  refused_page = None;
}

abbrev pub removing : List Call
removing = Remove temp true ∷ []

-- ---- readings

-- its Delete is answered as a Put is, which no service does
abbrev pub Strange : (page_of : List ℕ → Listed) → Ask → ℕ → Talk → Class → List ℕ → Type 0
Strange page_of (ask.Delete bucket key) limit talk shown bytes = (shown ≡ class.Success reply.Stored) × (bytes ≡ [])
Strange page_of asked limit talk shown bytes = Reads page_of asked limit talk shown bytes

module _ (Shows : Ask → ℕ → Talk → Class → List ℕ → Type 0) where
  -- with a reading of its jobs these calls tell its files
  pub record AreTold (shown : Shown) (calls : List TaskCall) : Type 0 where
    pub dispatched : List Dispatched
    pub coming : List Dispatched
    pub are_jobs : map (λ (c : Dispatched). c.dispatch) dispatched ≡ dispatches shown.journal shown.logs
    pub files : AreToldByCalls Shows shown dispatched coming calls

  -- and no honest trace fits it
  pub record AreToldWithoutTrace (shown : Shown) (calls : List TaskCall) : Type 0 where
    pub told : AreTold shown calls
    pub no_trace : (run : Run) → run.dispatched ≡ told.dispatched → ¬ (FitsShown Shows shown run)

  -- however its jobs are read, no calls tell its files
  abbrev pub IsUntold : Shown → Type 0
  IsUntold shown = (dispatched coming : List Dispatched) (calls : List TaskCall)
      → ¬ (AreToldByCalls Shows shown dispatched coming calls)

  pub record FilesAreRefused : Type 0 where
    -- `held_after`: the destination holds other bytes than were written, or nothing is there
    pub other_bytes : IsUntold (ends_with false (timed true) other_bytes)
    pub nothing : IsUntold (ends_with false (timed true) empty)
    -- `told`: the files tell none of the calls that made it
    pub untold : IsUntold (ends_with false [] stamped)
    -- `keep`: they do not tell that its time was set
    pub untimed : IsUntold (ends_with false placing renamed)
    -- `decided`: it is done, and was not renamed
    pub not_renamed : IsUntold (ends_with false dropping (remove filled temp))

  -- where memory ran out for a warning
  pub record UnwarnedFilesAreRefused : Type 0 where
    -- a file with the name of a temporary file stands there, which no drop left
    pub temp_again : IsUntold (ends_with true (timed true) temp_again)
    -- its time is another one, and could be set
    pub other_time : IsUntold (ends_with true (timed true) other_time)
    -- a file that was removed, or of which no call tells, still stands and is done
    pub stands : IsUntold (removal removing held)
    pub never_removed : IsUntold (removal [] held)

pub record IsTraceless (page_of : List ℕ → Listed) : Type 0 where
  pub met : AreToldWithoutTrace (Strange page_of) (ends_with false (timed true) stamped) (calls_to true stamped)
  -- what holds over honest traces holds whatever the files tell and hold, so it refuses no neighbour of it
  pub passes : (told : List Call) (held : MapOf HeldFile)
      → HoldsOver (Strange page_of) (ends_with false told held) met.told.dispatched

abbrev pub FilesAreTold : Type 0
FilesAreTold = (page_of : List ℕ → Listed) → IsTraceless page_of

abbrev pub EachUntoldFileIsRefused : Type 0
EachUntoldFileIsRefused = (page_of : List ℕ → Listed) → FilesAreRefused (Strange page_of)

-- with status 70
module _ (page_of : List ℕ → Listed) where
  pub record UnwarnedFilesAreMet : Type 0 where
    -- the time of the download could not be set
    pub not_timed : AreTold (Reads page_of) (ends_with true (timed false) renamed) (calls_to false renamed)
    -- a temporary file could not be dropped
    pub not_dropped : AreTold (Reads page_of) both_unwarned both.calls
    -- the file is removed
    pub removed : AreTold (Reads page_of) (removal removing (remove held temp))
        (call_of 0 0 (Remove temp true) (remove held temp) ∷ [])

-- Of the neighbours that are refused the exceptions let all of that through: the file beside the destination, the time,
-- and the removed file that stands. So the calls alone refuse them.
pub record ExceptionsLetThrough : Type 0 where
  pub temp_again : OtherFilesStay (ends_with true (timed true) temp_again)
  pub other_time : (state : State)
      → Holds (excusing true) (shown_after (ends_with true (timed true) other_time) state) (place.File path) 5 content
  pub stands : (state : State)
      → IsAbsent (excusing true) (shown_after (removal removing held) state) (place.File temp)

abbrev pub EachUnwarnedFileIsMet : Type 0
EachUnwarnedFileIsMet = (page_of : List ℕ → Listed) → UnwarnedFilesAreMet page_of

abbrev pub EachUnwarnedFileIsRefused : Type 0
EachUnwarnedFileIsRefused = (page_of : List ℕ → Listed) → UnwarnedFilesAreRefused (Reads page_of)
