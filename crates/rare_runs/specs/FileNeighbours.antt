-- Part buffers, other files and calls on files: what keeps to the clauses, and neighbours with one thing changed.
use Rattle.std.specs.Prelude.{◌≡◌, ◌++◌, ℕ, true, false, List, [], ◌∷◌, Some, None, Ok, codes, map}
use Rattle.std.specs.FinMap.{insert, remove}
use Rattle.s3_model.specs.declared.answers.Listed.{Listed}
use Rattle.s3_model.specs.declared.outcomes.Event.{Event}
use Rattle.s3_model.specs.declared.outcomes.Event.TheVariants as entry
use Rattle.s3_model.specs.declared.requests.Op.{Op}
use Rattle.s3_model.specs.declared.requests.Op.TheVariants as op
use Rattle.s3_model.specs.declared.tries.Mark.TheVariants as mark
use Rattle.s3_model.specs.Files.{HeldFile}
use Rattle.s3_model.specs.Maps.{MapOf}
use Rattle.job_terms.specs.Buffers.{KeepsBuffers, holds_buffer}
use Rattle.job_terms.specs.Dispatches.{Dispatched, dispatches}
use Rattle.job_terms.specs.Jobs.{job_of}
use Rattle.local_files.specs.Calls.{MakeTemp, Remove, Rename, Stamp, WriteAt}
use Rattle.run_promise.specs.Endings.{Excused}
use Rattle.run_promise.specs.FileCalls.{AreFileCalls, TaskCall}
use Rattle.run_promise.specs.Schedule.{Setting}
use Rattle.run_promise.specs.Truthful.{OtherFilesStay, Shown}
use Rattle.promise_examples.specs.BothKinds as both
use Rattle.promise_examples.specs.BothKinds.{call_of, drops_second, first_path, first_temp, left_over, makes_first}
use Rattle.promise_examples.specs.BothKinds.{makes_second, removes, renames_first, second_path, second_temp}
use Rattle.promise_examples.specs.BothKinds.{shown, source_path, stamps_first, with_bytes, writes_first}
use Rattle.promise_examples.specs.Reading.{Reads}

-- ---- part buffers

-- two jobs, one on each lane: the second is given once the first came, or while it is out
abbrev pub one_by_one : Op → Op → List Event
one_by_one a b = entry.Given (job_of 0 a 1) 0 ∷ entry.Came (job_of 0 a 1) 0 (mark.Success ∷ [])
    ∷ entry.Given (job_of 0 b 2) 1 ∷ entry.Came (job_of 0 b 2) 1 (mark.Success ∷ []) ∷ []

abbrev pub both_out : Op → Op → List Event
both_out a b = entry.Given (job_of 0 a 1) 0 ∷ entry.Given (job_of 0 b 2) 1
    ∷ entry.Came (job_of 0 a 1) 0 (mark.Success ∷ []) ∷ entry.Came (job_of 0 b 2) 1 (mark.Success ∷ []) ∷ []

pub record BuffersAreMet : Type 0 where
  -- with one buffer, parts one after the other, and a part beside a request that holds none
  pub parts : KeepsBuffers 1 (one_by_one op.Part op.Part)
  pub beside : KeepsBuffers 1 (both_out op.Part op.PartCopy)
  -- with two, two parts at a time
  pub two : KeepsBuffers 2 (both_out op.Part op.Part)

pub record BuffersAreRefused : Type 0 where
  -- two jobs that hold one are out at a time, and there is one
  pub two_out : (a b : Op) → holds_buffer a ≡ true → holds_buffer b ≡ true → ¬ (KeepsBuffers 1 (both_out a b))
  -- there is none
  pub none : (a b : Op) → holds_buffer a ≡ true → ¬ (KeepsBuffers 0 (one_by_one a b))

-- ---- other files

-- the run of both kinds of task (`shown` of promise_examples), which ends with these files, and with these exceptions
abbrev pub ends_with : MapOf HeldFile → Shown
ends_with held = record shown { held_after = held }

abbrev pub excusing : List (List ℕ) → Shown
excusing left = record shown { excused = record { left = left; untimed = []; wanted_memory = false } }

abbrev pub other_path : List ℕ
other_path = codes "z"

-- a file with the name of a temporary file was there at the start, and is gone
abbrev pub loses_old : Shown
loses_old = record shown {
  setting = record shown.setting { held = insert both.held second_temp (with_bytes (1 ∷ [])) };
  held_after = remove left_over second_temp;
}

pub record OtherFilesAreRefused : Type 0 where
  -- a file of no task is new
  pub new_file : ¬ (OtherFilesStay (ends_with (insert left_over other_path (with_bytes []))))
  -- the file of the upload, which moves nothing, has other bytes, or is gone
  pub other_source : ¬ (OtherFilesStay (ends_with (insert left_over source_path (with_bytes (9 ∷ [])))))
  pub no_source : ¬ (OtherFilesStay (ends_with (remove left_over source_path)))
  -- no warning names the temporary file that stayed
  pub unwarned : ¬ (OtherFilesStay (excusing []))
  -- that file is excused, and had been there before the run
  pub old_file : ¬ (OtherFilesStay loses_old)

-- ---- calls on files

-- they are made in that order: the removal, the first download up to its rename, and what follows
abbrev pub begun : List TaskCall
begun = removes ∷ makes_first ∷ writes_first ∷ []

abbrev pub placed : List TaskCall
placed = renames_first ∷ stamps_first ∷ []

abbrev pub given_up : List TaskCall
given_up = makes_second ∷ drops_second ∷ []

abbrev pub files : MapOf HeldFile
files = left_over

-- calls that end with this one
abbrev pub ending : TaskCall → List TaskCall
ending last = begun ++ placed ++ given_up ++ last ∷ []

abbrev pub removes_source : TaskCall
removes_source = call_of 0 6 (Remove source_path true) files

abbrev pub of_no_task : TaskCall
of_no_task = call_of 9 6 (Remove other_path true) files

abbrev pub made_elsewhere : TaskCall
made_elsewhere = call_of 1 2 (MakeTemp second_path (Ok first_temp)) files

abbrev pub other_time : TaskCall
other_time = call_of 1 4 (Stamp first_path 6 true) files

abbrev pub made_late : TaskCall
made_late = call_of 1 3 (MakeTemp first_path (Ok first_temp)) files

abbrev pub written_early : TaskCall
written_early = call_of 1 3 (WriteAt first_temp 0 (7 ∷ 8 ∷ []) true) files

abbrev pub renamed_early : TaskCall
renamed_early = call_of 1 3 (Rename first_temp first_path None) files

abbrev pub stamped_unrenamed : TaskCall
stamped_unrenamed = call_of 2 4 (Stamp second_path 5 true) files

abbrev pub not_stamped : TaskCall
not_stamped = call_of 1 4 (Stamp first_path 5 false) files

-- the download whose Get was refused is written all the same
abbrev pub written_refused : TaskCall
written_refused = call_of 2 6 (WriteAt second_temp 0 (9 ∷ []) true) files

module _ (page_of : List ℕ → Listed) where
  -- with the jobs of that run, whatever each of them asks, and in whatever order they came
  abbrev pub Keep : Setting → Excused → List TaskCall → List Dispatched → List Dispatched → Type 0
  Keep s excused calls dispatched coming = AreFileCalls (Reads page_of) s excused dispatched coming calls

  abbrev pub AreNoCalls : Setting → Excused → List TaskCall → Type 0
  AreNoCalls s excused calls = (dispatched coming : List Dispatched)
      → map (λ (c : Dispatched). c.dispatch) dispatched ≡ dispatches shown.journal shown.logs
      → ¬ (Keep s excused calls dispatched coming)

  -- in the setting of that run, with its exceptions
  abbrev pub AreRefused : List TaskCall → Type 0
  AreRefused = AreNoCalls shown.setting shown.excused

  pub record CallsAreMet : Type 0 where
    pub jobs : List Dispatched
    pub are_given : map (λ (c : Dispatched). c.dispatch) jobs ≡ dispatches shown.journal shown.logs
    pub keep : Keep shown.setting shown.excused (begun ++ placed ++ given_up) jobs jobs

  pub record CallsAreRefused : Type 0 where
    -- `named`: a file is removed that is not to be moved; a call for no task; a temporary file for another destination;
    -- another time
    pub removes_source : AreRefused (ending removes_source)
    pub of_no_task : AreRefused (ending of_no_task)
    pub made_elsewhere : AreRefused (removes ∷ made_elsewhere ∷ writes_first ∷ placed ++ given_up)
    pub other_time : AreRefused (begun ++ renames_first ∷ other_time ∷ given_up)
    -- `in_order`: the removal, before which nothing had happened, comes last
    pub out_of_order : AreRefused (makes_first ∷ writes_first ∷ placed ++ given_up ++ removes ∷ [])
    -- `dry`: the run is dry
    pub dry : AreNoCalls (record shown.setting { dryrun = true }) shown.excused (begun ++ placed ++ given_up)
    -- `order`: an offset is written twice; the rename is tried twice; a write after the rename; another temporary file
    pub written_twice : AreRefused (begun ++ writes_first ∷ placed ++ given_up)
    pub renamed_twice : AreRefused (begun ++ renames_first ∷ placed ++ given_up)
    pub written_late : AreRefused (removes ∷ makes_first ∷ renames_first ∷ writes_first ∷ stamps_first ∷ given_up)
    pub made_twice : AreRefused (removes ∷ makes_first ∷ makes_first ∷ writes_first ∷ placed ++ given_up)
    -- `stops`: the run was cancelled before the download was written
    pub cancelled : AreNoCalls (record shown.setting { cancelled_at = Some 3 }) shown.excused
        (begun ++ placed ++ given_up)
    -- or the Get of its task had failed, where the jobs came in the order in which they were given
    pub after_failure : (dispatched : List Dispatched)
        → map (λ (c : Dispatched). c.dispatch) dispatched ≡ dispatches shown.journal shown.logs
        → ¬ (Keep shown.setting shown.excused (begun ++ placed ++ makes_second ∷ written_refused ∷ drops_second ∷ [])
        dispatched dispatched)
    -- `made`: what is written was not made
    pub never_made : AreRefused (removes ∷ writes_first ∷ placed ++ given_up)
    -- `made_first`: it was made once the Get of its task had been given
    pub made_late : AreRefused (removes ∷ made_late ∷ writes_first ∷ placed ++ given_up)
    -- `writes`: the Get had not come
    pub written_early : AreRefused (removes ∷ makes_first ∷ written_early ∷ placed ++ given_up)
    -- `renames`: before its range was written
    pub renamed_early : AreRefused (removes ∷ makes_first ∷ renamed_early ∷ stamps_first ∷ given_up)
    -- `stamps`: the renamed file has its time not set; `stamps_last`: one that was not renamed has
    pub never_stamped : AreRefused (begun ++ renames_first ∷ given_up)
    pub stamped_unrenamed : AreRefused (begun ++ placed ++ makes_second ∷ stamped_unrenamed ∷ drops_second ∷ [])
    -- `untimed`: its time could not be set, and no warning says so; `untimed_only`: a warning says so, and it could
    pub unwarned_time : AreRefused (begun ++ renames_first ∷ not_stamped ∷ given_up)
    pub warned_time : AreNoCalls shown.setting (record shown.excused { untimed = first_path ∷ [] })
        (begun ++ placed ++ given_up)
    -- `drops`: the temporary file of the download that failed stays without a try; `left`: no warning says that it
    -- stayed; `left_only`: a warning says so of a file that was renamed
    pub never_dropped : AreRefused (begun ++ placed ++ makes_second ∷ [])
    pub unwarned_file : AreNoCalls shown.setting (record shown.excused { left = [] }) (begun ++ placed ++ given_up)
    pub warned_file : AreNoCalls shown.setting (record shown.excused { left = first_temp ∷ second_temp ∷ [] })
        (begun ++ placed ++ given_up)

abbrev pub OtherFilesAreMet : Type 0
OtherFilesAreMet = OtherFilesStay shown

abbrev pub FileCallsAreMet : Type 0
FileCallsAreMet = (page_of : List ℕ → Listed) → CallsAreMet page_of

abbrev pub FileCallsAreRefused : Type 0
FileCallsAreRefused = (page_of : List ℕ → Listed) → CallsAreRefused page_of
