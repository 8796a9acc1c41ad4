-- A whole run of one small upload that meets what the laws take.
use Rattle.std.specs.Prelude.{[], ◌∷◌, ℕ, List}
use Rattle.jobs.specs.Holders.{Holder}
use Rattle.jobs.specs.Jobs.{IsAskOf}
use Rattle.jobs.specs.declared.what.What.{What}
use Rattle.manager_moves.specs.Examples.{shared, upload}
use Rattle.manager_moves.specs.Runs.{share}
use Rattle.job_terms.specs.Attempts.{in_first}
use Rattle.job_terms.specs.Jobs.{job_of}
use Rattle.s3_model.specs.Talks.{Began, Moment, Note, Talk}
use Rattle.s3_model.specs.declared.bytes.Part.{Part}
use Rattle.s3_model.specs.declared.requests.Ask.{Ask}
use Rattle.s3_model.specs.declared.requests.Op.TheVariants as op
use Rattle.kept_jobs.specs.Steps.{IsStepOf}
use Rattle.task_schedule.specs.Journals.{ShowOne}
use Rattle.task_schedule.specs.Witness.{ShowsStored, no_talk, put_run, read_run, small_put, small_setting, small_task}
use Rattle.run_schedule.specs.Runs.{IsWholeRun}

-- what its one wire gained
abbrev pub logs : ℕ → List Talk
logs = in_first (no_talk ∷ [])

abbrev pub notes : ℕ → List Note
notes = in_first (Moment 0 ∷ Began ∷ [])

-- every request is an empty text
abbrev pub no_text : Ask → List ℕ → ℕ → List ℕ
no_text asked body moment = []

-- Whatever a job keeps of its task, its cell and its part.
abbrev pub WholeRunIsMet : Type 0
WholeRunIsMet = (for : What) (cell : Holder) (part : Part)
    → IsStepOf small_task upload (share upload 0 read_run) op.Put 0 for
    → IsAskOf (job_of 0 op.Put 0) for small_put.ask
    → ShowOne ShowsStored × IsWholeRun ShowsStored no_text [] 0 (shared (upload ∷ []) 1 1 1) small_setting []
    (put_run for cell part) logs notes (small_put ∷ []) (small_put ∷ [])
