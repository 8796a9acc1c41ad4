-- The exit status of a run.
use Rattle.std.specs.Prelude.{◌≡◌, ◌≢◌, ◌⊎◌, ℕ, Bool, List, Option, Some, None, length, if◌then◌else◌}
use Rattle.result_lines.specs.Tasks.{status_of}
use Rattle.s3_model.specs.declared.outcomes.Cause.{Cause}
use Rattle.s3_model.specs.declared.outcomes.Cause.TheVariants as cause
use Rattle.s3_model.specs.declared.outcomes.Outcome.{Outcome}
use Rattle.s3_model.specs.declared.tasks.Warning.{Warning}
use Rattle.run_report.specs.declared.run.Fatal.{Fatal}
use Rattle.run_report.specs.declared.run.Fatal.TheVariants as fatal
use Rattle.run_report.specs.declared.run.Run.{Run}

-- a listing was refused, or nobody can know what it is
abbrev pub answer_status : Cause → ℕ
answer_status (cause.Service called code message) = 254
answer_status why = 255

-- `lists`: the command is a listing
abbrev pub fatal_status : (lists : Bool) → Fatal → ℕ
fatal_status lists (fatal.Words fault) = 252
fatal_status lists fatal.NotYet = 252
fatal_status lists (fatal.Profile fault) = 253
fatal_status lists fatal.EnvRead = 253
fatal_status lists fatal.Memory = 70
fatal_status lists (fatal.Listing fault) = if lists then 255 else 1
fatal_status lists (fatal.Answer why) = if lists then answer_status why else 1
fatal_status lists other = 1

-- Without a fatal it is 1 where a key was given and nothing was found (`missed`), else that of the outcomes and the
-- warnings.
abbrev pub status_by : (lists missed : Bool) → Option Fatal → List Outcome → List Warning → ℕ
status_by lists missed (Some why) outcomes warnings = fatal_status lists why
status_by lists missed None outcomes warnings = if missed then 1 else status_of outcomes (length warnings)

-- the status of a run whose lines could be written
abbrev pub run_status : (lists missed : Bool) → Run → ℕ
run_status lists missed run = status_by lists missed run.fatal run.outcomes.items run.warnings.items

-- The status is that, or 74 where an output failed; where memory ran out it is 70, whatever the outputs did.
abbrev pub EndsWith : (lists missed : Bool) → Run → (OutputFailed : Type 0) → Type 0
EndsWith lists missed run OutputFailed = (run.status ≡ run_status lists missed run)
    ⊎ ((run.status ≡ 74) × OutputFailed × (run.fatal ≢ Some fatal.Memory))
