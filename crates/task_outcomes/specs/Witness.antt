-- A run of one small upload that meets what the law takes beside it.
use Rattle.std.specs.Prelude.{[], ◌∷◌, ◌≡◌, ℕ}
use Rattle.jobs.specs.Holders.{Holder}
use Rattle.jobs.specs.declared.what.What.{What}
use Rattle.manager_moves.specs.Examples.{shared, upload}
use Rattle.s3_model.specs.Talks.{Talk}
use Rattle.s3_model.specs.declared.bytes.Part.{Part}
use Rattle.s3_model.specs.declared.outcomes.Cause.{Cause}
use Rattle.s3_model.specs.declared.requests.Ask.{Ask}
use Rattle.task_schedule.specs.Witness.{ShowsStored, put_run, small_put, small_setting}
use Rattle.task_outcomes.specs.Causes.{HaveOneStatus, IsTold}

-- every answer has the status 200
abbrev pub IsOk : Ask → ℕ → Talk → ℕ → Type 0
IsOk asked limit talk status = status ≡ 200

-- no call on files failed
abbrev pub NoneFailed : ℕ → Cause → Type 0
NoneFailed n why = ⊥

-- Whatever a job keeps of its task, its cell and its part.
abbrev pub ToldIsMet : Type 0
ToldIsMet = (for : What) (cell : Holder) (part : Part) → HaveOneStatus ShowsStored IsOk NoneFailed
    × IsTold ShowsStored IsOk NoneFailed (shared (upload ∷ []) 1 1 1) small_setting 0 (put_run for cell part)
    (small_put ∷ [])
