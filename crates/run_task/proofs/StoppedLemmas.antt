-- A run that was stopped before its task.
use Rattle.std.proofs.Common.{ℕ, Option, inl, refl}
use Rattle.s3_model.specs.declared.places.Endpoint.{Endpoint}
use Rattle.s3_model.specs.declared.settings.Keys.{Keys}
use Rattle.s3_model.specs.declared.tasks.Task.{Task}
use Rattle.s3_model.specs.Talks.{WireLog}
use Rattle.s3_outside.specs.Files.{SeenFiles}
use Rattle.job_terms.specs.Gains.{Gains}
use Rattle.job_terms.proofs.GainLemmas.{gains_nothing}
use Rattle.run_report.specs.declared.run.Run.{Run}
use Rattle.run_report.specs.Taskless.{EndsForMemory}
use Rattle.run_task.specs.Uploaded.{MayUpload}

-- memory ran out, and nothing was sent
pub stopped_goes : (endpoint : Endpoint) (keys : Keys) (attempts : ℕ) (task : Task) (now : Option SeenFiles) (before after : ℕ) (run : Run) (seen : Option WireLog) → EndsForMemory run
    → Gains seen seen (MayUpload endpoint keys attempts task now before after run)
stopped_goes endpoint keys attempts task now before after run seen memory =
    gains_nothing (MayUpload endpoint keys attempts task now before after run) seen (inl (record { stopped = memory; no_talk = refl; no_note = refl }))
