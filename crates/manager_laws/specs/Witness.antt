-- A run that meets what the laws take: one small upload that a manager keeps to its end.
use Rattle.std.specs.Arc.{arc_value}
use Rattle.std.specs.Prelude.{◌≡◌, [], ◌∷◌, ℕ, List, Some}
use Rattle.std.specs.declared.alloc.Global.{Global}
use Rattle.std.specs.declared.sync.Arc.{Arc}
use Rattle.answer_classes.specs.Showing.{Shows}
use Rattle.attempts.specs.Attempts.{text_of}
use Rattle.job_terms.specs.Dispatches.{Dispatched}
use Rattle.jobs.specs.Holders.{Holder}
use Rattle.lane_journals.specs.Witness.{put_logs}
use Rattle.manager_core.specs.Kept.{SeenManager}
use Rattle.manager_core.specs.Running.{Start}
use Rattle.manager_moves.specs.Examples.{shared, upload}
use Rattle.run_promise.specs.Schedule.{Setting}
use Rattle.run_schedule.specs.Runs.{KeepsPlanning}
use Rattle.run_schedule.specs.Witness.{notes}
use Rattle.s3_model.specs.declared.places.Endpoint.{Endpoint}
use Rattle.s3_model.specs.declared.places.Place.TheVariants as place
use Rattle.s3_model.specs.declared.settings.Keys.{Keys}
use Rattle.s3_model.specs.declared.tasks.Task.{Task}
use Rattle.task_schedule.specs.Journals.{ShowOne}
use Rattle.task_schedule.specs.Witness.{put_run, small_setting, small_task}
use Rattle.whole_runs.specs.Witness.{put_jobs, put_part, put_sent, put_step}
use Rattle.manager_laws.specs.Ends.{IsRunOfManager}

-- the small upload, of a file at that path: a plan takes no upload without one
abbrev pub file_task : (path : List ℕ) → Task
file_task path = record small_task { source = Some (place.File path) }

abbrev pub file_setting : (path : List ℕ) → Setting
file_setting path = record small_setting { tasks = file_task path ∷ [] }

abbrev pub file_start : (path : List ℕ) → Start
file_start path = record {
  plan = record {
    tasks = record { items = file_task path ∷ []; spare = 0 };
    warnings = record { items = []; spare = 0 };
  };
  planning = [];
  config = small_setting.config;
  limits = small_setting.limits;
}

-- an upload of a file asks nothing before its task
abbrev pub asks_nothing : List Dispatched → Type 0
asks_nothing planned = planned ≡ []

-- Whatever the service, the keys, the path and the cell, a manager keeps it: its Put is sent once, and stored.
abbrev pub ManagerRunIsMet : Type 0
ManagerRunIsMet = (endpoint : Endpoint) (keys : Keys) (path : List ℕ) (cell : Holder) (shared_task : Arc Task Global)
    → arc_value shared_task ≡ file_task path → let for = put_step shared_task in
    ShowOne Shows × (m : SeenManager)
    × IsRunOfManager Shows (text_of endpoint keys) endpoint.host endpoint.port (file_start path)
    (shared (upload ∷ []) 1 1 1) (file_setting path) (put_run for cell put_part) m (put_logs endpoint keys) notes
    (put_jobs for cell put_part) (put_sent endpoint keys ∷ []) (put_sent endpoint keys ∷ [])
    × KeepsPlanning Shows (file_setting path) asks_nothing (put_sent endpoint keys ∷ [])
