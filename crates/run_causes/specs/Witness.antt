-- A run that meets what the law on causes takes: a removal is cut by its cell before any attempt, given again, and then
-- memory runs out for it. And a neighbour that is none.
use Rattle.std.specs.Arc.{arc_value}
use Rattle.std.specs.Prelude.{◌≡◌, [], ◌∷◌, ℕ, Bool, true, false, Option, Some, None, is_some}
use Rattle.attempts.specs.Payloads.{body_of}
use Rattle.job_terms.specs.Dispatches.{Dispatched}
use Rattle.job_terms.specs.Jobs.{job_of}
use Rattle.jobs.specs.Endings.{SeenCarried}
use Rattle.jobs.specs.Jobs.{SeenJob}
use Rattle.jobs.specs.declared.ending.Ending.{Ending}
use Rattle.jobs.specs.declared.ending.Ending.TheVariants as ending
use Rattle.jobs.specs.declared.what.What.{What}
use Rattle.jobs.specs.declared.what.What.TheVariants as what
use Rattle.lane_jobs.specs.Lanes.{SeenCarrier}
use Rattle.lane_laws.specs.Runs.{Giving}
use Rattle.manager_moves.specs.Examples.{shared}
use Rattle.manager_moves.specs.Runs.{Shared}
use Rattle.run_causes.specs.Causes.{IsTracedRun, TellsMemory, TellsPlanning, TellsStops, TracedRun}
use Rattle.run_promise.specs.Schedule.{Setting, most_body}
use Rattle.run_traces.specs.Traces.{Gave, Lined, Made, RunTrace, Took, events_of}
use Rattle.s3_model.specs.declared.outcomes.Reason.{Reason}
use Rattle.s3_model.specs.declared.outcomes.Reason.TheVariants as reason_of
use Rattle.s3_model.specs.declared.places.Endpoint.{Endpoint}
use Rattle.s3_model.specs.declared.requests.Ask.TheVariants as ask
use Rattle.s3_model.specs.declared.requests.Op.TheVariants as op
use Rattle.s3_model.specs.declared.settings.Keys.{Keys}
use Rattle.s3_model.specs.declared.tasks.Kind.TheVariants as kind
use Rattle.s3_model.specs.declared.tasks.Task.{Task}
use Rattle.std.specs.declared.alloc.Global.{Global}
use Rattle.std.specs.declared.sync.Arc.{Arc}
use Rattle.task_acts.specs.Examples.{one_piece}
use Rattle.task_acts.specs.declared.work.Work.{Work}
use Rattle.task_schedule.specs.Witness.{small_setting, small_task}

-- ---- the task

abbrev pub removal_task : Task
removal_task = record small_task { kind = kind.RemoveObject }

abbrev pub removal_work : Work
removal_work = record (one_piece kind.RemoveObject false) { piece = 0 }

-- one lane
abbrev pub removals : Shared
removals = shared (removal_work ∷ []) 1 1 1

-- memory ran out for the tasks, and the one that failed did so for that
abbrev pub removal_setting : Setting
removal_setting = record small_setting {
  tasks = removal_task ∷ [];
  file_failed = λ n. true;
  wanted_memory = λ task. is_some task;
}

-- ---- its job

module _ (for : What) (cell : ℕ) where
  abbrev pub job : SeenJob
  job = record {
    id = job_of 0 op.Delete 0;
    what = for;
    part = None;
    cell = Some (record { cell = cell; known = None });
    had = 0;
  }

  abbrev pub job_cut : SeenCarried
  job_cut = record {
    job = record job { cell = Some (record { cell = cell; known = Some reason_of.TaskFailed }) };
    tries = [];
    ending = ending.Cancelled reason_of.TaskFailed;
  }

  abbrev pub job_again : SeenJob
  job_again = record job { cell = None }

  abbrev pub job_forgotten : SeenCarried
  job_forgotten = record { job = job_again; tries = []; ending = ending.Memory }

  -- ---- its run

  abbrev pub given_once : RunTrace
  given_once = Gave 0 job ∷ Made true ∷ []

  abbrev pub cut_once : RunTrace
  cut_once = Lined ∷ Took 0 job_forgotten ∷ Gave 0 job_again ∷ Took 0 job_cut ∷ given_once

  -- a neighbour: the job that ended is given again
  abbrev pub given_late : RunTrace
  given_late = Gave 0 job_again ∷ Took 0 (record job_cut { ending = ending.Memory }) ∷ given_once

-- ---- its dispatches

-- the one that is given there and comes there, without an attempt
abbrev pub sent : (given_at came_at : ℕ) → (is_second : Bool) → Dispatched
sent given_at came_at is_second = record {
  dispatch = record {
    job = job_of 0 op.Delete 0;
    lane = 0;
    given_at = given_at;
    came_at = Some came_at;
    earlier = 0;
    is_second = is_second;
    attempts = [];
  };
  ask = ask.Delete [] [];
  body = body_of (ask.Delete [] []) [];
  limit = most_body;
  size = 5;
}

abbrev pub giving : Dispatched → Ending → Option Reason → Giving
giving of_job ended gave = record { of = of_job; classes = []; ended = ended; gave = gave }

abbrev pub first_sent : Dispatched
first_sent = sent 0 1 false

abbrev pub second_sent : Dispatched
second_sent = sent 2 3 true

abbrev pub first_giving : Giving
first_giving = giving first_sent (ending.Cancelled reason_of.TaskFailed) (Some reason_of.TaskFailed)

abbrev pub second_giving : Giving
second_giving = giving second_sent ending.Memory None

-- ---- the run with its wires, which stay unused

-- to that service, in at most three attempts
abbrev pub removal_carrier : Endpoint → Keys → SeenCarrier
removal_carrier endpoint keys = record { endpoint = endpoint; keys = keys; attempts = 3 }

-- what its task is for
abbrev pub removal_step : Arc Task Global → What
removal_step shared_task = what.Step shared_task (0, 0) None None

abbrev pub cut_run : Endpoint → Keys → (cell : ℕ) → Arc Task Global → TracedRun
cut_run endpoint keys cell shared_task = record {
  carrier = removal_carrier endpoint keys;
  shared = removals;
  setting = removal_setting;
  planning = [];
  trace = cut_once (removal_step shared_task) cell;
  logs = λ lane. [];
  notes = λ lane. [];
  givings = first_giving ∷ second_giving ∷ [];
  coming = first_sent ∷ second_sent ∷ [];
}

abbrev pub CutRunIsMet : Type 0
CutRunIsMet = (endpoint : Endpoint) (keys : Keys) (cell : ℕ) (shared_task : Arc Task Global)
    → arc_value shared_task ≡ removal_task → let r = cut_run endpoint keys cell shared_task in
    IsTracedRun r × TellsStops r × TellsMemory r.shared r.setting (events_of r.trace)
    × TellsPlanning r.setting r.trace

-- whatever its planning, its wires and its dispatches
abbrev pub NoneIsGivenLate : Type 0
NoneIsGivenLate = (r : TracedRun) (for : What) (cell : ℕ) → r.shared ≡ removals → r.trace ≡ given_late for cell
    → ¬ (IsTracedRun r)
