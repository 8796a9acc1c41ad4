-- What happened to a task.
use Rattle.std.specs.Prelude.{◌==◌, ◌&&◌, ℕ, Bool, true, false, List}
use Rattle.jobs.specs.Endings.{SeenCarried}
use Rattle.job_terms.specs.Ops.{is_op}
use Rattle.s3_model.specs.declared.outcomes.Reason.{Reason}
use Rattle.s3_model.specs.declared.requests.Op.{Op}
use Rattle.task_acts.specs.declared.acts.Act.{Act}
use Rattle.task_acts.specs.declared.acts.Act.TheVariants as act
use Rattle.task_acts.specs.declared.acts.FileCame.{FileCame}

pub data Happening : Type 0 where
  -- an act was given
  Gave : (given : Act) → Happening
  -- a job came back
  Came : (carried : SeenCarried) → Happening
  -- a call on files came back
  Returned : (called : Act) → (result : FileCame) → Happening
  -- the run was cancelled
  Cancelled : (reason : Reason) → Happening
  -- a job that was kept was taken to be given again
  Taken : (of_op : Op) → (number : ℕ) → Happening

-- the newest first
abbrev pub History : Type 0
History = List Happening

abbrev pub is_act : Act → Act → Bool
is_act (act.Send a m) (act.Send b n) = is_op a b && (m == n)
is_act (act.Read m) (act.Read n) = m == n
is_act act.Assemble act.Assemble = true
is_act (act.Place m) (act.Place n) = m == n
is_act act.Rename act.Rename = true
is_act act.DropTemp act.DropTemp = true
is_act act.Remove act.Remove = true
is_act act.Stamp act.Stamp = true
is_act a b = false

-- the act by which a job that came was given
abbrev pub sent : SeenCarried → Act
sent carried = act.Send carried.job.id.op carried.job.id.number
