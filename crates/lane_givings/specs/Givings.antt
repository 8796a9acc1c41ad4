-- The jobs that are out in the lanes of a run, as they were given.
use Rattle.std.specs.Prelude.{◌≡◌, ◌≤◌, ◌<◌, [], ◌∷◌, ℕ, true, List, Option, Some, None, IfSome, get_or, is_some, map}
use Rattle.std.specs.Prelude.{not, slice_get}
use Rattle.jobs.specs.Jobs.{SeenJob}
use Rattle.manager_moves.specs.Lanes.{jobs_in}
use Rattle.manager_moves.specs.Runs.{Back, Events, Shared, made_count, share}
use Rattle.job_terms.specs.Buffers.{holds_buffer}
use Rattle.job_terms.specs.Ops.{is_op}
use Rattle.job_terms.specs.Jobs.{job_of}
use Rattle.s3_model.specs.declared.bytes.Part.{Part}
use Rattle.s3_model.specs.declared.outcomes.JobId.{JobId}
use Rattle.s3_model.specs.declared.requests.Op.{Op}
use Rattle.s3_model.specs.declared.requests.Op.TheVariants as op
use Rattle.task_acts.specs.declared.acts.Act.{Act}
use Rattle.task_acts.specs.declared.acts.Act.TheVariants as act
use Rattle.task_acts.specs.declared.work.Work.{Work}
use Rattle.task_acts.specs.Histories.{History}
use Rattle.task_acts.specs.Kept.{has_cell, kept_job, tries_before}
use Rattle.task_acts.specs.Stages.{is_out, stage}

-- the act by which a job is given
abbrev pub act_of : JobId → Act
act_of id = act.Send id.op id.number

-- its task is made, and its act was given and has not come back
pub record IsOut (s : Shared) (events : Events) (id : JobId) : Type 0 where
  pub task : ℕ
  pub is_task : id.task ≡ Some task
  pub work : Work
  pub there : slice_get s.works task ≡ Some work
  pub made : task < made_count events
  pub out : is_out (stage work (share work task events) (act_of id)) ≡ true

-- ---- as it was given

-- a part is of that room at least
abbrev pub HasRoom : (room : ℕ) → Option Part → Type 0
HasRoom room part = IfSome part (λ p. room ≤ p.bytes.room)

-- It has a cell exactly at a first giving that is no Abort, the attempts of an earlier giving, and exactly where its op
-- takes one a part of that room.
pub record IsAsGiven (room : ℕ) (w : Work) (history : History) (job : SeenJob) : Type 0 where
  pub cell : is_some job.cell ≡ has_cell (stage w history (act_of job.id)) job.id.op
  pub had : job.had ≡ tries_before history (act_of job.id)
  pub part : is_some job.part ≡ holds_buffer job.id.op
  pub has_room : HasRoom room job.part

abbrev pub IsAsGivenIn : (room : ℕ) → Shared → Events → SeenJob → Type 0
IsAsGivenIn room s events job = (n : ℕ) (w : Work) → job.id.task ≡ Some n → slice_get s.works n ≡ Some w
    → IsAsGiven room w (share w n events) job

-- ---- jobs in lanes

-- these jobs are out in that lane, the oldest first, as they were given
pub record HoldsLane (room : ℕ) (s : Shared) (events : Events) (lane : ℕ) (jobs : List SeenJob) : Type 0 where
  pub ids : map (λ (job : SeenJob). job.id) jobs ≡ jobs_in lane events
  pub given : (place : ℕ) (job : SeenJob) → slice_get jobs place ≡ Some job → IsAsGivenIn room s events job

-- the parts of jobs that came back are of that room
abbrev pub HadRoom : (room : ℕ) → Events → Type 0
HadRoom room [] = Unit {0}
HadRoom room (Back lane carried ∷ before) = HasRoom room carried.job.part × HadRoom room before
HadRoom room (event ∷ before) = HadRoom room before

-- in each lane are the jobs that are out in it
pub record HoldJobs (room : ℕ) (s : Shared) (events : Events) (lanes : List (List SeenJob)) : Type 0 where
  pub each : (lane : ℕ) → HoldsLane room s events lane (get_or lanes lane [])
  pub rooms : HadRoom room events

-- ---- jobs that are given, and that come back

-- a job at its first giving
pub record IsFirstGiven (room : ℕ) (id : JobId) (job : SeenJob) : Type 0 where
  pub is : job.id ≡ id
  pub cell : is_some job.cell ≡ not (is_op id.op op.Abort)
  pub had : job.had ≡ 0
  pub part : is_some job.part ≡ holds_buffer id.op
  pub has_room : HasRoom room job.part

-- the job that was kept to be given again, or one at its first giving
abbrev pub IsGivenAs : (room : ℕ) → JobId → Option SeenJob → SeenJob → Type 0
IsGivenAs room id (Some kept) job = job ≡ kept
IsGivenAs room id None job = IsFirstGiven room id job

-- the job of that task, op and number as it is given next
abbrev pub IsGivenNext : (room : ℕ) → Shared → Events → (task : ℕ) → Op → (number : ℕ) → SeenJob → Type 0
IsGivenNext room s events task of_op number job = (w : Work) → slice_get s.works task ≡ Some w
    → IsGivenAs room (job_of task of_op number) (kept_job w (share w task events) (act.Send of_op number)) job

-- the same id and attempts before, and a cell and a part exactly where the job had them
pub record IsSameJob (given now : SeenJob) : Type 0 where
  pub id : now.id ≡ given.id
  pub cell : is_some now.cell ≡ is_some given.cell
  pub had : now.had ≡ given.had
  pub part : is_some now.part ≡ is_some given.part
