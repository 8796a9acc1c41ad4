-- What a task keeps of the jobs that came: jobs that are given again, the upload and the entity tags.
use Rattle.std.specs.Option.{option_or}
use Rattle.std.specs.Prelude.{◌+◌, ◌&&◌, [], ◌∷◌, ℕ, Bool, true, false, List, Option, Some, None, length, map}
use Rattle.std.specs.Prelude.{is_some, not}
use Rattle.std.specs.Prelude.{if◌then◌else◌, ◌≡◌, ◌≢◌, IsSome}
use Rattle.jobs.specs.Endings.{IsEnded, SeenCarried}
use Rattle.jobs.specs.Jobs.{SeenJob}
use Rattle.jobs.specs.declared.ending.Ending.{Ending}
use Rattle.jobs.specs.declared.ending.Ending.TheVariants as ending
use Rattle.s3_model.specs.declared.answers.Reply.TheVariants as reply
use Rattle.s3_model.specs.declared.bytes.Part.{Part}
use Rattle.s3_model.specs.declared.outcomes.Reason.TheVariants as reason_of
use Rattle.s3_model.specs.declared.requests.Op.{Op}
use Rattle.s3_model.specs.declared.requests.Op.TheVariants as op
use Rattle.s3_outside.specs.declared.files.FileFault.TheVariants as fault
use Rattle.task_acts.specs.declared.acts.Act.{Act}
use Rattle.task_acts.specs.declared.acts.Act.TheVariants as act
use Rattle.task_acts.specs.declared.acts.FileCame.{FileCame}
use Rattle.task_acts.specs.declared.acts.FileCame.TheVariants as file
use Rattle.task_acts.specs.declared.acts.Stage.{Stage}
use Rattle.task_acts.specs.declared.acts.Stage.TheVariants as at
use Rattle.task_acts.specs.Failures.{is_cut_short, is_stopped}
use Rattle.task_acts.specs.Histories.{History, Happening, Gave, Came, Returned, Cancelled, Taken, is_act, sent}
use Rattle.task_acts.specs.Rule.{is_ready_in}
use Rattle.task_acts.specs.Stages.{is_out, stage}
use Rattle.task_acts.specs.declared.work.Work.{Work}
use Rattle.task_acts.specs.Work.{numbers, piece_op}

-- ---- jobs that are given again

-- without its cell, and with the attempts that it made
abbrev pub again : SeenCarried → SeenJob
again carried = record {
  id = carried.job.id;
  what = carried.job.what;
  part = carried.job.part;
  cell = None;
  had = carried.job.had + length carried.tries;
}

abbrev pub is_kept : Work → (stopped : Bool) → SeenCarried → Bool
is_kept w stopped carried = is_cut_short w carried && not stopped

-- the job that is kept under that op and number
abbrev pub kept_job : Work → History → Act → Option SeenJob
kept_job w [] of_act = None
kept_job w (Came carried ∷ before) of_act =
    if is_act of_act (sent carried)
    then (if is_kept w (is_stopped w before) carried then Some (again carried) else None)
    else kept_job w before of_act
kept_job w (Gave given ∷ before) of_act = if is_act of_act given then None else kept_job w before of_act
kept_job w (Taken of_op number ∷ before) of_act =
    if is_act of_act (act.Send of_op number) then None else kept_job w before of_act
kept_job w (Returned called result ∷ before) of_act = kept_job w before of_act
kept_job w (Cancelled reason ∷ before) of_act = kept_job w before of_act

-- the part of a job that came, which goes back where the job is not kept
abbrev pub part_back : Work → (stopped : Bool) → SeenCarried → Option Part
part_back w stopped carried = if is_kept w stopped carried then None else carried.job.part

-- ---- the upload and the entity tags

abbrev pub created_in : Ending → Option (List ℕ)
created_in (ending.Gained (reply.Created upload)) = Some upload
created_in ended = None

abbrev pub upload_in : SeenCarried → Option (List ℕ)
upload_in carried = if is_act (act.Send op.Create 0) (sent carried) then created_in carried.ending else None

abbrev pub etag_in : Ending → Option (List ℕ)
etag_in (ending.Gained (reply.PartStored etag)) = Some etag
etag_in ended = None

-- the upload that the reply to its Create named
abbrev pub upload_of : History → Option (List ℕ)
upload_of [] = None
upload_of (Came carried ∷ before) = option_or (upload_in carried) (upload_of before)
upload_of (Gave given ∷ before) = upload_of before
upload_of (Returned called result ∷ before) = upload_of before
upload_of (Cancelled reason ∷ before) = upload_of before
upload_of (Taken of_op number ∷ before) = upload_of before

-- the entity tag of that part, by the job that stored it
abbrev pub etag_of : History → Act → Option (List ℕ)
etag_of [] of_act = None
etag_of (Came carried ∷ before) of_act =
    if is_act of_act (sent carried) then etag_in carried.ending else etag_of before of_act
etag_of (Gave given ∷ before) of_act = etag_of before of_act
etag_of (Returned called result ∷ before) of_act = etag_of before of_act
etag_of (Cancelled reason ∷ before) of_act = etag_of before of_act
etag_of (Taken of_op number ∷ before) of_act = etag_of before of_act

-- those of all parts, in order of number
abbrev pub etags_of : Work → History → List (Option (List ℕ))
etags_of w history = map (λ number. etag_of history (act.Send (piece_op w.of_kind w.small) number)) (numbers w)

-- ---- what may happen

-- only the first giving of a job that is no Abort has a cell
abbrev pub has_cell : Stage → Op → Bool
has_cell how op.Abort = false
has_cell at.Out of_op = true
has_cell how of_op = false

abbrev pub is_file_act : Act → Bool
is_file_act (act.Send of_op number) = false
is_file_act of_act = true

-- only a Read comes short, and only making or renaming a temporary file finds something in its way
abbrev pub MayCome : Act → FileCame → Type 0
MayCome (act.Read number) (file.Fault (fault.Blocked length)) = ⊥
MayCome (act.Read number) result = Unit {0}
MayCome called file.Short = ⊥
MayCome act.Assemble result = Unit {0}
MayCome act.Rename result = Unit {0}
MayCome called (file.Fault (fault.Blocked length)) = ⊥
MayCome called result = Unit {0}

-- how many attempts the earlier giving of a job made, if there was one
abbrev pub tries_before : History → Act → ℕ
tries_before [] of_act = 0
tries_before (Came carried ∷ before) of_act =
    if is_act of_act (sent carried) then length carried.tries else tries_before before of_act
tries_before (Gave given ∷ before) of_act = tries_before before of_act
tries_before (Taken of_op number ∷ before) of_act = tries_before before of_act
tries_before (Returned called result ∷ before) of_act = tries_before before of_act
tries_before (Cancelled reason ∷ before) of_act = tries_before before of_act

-- A job that comes is one that is out, as it was given, and ended as its tries show.
abbrev pub MayHappen : Work → History → Happening → Type 0
MayHappen w history (Gave given) = is_ready_in w history given ≡ true
MayHappen w history (Came carried) = (is_out (stage w history (sent carried)) ≡ true)
    × (is_some carried.job.cell ≡ has_cell (stage w history (sent carried)) carried.job.id.op)
    × (carried.job.had ≡ tries_before history (sent carried))
    × IsEnded carried.ending carried.job.id.op carried.job.part carried.job.cell carried.tries
MayHappen w history (Returned called result) =
    (is_file_act called ≡ true) × (is_out (stage w history called) ≡ true) × MayCome called result
MayHappen w history (Cancelled reason) = reason ≢ reason_of.TaskFailed
MayHappen w history (Taken of_op number) = IsSome (kept_job w history (act.Send of_op number))

-- a history that can come about
abbrev pub IsHistory : Work → History → Type 0
IsHistory w [] = Unit {0}
IsHistory w (event ∷ before) = MayHappen w before event × IsHistory w before
