-- A whole run of one upload in two parts that meets what the laws take.
use Rattle.std.specs.Prelude.{[], ◌∷◌, ◌≡◌, ◌+◌, ℕ, false, List, Some, None}
use Rattle.jobs.specs.Holders.{Holder}
use Rattle.jobs.specs.Jobs.{IsAskOf}
use Rattle.jobs.specs.declared.ending.Ending.TheVariants as ending
use Rattle.jobs.specs.declared.what.What.{What}
use Rattle.manager_moves.specs.Examples.{back, shared}
use Rattle.manager_moves.specs.Runs.{Called, Events, Lined, Made, Sent, share}
use Rattle.job_terms.specs.Attempts.{in_first}
use Rattle.job_terms.specs.Dispatches.{Dispatched}
use Rattle.run_promise.specs.Schedule.{Setting, most_body}
use Rattle.job_terms.specs.Jobs.{job_of}
use Rattle.s3_model.specs.Documents.{document_of}
use Rattle.s3_model.specs.Parts.{piece_of}
use Rattle.s3_model.specs.Talks.{Began, Moment, Note, Talk}
use Rattle.s3_model.specs.declared.answers.Class.{Class}
use Rattle.s3_model.specs.declared.answers.Class.TheVariants as class
use Rattle.s3_model.specs.declared.answers.Reply.{Reply}
use Rattle.s3_model.specs.declared.answers.Reply.TheVariants as reply
use Rattle.s3_model.specs.declared.bytes.Part.{Part}
use Rattle.s3_model.specs.declared.outcomes.JobId.{JobId}
use Rattle.s3_model.specs.declared.requests.Ask.{Ask}
use Rattle.s3_model.specs.declared.requests.Ask.TheVariants as ask
use Rattle.s3_model.specs.declared.requests.Op.TheVariants as op
use Rattle.s3_model.specs.declared.tasks.Kind.TheVariants as kind
use Rattle.s3_model.specs.declared.tasks.Task.{Task}
use Rattle.s3_model.specs.declared.tries.Mark.TheVariants as mark
use Rattle.std.specs.Prelude.{true}
use Rattle.task_acts.specs.Examples.{in_pieces}
use Rattle.task_acts.specs.declared.acts.Act.TheVariants as act
use Rattle.task_acts.specs.declared.acts.FileCame.TheVariants as file
use Rattle.task_acts.specs.declared.work.Work.{Work}
use Rattle.kept_jobs.specs.Steps.{IsStepOf}
use Rattle.task_schedule.specs.Journals.{ShowOne}
use Rattle.task_schedule.specs.Witness.{no_talk, small_setting, small_task}
use Rattle.run_schedule.specs.Runs.{IsWholeRun}
use Rattle.run_schedule.specs.Witness.{no_text}

-- ---- the task

-- 8 bytes in pieces of 4
abbrev pub work : Work
work = in_pieces kind.Upload false 2 8

abbrev pub large_task : Task
large_task = record small_task { size = 8 }

abbrev pub setting : Setting
setting = record small_setting {
  config = record { threshold = 8; chunk = 4; lanes = 1; queue = 1; buffers = 2; attempts = 3 };
  tasks = large_task ∷ [];
}

-- ---- its requests

abbrev pub id : List ℕ
id = 1 ∷ []

abbrev pub etag : List ℕ
etag = 2 ∷ []

-- what the service replies
abbrev pub reply_to : Ask → Reply
reply_to (ask.Create bucket key content) = reply.Created id
reply_to (ask.Part bucket key upload number) = reply.PartStored etag
reply_to (ask.Complete bucket key upload etags fresh) = reply.Completed
reply_to asked = reply.Stored

-- every talk shows that reply
abbrev pub ShowsReply : Ask → ℕ → Talk → Class → List ℕ → Type 0
ShowsReply asked limit talk shown bytes = shown ≡ class.Success (reply_to asked)

-- a job that was given at that place, and came at the next
abbrev pub given_at : ℕ → JobId → Ask → (body : List ℕ) → Dispatched
given_at place job asked body = record {
  dispatch = record {
    job = job;
    lane = 0;
    given_at = place;
    came_at = Some (place + 1);
    earlier = 0;
    is_second = false;
    attempts = record { mark = mark.Success; talk = no_talk } ∷ [];
  };
  ask = asked;
  body = body;
  limit = most_body;
  size = 8;
}

abbrev pub complete_ask : Ask
complete_ask = ask.Complete [] [] id (record { items = etag ∷ etag ∷ []; spare = 0 }) false

abbrev pub create : Dispatched
create = given_at 0 (job_of 0 op.Create 0) (ask.Create [] [] None) (document_of (ask.Create [] [] None))

abbrev pub first : Dispatched
first = given_at 2 (job_of 0 op.Part 1) (ask.Part [] [] id 1) (piece_of [] 4 1)

abbrev pub second : Dispatched
second = given_at 4 (job_of 0 op.Part 2) (ask.Part [] [] id 2) (piece_of [] 4 2)

abbrev pub complete : Dispatched
complete = given_at 6 (job_of 0 op.Complete 0) complete_ask (document_of complete_ask)

abbrev pub jobs : List Dispatched
jobs = create ∷ first ∷ second ∷ complete ∷ []

abbrev pub logs : ℕ → List Talk
logs = in_first (no_talk ∷ no_talk ∷ no_talk ∷ no_talk ∷ [])

abbrev pub notes : ℕ → List Note
notes = in_first (Moment 0 ∷ Began ∷ Moment 0 ∷ Began ∷ Moment 0 ∷ Began ∷ Moment 0 ∷ Began ∷ [])

-- ---- the run

abbrev pub made : Events
made = Made true ∷ []

module _ (to_create to_first to_second to_complete : What) (cell : Holder) (part : Part) where
  abbrev pub created : Events
  created = back to_create cell part 0 0 op.Create 0 (mark.Success ∷ []) (ending.Gained (reply.Created id))
      ∷ Sent 0 op.Create 0 0 ∷ made

  abbrev pub first_read : Events
  first_read = Called 0 (act.Read 1) file.Fine ∷ created

  -- the second part is read while the first is out
  abbrev pub first_stored : Events
  first_stored = back to_first cell part 0 0 op.Part 1 (mark.Success ∷ []) (ending.Gained (reply.PartStored etag))
      ∷ Called 0 (act.Read 2) file.Fine ∷ Sent 0 op.Part 1 0 ∷ first_read

  abbrev pub second_stored : Events
  second_stored = back to_second cell part 0 0 op.Part 2 (mark.Success ∷ []) (ending.Gained (reply.PartStored etag))
      ∷ Sent 0 op.Part 2 0 ∷ first_stored

  abbrev pub parts_run : Events
  parts_run = Lined ∷ back to_complete cell part 0 0 op.Complete 0 (mark.Success ∷ []) (ending.Gained reply.Completed)
      ∷ Sent 0 op.Complete 0 0 ∷ second_stored

  -- Whatever its jobs keep of their task, their cells and their parts.
  abbrev pub PartsRunIsMet : Type 0
  PartsRunIsMet = IsStepOf large_task work (share work 0 made) op.Create 0 to_create
      → IsStepOf large_task work (share work 0 first_read) op.Part 1 to_first
      → IsStepOf large_task work (share work 0 first_stored) op.Part 2 to_second
      → IsStepOf large_task work (share work 0 second_stored) op.Complete 0 to_complete
      → IsAskOf create.dispatch.job to_create create.ask → IsAskOf first.dispatch.job to_first first.ask
      → IsAskOf second.dispatch.job to_second second.ask → IsAskOf complete.dispatch.job to_complete complete.ask
      → ShowOne ShowsReply × IsWholeRun ShowsReply no_text [] 0 (shared (work ∷ []) 1 1 2) setting []
      parts_run logs notes jobs jobs

abbrev pub PartsRunsAreMet : Type 0
PartsRunsAreMet = (to_create to_first to_second to_complete : What) (cell : Holder) (part : Part)
    → PartsRunIsMet to_create to_first to_second to_complete cell part
