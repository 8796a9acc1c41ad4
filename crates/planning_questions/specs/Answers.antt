-- What comes back of a request of the planning, and what it says.
use Rattle.std.specs.Prelude.{◌≡◌, ◌⊎◌, List, Result, Ok, Err, IfOk}
use Rattle.jobs.specs.Endings.{IsReplyTo, SeenCarried}
use Rattle.jobs.specs.declared.ending.Ending.{Ending}
use Rattle.jobs.specs.declared.ending.Ending.TheVariants as ending
use Rattle.pending_jobs.specs.Pending.{IsOldestOf}
use Rattle.pending_jobs.specs.declared.pending.Pending.{Pending}
use Rattle.s3_model.specs.declared.answers.Reply.{Reply}
use Rattle.s3_model.specs.declared.answers.Why.TheVariants as why
use Rattle.s3_model.specs.declared.outcomes.Cause.TheVariants as cause
use Rattle.s3_model.specs.declared.requests.Op.{Op}
use Rattle.planning_questions.specs.declared.halt.Halt.{Halt}
use Rattle.planning_questions.specs.declared.halt.Halt.TheVariants as halt

-- what a job of the planning says by its ending; it has no cell, so what comes back cancelled is not that job
abbrev pub said_by : Op → Ending → Result Reply Halt
said_by op (ending.Gained said) = Ok said
said_by op (ending.Refused status code message) = Err (halt.Answer (cause.Service op code message))
said_by op (ending.Uncertain why.Memory) = Err halt.Memory
said_by op (ending.Uncertain reason) = Err (halt.Answer (cause.Lost op reason))
said_by op (ending.Cancelled reason) = Err halt.Stranger
said_by op ending.Memory = Err halt.Memory

-- what came back of a lane with these jobs out may be the oldest, and says this; or it cannot be
abbrev pub SaysBack : (out : List Pending) → SeenCarried → Result Reply Halt → Type 0
SaysBack out carried result =
    (IsOldestOf out carried.job × (result ≡ said_by carried.job.id.op carried.ending)
    × IfOk result (IsReplyTo carried.job.id.op))
    ⊎ ((¬ (IsOldestOf out carried.job)) × (result ≡ Err halt.Stranger))
