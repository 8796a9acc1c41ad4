-- Causes that stand for others: a later failure for the first one, and a cause of a copy whose source is gone.
use Rattle.std.specs.Prelude.{◌≢◌, ℕ, List, []}
use Rattle.s3_model.specs.declared.answers.Listed.{Listed}
use Rattle.s3_model.specs.declared.answers.Why.TheVariants as why
use Rattle.s3_model.specs.declared.outcomes.Cause.{Cause}
use Rattle.s3_model.specs.declared.outcomes.Cause.TheVariants as cause
use Rattle.s3_model.specs.declared.outcomes.Outcome.{Outcome}
use Rattle.s3_model.specs.declared.outcomes.Outcome.TheVariants as outcome
use Rattle.s3_model.specs.declared.requests.Op.{Op}
use Rattle.s3_model.specs.declared.requests.Op.TheVariants as op
use Rattle.s3_model.specs.declared.tasks.Task.{Task}
use Rattle.promise_examples.specs.Everything.{upload}
use Rattle.promise_examples.specs.FailedUpload.{denied, failed_run}
use Rattle.promise_examples.specs.Reading.{NeverFailed}
use Rattle.promise_examples.specs.Runs.{Example}
use Rattle.rare_runs.specs.MovedDownload.{load, moved_run}
use Rattle.refused_outcomes.specs.Told.{IsRefused, IsTold}

module _ (page_of : List ℕ → Listed) where
  -- its first part was denied, and its second one lost after that
  pub record FirstFailureIsMet : Type 0 where
    pub first : IsTold page_of NeverFailed failed_run upload (outcome.Failed (cause.Service op.Part denied []))

  pub record LaterFailureIsRefused : Type 0 where
    pub later : IsRefused page_of NeverFailed failed_run upload (outcome.Failed (cause.Lost op.Part why.WireFailed))
    -- nor any outcome but the one for the denial
    pub others : (other : Outcome) → other ≢ outcome.Failed (cause.Service op.Part denied [])
        → IsRefused page_of NeverFailed failed_run upload other

  -- the source of a moved download was deleted
  pub record DeletedSourceIsMet : Type 0 where
    pub done : IsTold page_of NeverFailed moved_run load outcome.Done

  pub record CopiedCausesAreRefused : Type 0 where
    -- so it was not copied alone, for any cause
    pub deleted : (why : Cause) → IsRefused page_of NeverFailed moved_run load (outcome.Copied why)
    -- in no run is a task copied for a bad reply to another request than its Delete, as its Get
    pub bad_reply : (e : Example) (task : Task) (of_op : Op) → of_op ≢ op.Delete
        → IsRefused page_of NeverFailed e task (outcome.Copied (cause.BadReply of_op))

abbrev pub FirstFailuresAreMet : Type 0
FirstFailuresAreMet = (page_of : List ℕ → Listed) → FirstFailureIsMet page_of

abbrev pub LaterFailuresAreRefused : Type 0
LaterFailuresAreRefused = (page_of : List ℕ → Listed) → LaterFailureIsRefused page_of

abbrev pub DeletedSourcesAreMet : Type 0
DeletedSourcesAreMet = (page_of : List ℕ → Listed) → DeletedSourceIsMet page_of

abbrev pub EachCopiedCauseIsRefused : Type 0
EachCopiedCauseIsRefused = (page_of : List ℕ → Listed) → CopiedCausesAreRefused page_of
