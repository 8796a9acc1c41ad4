-- The causes of a small upload whose Put had two attempts.
use Rattle.std.specs.Prelude.{ℕ, List, [], ◌∷◌, codes}
use Rattle.s3_model.specs.declared.answers.Listed.{Listed}
use Rattle.s3_model.specs.declared.answers.Why.TheVariants as why
use Rattle.s3_model.specs.declared.outcomes.Cause.{Cause}
use Rattle.s3_model.specs.declared.outcomes.Cause.TheVariants as cause
use Rattle.s3_model.specs.declared.outcomes.Outcome.TheVariants as outcome
use Rattle.s3_model.specs.declared.requests.Op.TheVariants as op
use Rattle.s3_model.specs.declared.tries.Mark.TheVariants as mark
use Rattle.s3_model.specs.Talks.{Talk, Closed, Moment, Pause, Began}
use Rattle.job_terms.specs.Attempts.{in_first}
use Rattle.promise_examples.specs.Lies.{lost_then_denied, lost_twice}
use Rattle.promise_examples.specs.Reading.{NeverFailed}
use Rattle.promise_examples.specs.Refused.{denied_at, once, run, sent_at, task}
use Rattle.promise_examples.specs.Runs.{Example}
use Rattle.refused_outcomes.specs.Told.{HasOnly, IsRefused}

-- the service was busy
abbrev pub busy_at : ℕ → Talk
busy_at moment = sent_at moment Closed (codes "SlowDown")

-- the service was busy at the first attempt, and denied the second one
abbrev pub busy_then_denied : Example
busy_then_denied = run (once (mark.Refusal ∷ mark.Refusal ∷ [])) (in_first (busy_at 5 ∷ denied_at 6 ∷ []))
    (in_first (Moment 5 ∷ Began ∷ Pause 1 ∷ Moment 6 ∷ Began ∷ []))

abbrev pub was_denied : Cause
was_denied = cause.Service op.Put (codes "AccessDenied") []

abbrev pub was_lost : Cause
was_lost = cause.Lost op.Put why.WireFailed

module _ (page_of : List ℕ → Listed) where
  pub record PutCausesAreRefused : Type 0 where
    -- the cause is that of the last attempt, and no other outcome is let through
    pub denied : HasOnly page_of NeverFailed busy_then_denied task (outcome.Failed was_denied)
    pub open_denied : HasOnly page_of NeverFailed lost_then_denied task (outcome.Unknown was_denied)
    pub open_lost : HasOnly page_of NeverFailed lost_twice task (outcome.Unknown was_lost)
    -- so these are refused: the cause of the first attempt, a loss for a refusal, a refusal for a loss
    pub first_attempt : IsRefused page_of NeverFailed busy_then_denied task
        (outcome.Failed (cause.Service op.Put (codes "SlowDown") []))
    pub lost_for_denied : IsRefused page_of NeverFailed busy_then_denied task (outcome.Failed was_lost)
    pub unknown_for_denied : IsRefused page_of NeverFailed busy_then_denied task (outcome.Unknown was_denied)
    pub earlier_loss : IsRefused page_of NeverFailed lost_then_denied task (outcome.Unknown was_lost)
    -- a source that did not change, a reply that did not come, and a copy of what is not moved
    pub changed : IsRefused page_of NeverFailed busy_then_denied task (outcome.Failed cause.Changed)
    pub bad_reply : IsRefused page_of NeverFailed busy_then_denied task (outcome.Failed (cause.BadReply op.Put))
    pub copied : IsRefused page_of NeverFailed busy_then_denied task (outcome.Copied was_denied)

abbrev pub EachPutCauseIsRefused : Type 0
EachPutCauseIsRefused = (page_of : List ℕ → Listed) → PutCausesAreRefused page_of
