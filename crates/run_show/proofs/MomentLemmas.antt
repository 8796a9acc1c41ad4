-- The moment that a URL begins at.
use Rattle.std.proofs.Common.{ℕ, [], ◌∷◌, Option, refl, sym, append-nil}
use Rattle.s3_model.specs.Talks.{Moment, WireLog}
use Rattle.s3_outside.specs.Seen.{IsSeenAfter}
use Rattle.s3_outside.specs.Wire.{noted}
use Rattle.job_terms.specs.Gains.{Gains}
use Rattle.job_terms.proofs.GainLemmas.{gains_step}
use Rattle.run_show.specs.Urls.{IsMoment}

pub is_moment : (moment : ℕ) (before after : Option WireLog) (b a : ℕ) → IsSeenAfter (noted (Moment moment)) before after b a → Gains before after (IsMoment moment)
is_moment moment before after b a seen =
    gains_step (IsMoment moment) (noted (Moment moment)) [] (Moment moment ∷ []) (λ log. (sym (append-nil log.talks), refl)) before after b a seen (refl, refl)
