-- The one request of an upload: its job, and what a wire notes beside it.
use Rattle.std.specs.Prelude.{◌≡◌, List, [], Some, Contains, filter_map}
use Rattle.s3_model.specs.declared.requests.Op.TheVariants as op
use Rattle.s3_model.specs.declared.outcomes.JobId.{JobId}
use Rattle.s3_model.specs.Talks.{Note, Began}
use Rattle.job_terms.specs.Attempts.{pause_of}

abbrev pub put_job : JobId
put_job = record { task = Some 0; op = op.Put; number = 0 }

-- what a wire notes while no talk begins and no pause is asked of it
pub record AreIdle (notes : List Note) : Type 0 where
  pub no_talk : ¬ (Contains notes Began)
  pub no_pause : filter_map pause_of notes ≡ []
