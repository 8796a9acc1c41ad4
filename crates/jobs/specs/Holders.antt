-- What a holder of a cancel cell knows.
use Rattle.std.specs.Prelude.{ℕ, Option}
use Rattle.s3_model.specs.declared.outcomes.Reason.{Reason}

-- which cell it is, and its reason, as far as this holder knows it
pub record Holder : Type 0 where
  pub cell : ℕ
  pub known : Option Reason
