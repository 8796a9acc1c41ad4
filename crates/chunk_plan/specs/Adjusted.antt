-- The length of the parts of an object.
use Rattle.std.specs.Prelude.{◌≡◌, ℕ}
use Rattle.s3_model.specs.declared.settings.Limits.{Limits}
use Rattle.s3_model.specs.Parts.{IsFirstFitting, within_limits}

-- the first doubling of the chunk that fits, brought within the limits
abbrev pub IsPartLength : Limits → ℕ → ℕ → ℕ → Type 0
IsPartLength limits chunk size length =
    (found : ℕ) × IsFirstFitting chunk size limits.max_parts found × (length ≡ within_limits limits found)
