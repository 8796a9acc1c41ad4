-- What contracts see of a pool of parts.
use Rattle.std.specs.Prelude.{◌≤◌, ℕ, List}
use Rattle.std.specs.List.{All}
use Rattle.s3_model.specs.declared.bytes.Part.{Part}

-- how many parts there are, how many of them are here and how many are lent, a room that each has at least, and one
-- that none exceeds
pub record Pool : Type 0 where
  pub count : ℕ
  pub free : ℕ
  pub lent : ℕ
  pub room : ℕ
  pub most : ℕ

abbrev pub HaveRoom : ℕ → List Part → Type 0
HaveRoom room parts = All (λ part. room ≤ part.bytes.room) parts

abbrev pub HaveAtMost : ℕ → List Part → Type 0
HaveAtMost most parts = All (λ part. part.bytes.room ≤ most) parts
