-- The first of the least numbers of a row.
use Rattle.std.specs.Prelude.{◌<◌, ◌≤◌, ℕ, List, get_or, length}

pub record IsLeast (row : List ℕ) (place : ℕ) : Type 0 where
  pub within : place < length row
  -- none is less
  pub least : (other : ℕ) → other < length row → get_or row place 0 ≤ get_or row other 0
  -- each one before it is greater
  pub first : (other : ℕ) → other < place → get_or row place 0 < get_or row other 0
