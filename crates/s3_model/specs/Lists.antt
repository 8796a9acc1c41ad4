-- What contracts see of lists and buffers.
use Rattle.std.specs.Prelude.{ℕ, List, ◌++◌, length, take, drop}

-- a list with the number of items that can be pushed without memory
pub record Reserved (T : Type 0) : Type 0 where
  pub items : List T
  pub spare : ℕ

-- bytes with the greatest length that they can have without memory
pub record Buffer : Type 0 where
  pub bytes : List ℕ
  pub room : ℕ

-- b with xs written over its bytes, whose number stays
abbrev pub with_bytes : Buffer → List ℕ → Buffer
with_bytes b xs = record { bytes = take (length b.bytes) (xs ++ drop (length xs) b.bytes); room = b.room }
