-- How a transfer is cut into pieces.
use Rattle.std.specs.Prelude.{◌≡◌, ◌+◌, ◌-◌, ◌*◌, ◌/◌, ◌^◌, ◌<◌, ◌≤◌, ◌⊎◌, ℕ, min, max, nat_lt, if◌then◌else◌, List, take, drop}
use Rattle.s3_model.specs.declared.settings.Limits.{Limits}
use Rattle.s3_model.specs.declared.settings.Config.{Config}
use Rattle.s3_model.specs.declared.tasks.Kind.{Kind}
use Rattle.s3_model.specs.declared.tasks.Kind.TheVariants as kind

-- how many pieces of a length make a size
abbrev pub piece_count : ℕ → ℕ → ℕ
piece_count size piece = (size + piece - 1) / piece

-- the first of chunk, 2 chunk, 4 chunk and so on with few enough pieces
pub record IsFirstFitting (chunk size most found : ℕ) : Type 0 where
  pub doublings : ℕ
  pub is_multiple : found ≡ chunk * 2 ^ doublings
  pub fits : piece_count size found ≤ most
  pub first : (k : ℕ) → k < doublings → most < piece_count size (chunk * 2 ^ k)

-- max_part where it is above that, else min_part where it is below that, else the length itself
abbrev pub within_limits : Limits → ℕ → ℕ
within_limits limits piece = if nat_lt limits.max_part piece then limits.max_part else max limits.min_part piece

-- from the threshold on: the length of a piece, and how many there are
abbrev pub IsInParts : Config → Limits → ℕ → ℕ → ℕ → Type 0
IsInParts config limits size piece count =
    (found : ℕ) × IsFirstFitting config.chunk size limits.max_parts found × (piece ≡ within_limits limits found)
    × (count ≡ piece_count size piece)

-- below it there is one piece
abbrev pub IsTransfer : Config → Limits → ℕ → ℕ → ℕ → Type 0
IsTransfer config limits size piece count =
    ((size < config.threshold) × (piece ≡ size) × (count ≡ 1))
    ⊎ ((config.threshold ≤ size) × IsInParts config limits size piece count)

-- The length of a task's pieces and their number. A removal has one piece, of length 0.
abbrev pub HasPieces : Config → Limits → Kind → ℕ → ℕ → ℕ → Type 0
HasPieces config limits kind.Upload size piece count = IsTransfer config limits size piece count
HasPieces config limits kind.Download size piece count = IsTransfer config limits size piece count
HasPieces config limits kind.Copy size piece count = IsTransfer config limits size piece count
HasPieces config limits kind.RemoveObject size piece count = (piece ≡ 0) × (count ≡ 1)
HasPieces config limits kind.RemoveFile size piece count = (piece ≡ 0) × (count ≡ 1)

-- place and length of piece n, counted from 1
abbrev pub piece_range : ℕ → ℕ → ℕ → ℕ × ℕ
piece_range size piece number = ((number - 1) * piece, min piece (size - (number - 1) * piece))

abbrev pub piece_of : List ℕ → ℕ → ℕ → List ℕ
piece_of bytes piece number = take piece (drop ((number - 1) * piece) bytes)
