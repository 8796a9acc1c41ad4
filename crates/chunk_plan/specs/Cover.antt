-- What cutting the bytes of an object into pieces keeps.
use Rattle.std.specs.Prelude.{◌≡◌, ◌<◌, ◌≤◌, ℕ, List, length, map, take, drop}
use Rattle.std.specs.List.{concat, range_with_len}
use Rattle.s3_model.specs.declared.settings.Limits.{Limits}
use Rattle.s3_model.specs.declared.settings.Config.{Config}
use Rattle.s3_model.specs.Parts.{IsTransfer, piece_of, piece_range}
use Rattle.s3_model.specs.Validity.{IsValidConfig, IsValidLimits, IsWithin}

-- the pieces of numbers 1 to `count`, in order
abbrev pub pieces_of : List ℕ → ℕ → ℕ → List (List ℕ)
pieces_of bytes piece count = map (piece_of bytes piece) (range_with_len 1 count)

pub record IsCut (bytes : List ℕ) (piece count : ℕ) : Type 0 where
  -- each byte once, in order
  pub covered : concat (pieces_of bytes piece count) ≡ bytes
  -- all but the last have the whole length
  pub full : (number : ℕ) → 1 ≤ number → number < count → length (piece_of bytes piece number) ≡ piece
  -- none is empty, but for an empty object
  pub filled : (number : ℕ) → IsWithin 1 number count → 0 < length bytes → 0 < length (piece_of bytes piece number)
  -- each stands where its range says
  pub placed : (number : ℕ) → IsWithin 1 number count
      → piece_of bytes piece number ≡ take (piece_range (length bytes) piece number).1
      (drop (piece_range (length bytes) piece number).0 bytes)

-- what a service asks of the parts of an upload
pub record KeepsLimits (limits : Limits) (bytes : List ℕ) (piece count : ℕ) : Type 0 where
  pub few : count ≤ limits.max_parts
  pub least : (number : ℕ) → 1 ≤ number → number < count → limits.min_part ≤ length (piece_of bytes piece number)
  pub most : (number : ℕ) → length (piece_of bytes piece number) ≤ limits.max_part

pub record IsSound (config : Config) (limits : Limits) (bytes : List ℕ) (piece count : ℕ) : Type 0 where
  pub cut : IsCut bytes piece count
  pub limits_kept : config.threshold ≤ length bytes → KeepsLimits limits bytes piece count

abbrev pub PiecesCoverTheObject : Type 0
PiecesCoverTheObject =
    (config : Config) (limits : Limits) (bytes : List ℕ) (piece count : ℕ) → IsValidConfig config → IsValidLimits limits
    → length bytes ≤ limits.max_object → IsTransfer config limits (length bytes) piece count
    → IsSound config limits bytes piece count

-- there is one way to cut
abbrev pub PiecesAreDetermined : Type 0
PiecesAreDetermined = (config : Config) (limits : Limits) (size piece count other_piece other_count : ℕ)
    → IsTransfer config limits size piece count → IsTransfer config limits size other_piece other_count
    → (piece ≡ other_piece) × (count ≡ other_count)
