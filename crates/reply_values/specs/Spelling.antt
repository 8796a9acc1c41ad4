-- Texts that are read piece by piece.
use Rattle.std.specs.Prelude.{◌≡◌, ◌++◌, ℕ, List}
use Rattle.std.specs.List.{AllByRecursion, flat_map}

-- a piece of the written text, and what it stands for
pub record Piece : Type 0 where
  pub written : List ℕ
  pub meant : List ℕ

-- the written text is pieces one after another, and the text is what they stand for
pub record Spells (StandsFor : List ℕ → List ℕ → Type 0) (written text : List ℕ) : Type 0 where
  pub pieces : List Piece
  pub each : AllByRecursion (λ piece. StandsFor piece.written piece.meant) pieces
  pub whole : flat_map (λ piece. piece.written) pieces ≡ written
  pub meaning : flat_map (λ piece. piece.meant) pieces ≡ text

-- no piece stands at the front
abbrev pub StartsNoPiece : (List ℕ → List ℕ → Type 0) → List ℕ → Type 0
StartsNoPiece StandsFor rest = (piece meant more : List ℕ) → rest ≡ piece ++ more → ¬ (StandsFor piece meant)

-- a piece and then `more`
pub record StartsPiece (StandsFor : List ℕ → List ℕ → Type 0) (text meant more : List ℕ) : Type 0 where
  pub piece : List ℕ
  pub split : text ≡ piece ++ more
  pub stands : StandsFor piece meant
