-- How far a pattern goes without a star: each piece takes one character.
use Rattle.std.specs.Prelude.{◌≡◌, ◌++◌, ⊤, ℕ, true, List, [], ◌∷◌, length, drop}
use Rattle.path_filters.specs.declared.pieces.Piece.{Piece}
use Rattle.path_filters.specs.Patterns.{Takes, is_star}

-- each piece takes the character at its place; the text may go on
abbrev pub Fits : List Piece → List ℕ → Type 0
Fits [] text = ⊤
Fits (piece ∷ pieces) [] = ⊥
Fits (piece ∷ pieces) (code ∷ codes) = Takes piece code × Fits pieces codes

-- some pieces took a character each, and these pieces and this text are left
pub record IsLeft (pieces : List Piece) (text : List ℕ) (after : List Piece) (rest : List ℕ) : Type 0 where
  pub front : List Piece
  pub split : pieces ≡ front ++ after
  pub fits : Fits front text
  pub left : rest ≡ drop (length front) text

-- no piece is left, or the next is a star
abbrev pub StopsAtStar : List Piece → Type 0
StopsAtStar [] = ⊤
StopsAtStar (piece ∷ pieces) = is_star piece ≡ true
