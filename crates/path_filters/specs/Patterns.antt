-- Patterns of characters, as the shell's file name patterns (POSIX.1-2017, Shell and Utilities, 2.13), but that `*` and
-- `?` also stand for `/`.
use Rattle.std.specs.Prelude.{◌≡◌, ◌≢◌, ◌≤◌, ◌==◌, ◌&&◌, ◌||◌, ◌++◌, ⊤, ℕ, Bool, true, false, not, nat_le, List, []}
use Rattle.std.specs.Prelude.{◌∷◌, length, All, Any, if◌then◌else◌}
use Rattle.std.specs.List.{list_any}
use Rattle.path_filters.specs.declared.pieces.Piece.{Piece}
use Rattle.path_filters.specs.declared.pieces.Piece.TheVariants.{Star, One, Set, Question}
use Rattle.path_filters.specs.declared.pieces.Range.{Range}

-- the characters that mean something in a pattern: `*`, `?`, `[`, `]`, `!` and `-`
abbrev pub asterisk : ℕ
asterisk = 42

abbrev pub question : ℕ
question = 63

abbrev pub opening : ℕ
opening = 91

abbrev pub closing : ℕ
closing = 93

abbrev pub exclamation : ℕ
exclamation = 33

abbrev pub hyphen : ℕ
hyphen = 45

-- a character of one of the ranges; a range that ends before it begins has none
abbrev pub IsMember : List Range → ℕ → Type 0
IsMember ranges code = Any (λ (range : Range). (range.first ≤ code) × (code ≤ range.last)) ranges

abbrev pub is_star : Piece → Bool
is_star Star = true
is_star piece = false

-- the one character that a piece stands for
abbrev pub Takes : Piece → ℕ → Type 0
Takes Star code = ⊥
Takes Question code = ⊤
Takes (One letter) code = code ≡ letter
Takes (Set false members) code = IsMember members code
Takes (Set true members) code = ¬ (IsMember members code)

-- a text that pieces stand for, one after another: a star stands for any text, each other piece for one character
abbrev pub Matches : List Piece → List ℕ → Type 0
Matches [] text = text ≡ []
Matches (Star ∷ pieces) text = (front : List ℕ) × (back : List ℕ) × (text ≡ front ++ back) × Matches pieces back
Matches (piece ∷ pieces) text =
    (code : ℕ) × (rest : List ℕ) × (text ≡ code ∷ rest) × Takes piece code × Matches pieces rest

-- The same as tests that compute.
abbrev pub is_member : List Range → ℕ → Bool
is_member ranges code = list_any (λ (range : Range). nat_le range.first code && nat_le code range.last) ranges

abbrev pub takes : Piece → ℕ → Bool
takes Star code = false
takes Question code = true
takes (One letter) code = code == letter
takes (Set false members) code = is_member members code
takes (Set true members) code = not (is_member members code)

-- some end of the text passes the test
abbrev pub some_end : (List ℕ → Bool) → List ℕ → Bool
some_end test [] = test []
some_end test (code ∷ codes) = test (code ∷ codes) || some_end test codes

abbrev pub is_match : List Piece → List ℕ → Bool
is_match [] text = length text == 0
is_match (Star ∷ pieces) text = some_end (is_match pieces) text
is_match (piece ∷ pieces) [] = false
is_match (piece ∷ pieces) (code ∷ codes) = takes piece code && is_match pieces codes

-- the ranges that the characters of a set spell; a single character is the range from it to itself
abbrev pub ranges_of : List ℕ → List Range
ranges_of [] = []
ranges_of (from ∷ []) = record { first = from; last = from } ∷ []
ranges_of (from ∷ next ∷ []) = record { first = from; last = from } ∷ record { first = next; last = next } ∷ []
ranges_of (from ∷ next ∷ to ∷ codes) = if next == hyphen then record { first = from; last = to } ∷ ranges_of codes
    else record { first = from; last = from } ∷ ranges_of (next ∷ to ∷ codes)

-- What stands in a set: a character, and then any but `]`. A set that is not negated does not begin with `!`.
abbrev pub IsInside : Bool → List ℕ → Type 0
IsInside negated [] = ⊥
IsInside negated (code ∷ codes) = (negated ≡ false → code ≢ exclamation) × All (λ other. other ≢ closing) codes

-- what stands between the brackets of a set, `!` in front of it where the set is negated
abbrev pub bracketed : Bool → List ℕ → List ℕ
bracketed true inside = exclamation ∷ inside
bracketed false inside = inside

-- a `]` closes the set whose `[` stands before this text
abbrev pub IsClosed : List ℕ → Type 0
IsClosed text = (negated : Bool) × (inside : List ℕ) × (rest : List ℕ)
    × (text ≡ bracketed negated inside ++ closing ∷ rest) × IsInside negated inside

-- the piece that a text begins with, and what follows it
abbrev pub BeginsWith : List ℕ → Piece → List ℕ → Type 0
BeginsWith text Star rest = text ≡ asterisk ∷ rest
BeginsWith text Question rest = text ≡ question ∷ rest
BeginsWith text (Set negated members) rest = (inside : List ℕ)
    × (text ≡ opening ∷ bracketed negated inside ++ closing ∷ rest) × IsInside negated inside
    × (members ≡ ranges_of inside)
BeginsWith text (One code) rest =
    (text ≡ code ∷ rest) × (code ≢ asterisk) × (code ≢ question) × (code ≡ opening → ¬ (IsClosed rest))

-- the pieces that a text spells
abbrev pub IsPattern : List ℕ → List Piece → Type 0
IsPattern text [] = text ≡ []
IsPattern text (piece ∷ pieces) = (rest : List ℕ) × BeginsWith text piece rest × IsPattern rest pieces
