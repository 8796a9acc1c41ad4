-- The tests that compute decide the relations.
use Rattle.std.proofs.Common.{◌≡◌, ◌++◌, ℕ, Bool, true, false, ◌&&◌, leb, List, [], ◌∷◌, length, Decides, refl, sym, ap, subst, inl, inr}
use Rattle.std.proofs.lemmas.Bool.{leb-true, le-leb, eqb-true, eq-eqb, and_parts, and_from, or_cases, or_left, or_right, false≢true}
use Rattle.std.proofs.lemmas.Bool.Decides.{Decides-eqb, Decides-not}
use Rattle.std.proofs.lemmas.List.{nil_from_length}
use Rattle.std.proofs.lemmas.List.Folds.{Any-from_list_any, list_any-from_Any}
use Rattle.path_filters.specs.declared.pieces.Piece.{Piece}
use Rattle.path_filters.specs.declared.pieces.Piece.TheVariants.{Star, One, Set, Question}
use Rattle.path_filters.specs.declared.pieces.Range.{Range}
use Rattle.path_filters.specs.Patterns.{IsMember, Takes, Matches, is_star, is_member, takes, some_end, is_match}
use Rattle.path_filters.proofs.MatchLemmas.{Matches-cons, Matches-uncons, Matches-nil, star_none, star_longer}

is_member-decides : (ranges : List Range) (code : ℕ) → Decides (is_member ranges code) (IsMember ranges code)
is_member-decides ranges code = (
  λ t. let found = Any-from_list_any (λ (range : Range). leb range.first code && leb code range.last) ranges t in
      let parts = and_parts _ _ found.4 in (found.0, found.1, found.2, found.3, (leb-true _ _ parts.0, leb-true _ _ parts.1)),
  λ m. list_any-from_Any (λ (range : Range). leb range.first code && leb code range.last) ranges (m.0, m.1, m.2, m.3, and_from _ _ (le-leb _ _ m.4.0) (le-leb _ _ m.4.1)),
)

takes-decides : (piece : Piece) (code : ℕ) → Decides (takes piece code) (Takes piece code)
takes-decides Star code = (λ e. false≢true e, λ t. absurd t)
takes-decides Question code = (λ _. tt, λ _. refl)
takes-decides (One letter) code = Decides-eqb code letter
takes-decides (Set false members) code = is_member-decides members code
takes-decides (Set true members) code = Decides-not _ (is_member-decides members code)

-- a star matches where some end of the text does
some_end-to : (pieces : List Piece) (test : List ℕ → Bool) → ((text : List ℕ) → test text ≡ true → Matches pieces text) → (text : List ℕ) → some_end test text ≡ true → Matches (Star ∷ pieces) text
some_end-to pieces test h [] t = star_none pieces [] (h [] t)
some_end-to pieces test h (code ∷ codes) t =
    elim (or_cases _ _ t) [ inl here ↦ star_none pieces (code ∷ codes) (h (code ∷ codes) here) | inr later ↦ star_longer pieces 1 (code ∷ codes) (some_end-to pieces test h codes later) ]

some_end-from : (pieces : List Piece) (test : List ℕ → Bool) → ((text : List ℕ) → Matches pieces text → test text ≡ true) → (front back : List ℕ) → Matches pieces back → some_end test (front ++ back) ≡ true
some_end-from pieces test h [] [] m = h [] m
some_end-from pieces test h [] (code ∷ codes) m = or_left _ _ (h (code ∷ codes) m)
some_end-from pieces test h (first ∷ front) back m = or_right _ _ (some_end-from pieces test h front back m)

-- any other piece takes the first character
step : (piece : Piece) (pieces : List Piece) (code : ℕ) (codes : List ℕ) → is_star piece ≡ false → Decides (is_match pieces codes) (Matches pieces codes) → Decides (takes piece code && is_match pieces codes) (Matches (piece ∷ pieces) (code ∷ codes))
step piece pieces code codes s rest = (
  λ t. let parts = and_parts _ _ t in Matches-cons piece pieces code codes ((takes-decides piece code).0 parts.0) (rest.0 parts.1),
  λ m. let parts = Matches-uncons piece pieces code codes s m in and_from _ _ ((takes-decides piece code).1 parts.0) (rest.1 parts.1),
)

pub is_match-decides : (pieces : List Piece) (text : List ℕ) → Decides (is_match pieces text) (Matches pieces text)
is_match-decides [] text = (λ t. nil_from_length text (eqb-true _ _ t), λ e. eq-eqb _ _ (ap length e))
is_match-decides (Star ∷ pieces) text = (
  some_end-to pieces (is_match pieces) (λ t. (is_match-decides pieces t).0) text,
  λ m. subst (λ (t : List ℕ). some_end (is_match pieces) t ≡ true) (sym m.2) (some_end-from pieces (is_match pieces) (λ t. (is_match-decides pieces t).1) m.0 m.1 m.3),
)
is_match-decides (Question ∷ pieces) [] = (λ e. absurd (false≢true e), λ m. absurd (Matches-nil Question pieces refl m))
is_match-decides (Question ∷ pieces) (code ∷ codes) = step Question pieces code codes refl (is_match-decides pieces codes)
is_match-decides (One letter ∷ pieces) [] = (λ e. absurd (false≢true e), λ m. absurd (Matches-nil (One letter) pieces refl m))
is_match-decides (One letter ∷ pieces) (code ∷ codes) = step (One letter) pieces code codes refl (is_match-decides pieces codes)
is_match-decides (Set negated members ∷ pieces) [] = (λ e. absurd (false≢true e), λ m. absurd (Matches-nil (Set negated members) pieces refl m))
is_match-decides (Set negated members ∷ pieces) (code ∷ codes) = step (Set negated members) pieces code codes refl (is_match-decides pieces codes)
