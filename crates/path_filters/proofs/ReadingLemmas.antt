-- A text spells one list of pieces.
use Rattle.std.proofs.Common.{◌≡◌, ◌≢◌, ◌++◌, ℕ, Bool, true, false, List, [], ◌∷◌, refl, sym, ap, subst, ◌∙◌}
use Rattle.std.specs.List.{All}
use Rattle.std.proofs.lemmas.Bool.{eqb-false}
use Rattle.std.proofs.lemmas.List.Elements.{All-head, All-tail}
use Rattle.path_filters.specs.declared.pieces.Piece.{Piece}
use Rattle.path_filters.specs.declared.pieces.Piece.TheVariants.{Star, One, Set, Question}
use Rattle.path_filters.specs.declared.pieces.Range.{Range}
use Rattle.path_filters.specs.Patterns.{ranges_of, bracketed, IsInside, IsClosed, BeginsWith, IsPattern}
use Rattle.path_filters.proofs.SetLemmas.{tails_same}
use Rattle.shared_lemmas.proofs.Lists.{cons_is, no_nil}

-- a list is cut at its first `]` in one way
cut_same : (before others after rest : List ℕ) → All (λ code. code ≢ 93) before → All (λ code. code ≢ 93) others → before ++ 93 ∷ after ≡ others ++ 93 ∷ rest → (before ≡ others) × (after ≡ rest)
cut_same [] [] after rest b o e = (refl, (tails_same _ _ _ _ e).1)
cut_same [] (other ∷ others) after rest b o e = absurd (All-head (λ code. code ≢ 93) other others o (sym (tails_same _ _ _ _ e).0))
cut_same (code ∷ before) [] after rest b o e = absurd (All-head (λ code. code ≢ 93) code before b (tails_same _ _ _ _ e).0)
cut_same (code ∷ before) (other ∷ others) after rest b o e =
    let same = tails_same _ _ _ _ e in
    let more = cut_same before others after rest (All-tail (λ code. code ≢ 93) code before b) (All-tail (λ code. code ≢ 93) other others o) same.1 in
    (cons_is code other before others same.0 more.0, more.1)

-- so a set is read in one way
set_same : (negated other : Bool) (inside others after rest : List ℕ) → IsInside negated inside → IsInside other others → bracketed negated inside ++ 93 ∷ after ≡ bracketed other others ++ 93 ∷ rest → (negated ≡ other) × (inside ≡ others) × (after ≡ rest)
set_same negated other [] others after rest i o e = absurd i
set_same negated other (code ∷ inside) [] after rest i o e = absurd o
set_same true true (code ∷ inside) (first ∷ others) after rest i o e =
    let same = tails_same _ _ _ _ (tails_same _ _ _ _ e).1 in
    let more = cut_same inside others after rest i.1 o.1 same.1 in
    (refl, cons_is code first inside others same.0 more.0, more.1)
set_same true false (code ∷ inside) (first ∷ others) after rest i o e = absurd (o.0 refl (sym (tails_same _ _ _ _ e).0))
set_same false true (code ∷ inside) (first ∷ others) after rest i o e = absurd (i.0 refl (tails_same _ _ _ _ e).0)
set_same false false (code ∷ inside) (first ∷ others) after rest i o e =
    let same = tails_same _ _ _ _ e in
    let more = cut_same inside others after rest i.1 o.1 same.1 in
    (refl, cons_is code first inside others same.0 more.0, more.1)

other_first : (text : List ℕ) (code other : ℕ) (codes others : List ℕ) → text ≡ code ∷ codes → text ≡ other ∷ others → (code ≡ other) × (codes ≡ others)
other_first text code other codes others e f = tails_same code codes other others (sym e ∙ f)

set_and_bracket : (text : List ℕ) (negated : Bool) (inside after : List ℕ) (code : ℕ) (rest : List ℕ) → text ≡ 91 ∷ bracketed negated inside ++ 93 ∷ after → IsInside negated inside → text ≡ code ∷ rest → (code ≡ 91 → ¬ (IsClosed rest)) → ⊥
set_and_bracket text negated inside after code rest e i f apart =
    let same = other_first text 91 code (bracketed negated inside ++ 93 ∷ after) rest e f in
    apart (sym same.0) (negated, inside, after, sym same.1, i)

set_pieces : (negated other : Bool) (members others : List Range) → negated ≡ other → members ≡ others → Set negated members ≡ Set other others
set_pieces negated other members others e f = cc

clash : (text : List ℕ) (code other : ℕ) (codes others : List ℕ) → text ≡ code ∷ codes → text ≡ other ∷ others → code ≢ other → ⊥
clash text code other codes others e f apart = apart (other_first text code other codes others e f).0

begins_same : (text : List ℕ) (piece other : Piece) (after rest : List ℕ) → BeginsWith text piece after → BeginsWith text other rest → (piece ≡ other) × (after ≡ rest)
begins_same text Star Star after rest e f = (refl, (other_first text 42 42 after rest e f).1)
begins_same text Star Question after rest e f = absurd (clash text 42 63 after rest e f (eqb-false 42 63 refl))
begins_same text Star (Set negated members) after rest e f = absurd (clash text 42 91 after _ e f.1 (eqb-false 42 91 refl))
begins_same text Star (One code) after rest e f = absurd (f.1 (sym (other_first text 42 code after rest e f.0).0))
begins_same text Question Star after rest e f = absurd (clash text 63 42 after rest e f (eqb-false 63 42 refl))
begins_same text Question Question after rest e f = (refl, (other_first text 63 63 after rest e f).1)
begins_same text Question (Set negated members) after rest e f = absurd (clash text 63 91 after _ e f.1 (eqb-false 63 91 refl))
begins_same text Question (One code) after rest e f = absurd (f.2 (sym (other_first text 63 code after rest e f.0).0))
begins_same text (Set negated members) Star after rest e f = absurd (clash text 91 42 _ rest e.1 f (eqb-false 91 42 refl))
begins_same text (Set negated members) Question after rest e f = absurd (clash text 91 63 _ rest e.1 f (eqb-false 91 63 refl))
begins_same text (Set negated members) (Set other others) after rest e f =
    let same = set_same negated other e.0 f.0 after rest e.2 f.2 (other_first text 91 91 _ _ e.1 f.1).1 in
    (set_pieces negated other members others same.0 (e.3 ∙ ap ranges_of same.1 ∙ sym f.3), same.2)
begins_same text (Set negated members) (One code) after rest e f = absurd (set_and_bracket text negated e.0 after code rest e.1 e.2 f.0 f.3)
begins_same text (One code) Star after rest e f = absurd (e.1 (other_first text code 42 after rest e.0 f).0)
begins_same text (One code) Question after rest e f = absurd (e.2 (other_first text code 63 after rest e.0 f).0)
begins_same text (One code) (Set negated members) after rest e f = absurd (set_and_bracket text negated f.0 rest code after f.1 f.2 e.0 e.3)
begins_same text (One code) (One other) after rest e f = let same = other_first text code other after rest e.0 f.0 in (ap One same.0, same.1)

begins_something : (text : List ℕ) (piece : Piece) (rest : List ℕ) → text ≡ [] → BeginsWith text piece rest → ⊥
begins_something text Star rest n e = no_nil 42 rest (sym n ∙ e)
begins_something text Question rest n e = no_nil 63 rest (sym n ∙ e)
begins_something text (Set negated members) rest n e = no_nil 91 _ (sym n ∙ e.1)
begins_something text (One code) rest n e = no_nil code rest (sym n ∙ e.0)

more_same : (piece other : Piece) (pieces others : List Piece) → piece ≡ other → pieces ≡ others → piece ∷ pieces ≡ other ∷ others
more_same piece other pieces others e f = cc

pub IsPattern-same : (text : List ℕ) (pieces others : List Piece) → IsPattern text pieces → IsPattern text others → pieces ≡ others
IsPattern-same text [] [] e f = refl
IsPattern-same text [] (other ∷ others) e f = absurd (begins_something text other f.0 e f.1)
IsPattern-same text (piece ∷ pieces) [] e f = absurd (begins_something text piece e.0 f e.1)
IsPattern-same text (piece ∷ pieces) (other ∷ others) e f =
    let same = begins_same text piece other e.0 f.0 e.1 f.1 in
    more_same piece other pieces others same.0 (IsPattern-same e.0 pieces others e.2 (subst (λ (t : List ℕ). IsPattern t others) (sym same.1) f.2))
