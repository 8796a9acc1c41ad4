-- The test that computes is what the relation says of a path.
use Rattle.std.proofs.Common.{◌≡◌, ◌++◌, ℕ, Bool, true, cond, List, [], ◌∷◌, fold, refl, sym, ap, subst, ◌∙◌, inl, inr}
use Rattle.std.proofs.lemmas.Bool.{cond-true, cond-false, false_from_ne_true}
use Rattle.std.proofs.lemmas.Grind.{fold-append}
use Rattle.std.proofs.lemmas.List.{append_assoc}
use Rattle.std.proofs.lemmas.List.Elements.{All-head, All-tail}
use Rattle.path_filters.specs.declared.filters.Filter.{Filter}
use Rattle.path_filters.specs.Filters.{NoneMatches, Keeps, is_kept}
use Rattle.path_filters.specs.Patterns.{Matches, is_match}
use Rattle.path_filters.proofs.TestLemmas.{is_match-decides}

-- what a filter makes of the answer of those before it
abbrev answer : List ℕ → Bool → Filter → Bool
answer path kept filter = cond (is_match filter.pattern path) filter.keep kept

answer-matches : (path : List ℕ) (kept : Bool) (filter : Filter) → Matches filter.pattern path → answer path kept filter ≡ filter.keep
answer-matches path kept filter m = cond-true _ _ _ ((is_match-decides filter.pattern path).1 m)

answer-other : (path : List ℕ) (kept : Bool) (filter : Filter) → ¬ (Matches filter.pattern path) → answer path kept filter ≡ kept
answer-other path kept filter apart = cond-false _ _ _ (false_from_ne_true _ (λ t. apart ((is_match-decides filter.pattern path).0 t)))

-- filters that do not match leave the answer
answers-none : (path : List ℕ) (kept : Bool) (filters : List Filter) → NoneMatches filters path → fold (answer path) kept filters ≡ kept
answers-none path kept [] none = refl
answers-none path kept (filter ∷ filters) none =
    ap (λ k. fold (answer path) k filters) (answer-other path kept filter (All-head (λ (f : Filter). ¬ (Matches f.pattern path)) filter filters none))
    ∙ answers-none path kept filters (All-tail (λ (f : Filter). ¬ (Matches f.pattern path)) filter filters none)

pub is_kept-from_Keeps : (filters : List Filter) (path : List ℕ) (kept : Bool) → Keeps filters path kept → kept ≡ is_kept filters path
is_kept-from_Keeps filters path kept (inl h) = h.1 ∙ sym (answers-none path true filters h.0)
is_kept-from_Keeps filters path kept (inr (before, filter, after, e, m, none, k)) =
    let whole = ap (fold (answer path) true) e ∙ fold-append (answer path) true before (filter ∷ after) in
    let last = answers-none path (answer path (fold (answer path) true before) filter) after none ∙ answer-matches path (fold (answer path) true before) filter m in
    k ∙ sym (whole ∙ last)

-- the filters behind one that matches do not
pub is_kept-last : (filters left after before : List Filter) (filter : Filter) (path : List ℕ) → filters ≡ left ++ after → left ≡ before ++ filter ∷ [] → Matches filter.pattern path → NoneMatches after path → filter.keep ≡ is_kept filters path
is_kept-last filters left after before filter path e l m none =
    is_kept-from_Keeps filters path filter.keep (inr (before, filter, after, e ∙ ap (λ (fs : List Filter). fs ++ after) l ∙ append_assoc before (filter ∷ []) after, m, none, refl))

pub is_kept-none : (filters left after : List Filter) (path : List ℕ) → filters ≡ left ++ after → left ≡ [] → NoneMatches after path → true ≡ is_kept filters path
is_kept-none filters left after path e l none =
    let whole : filters ≡ after = e ∙ ap (λ (fs : List Filter). fs ++ after) l in
    is_kept-from_Keeps filters path true (inl (subst (λ (fs : List Filter). NoneMatches fs path) (sym whole) none, refl))
