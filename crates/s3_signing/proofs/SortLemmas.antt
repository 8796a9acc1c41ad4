-- A sorted list with the same elements is the sorted list of the definition.
use Rattle.std.proofs.Common.{◌≡◌, ◌<◌, ◌+◌, ◌∷◌, ◌∙◌, ℕ, suc, Bool, true, false, cond, List, [], Ordering, ap, sym, refl, length, get_or, map, arith}
use Rattle.std.specs.declared.cmp.Ordering.TheVariants.{Less, Equal, Greater}
use Rattle.std.specs.Cmp.{IsTotalOrder, IsStrictWeakOrder, then_total, on_total}
use Rattle.std.specs.Cmp.Lexicographic.{nat_list_cmp_total, slice_cmp}
use Rattle.std.specs.FinMap.{slice_cmp-IsAntisymmetric, nat_cmp-IsAntisymmetric}
use Rattle.std.specs.List.{sum_by}
use Rattle.std.specs.List.Sorted.{IsPermutation, IsSorted}
use Rattle.std.specs.Ordering.{is_gt, is_lt, nat_cmp, ordering_reverse, ordering_then}
use Rattle.std.proofs.lemmas.List.Sorted.{ranks_by, sorted_far, sum_by-IsPermutation}
use Rattle.std.proofs.lemmas.List.{get_or-map, length-map}
use Rattle.std.proofs.lemmas.List.Sums.{sum_by-cons}
use Rattle.s3_signing.specs.Pairs.{Pair, pair_cmp, insert_pair, sort_pairs}

abbrev is_less : Pair → Pair → Bool
is_less a b = is_lt (pair_cmp a b)

total : IsTotalOrder pair_cmp
total = then_total (on_total (λ (p : Pair). p.0) nat_list_cmp_total) (on_total (λ (p : Pair). p.1) nat_list_cmp_total)

order : IsStrictWeakOrder is_less
order = ranks_by total (λ (p : Pair). p)

both_equal : (a b : Ordering) → ordering_then a b ≡ Equal → (a ≡ Equal) × (b ≡ Equal)
both_equal Less b e = absurd (cc)
both_equal Equal b e = (refl, e)
both_equal Greater b e = absurd (cc)

tied : (a b : Pair) → pair_cmp a b ≡ Equal → a ≡ b
tied (n, v) (m, w) e =
    let parts = both_equal (slice_cmp nat_cmp n m) (slice_cmp nat_cmp v w) e in
    let names = slice_cmp-IsAntisymmetric nat_cmp-IsAntisymmetric n m parts.0 in
    let values = slice_cmp-IsAntisymmetric nat_cmp-IsAntisymmetric v w parts.1 in
    cc

reversed_gt : (o : Ordering) → is_gt (ordering_reverse o) ≡ is_lt o
reversed_gt Less = refl
reversed_gt Equal = refl
reversed_gt Greater = refl

greater_is : (p q : Pair) → is_gt (pair_cmp p q) ≡ is_less q p
greater_is p q = rw (total.antisymm p q) (reversed_gt (pair_cmp q p))

neither : (o : Ordering) → is_lt o ≡ false → is_gt o ≡ false → o ≡ Equal
neither Less e h = absurd (cc)
neither Equal e h = refl
neither Greater e h = absurd (cc)

same_pair : (p q : Pair) → is_less p q ≡ false → is_less q p ≡ false → p ≡ q
same_pair p q h k = tied p q (neither (pair_cmp p q) h (greater_is p q ∙ k))

irreflexive : (p : Pair) → is_less p p ≡ false
irreflexive p = by (is_less p p) refl
  where
    by : (b : Bool) → is_less p p ≡ b → is_less p p ≡ false
    by true e = order.one_way p p e
    by false e = e

-- no pair of the list is less
abbrev AtLeast : Pair → List Pair → Type 0
AtLeast p [] = Unit {0}
AtLeast p (q ∷ rest) = (is_less q p ≡ false) × AtLeast p rest

abbrev Ascending : List Pair → Type 0
Ascending [] = Unit {0}
Ascending (p ∷ rest) = AtLeast p rest × Ascending rest

lower_bound : (p q : Pair) (rest : List Pair) → is_less q p ≡ false → AtLeast q rest → AtLeast p rest
lower_bound p q [] h k = tt
lower_bound p q (r ∷ rest) h k = (order.chain r q p k.0 h, lower_bound p q rest h k.1)

AtLeast-insert : (z p : Pair) (xs : List Pair) → is_less p z ≡ false → AtLeast z xs → AtLeast z (insert_pair p xs)
unfolding insert_pair
AtLeast-insert z p [] h k = (h, tt)
AtLeast-insert z p (q ∷ rest) h k = by (is_gt (pair_cmp p q)) (AtLeast-insert z p rest h k.1)
  where
    by : (b : Bool) → AtLeast z (insert_pair p rest) → AtLeast z (cond b (q ∷ insert_pair p rest) (p ∷ q ∷ rest))
    by true later = (k.0, later)
    by false later = (h, k)

Ascending-insert : (p : Pair) (xs : List Pair) → Ascending xs → Ascending (insert_pair p xs)
unfolding insert_pair
Ascending-insert p [] k = (tt, tt)
Ascending-insert p (q ∷ rest) k = by (is_gt (pair_cmp p q)) refl (Ascending-insert p rest k.1)
  where
    by : (b : Bool) → is_gt (pair_cmp p q) ≡ b → Ascending (insert_pair p rest) → Ascending (cond b (q ∷ insert_pair p rest) (p ∷ q ∷ rest))
    by true e later = (AtLeast-insert q p rest (order.one_way q p (sym (greater_is p q) ∙ e)) k.0, later)
    by false e later =
        let low : is_less q p ≡ false = sym (greater_is p q) ∙ e in
        ((low, lower_bound p q rest low k.0), k)

Ascending-sort : (xs : List Pair) → Ascending (sort_pairs xs)
unfolding sort_pairs
Ascending-sort [] = tt
Ascending-sort (p ∷ rest) = Ascending-insert p (sort_pairs rest) (Ascending-sort rest)

sum_by-insert_pair : (f : Pair → ℕ) (p : Pair) (xs : List Pair) → sum_by f (insert_pair p xs) ≡ f p + sum_by f xs
unfolding insert_pair
sum_by-insert_pair f p [] = sum_by-cons f p []
sum_by-insert_pair f p (q ∷ rest) = by (is_gt (pair_cmp p q)) (sum_by-insert_pair f p rest)
  where
    by : (b : Bool) → sum_by f (insert_pair p rest) ≡ f p + sum_by f rest → sum_by f (cond b (q ∷ insert_pair p rest) (p ∷ q ∷ rest)) ≡ f p + sum_by f (q ∷ rest)
    by true later = omega (arith, sum_by-cons f q (insert_pair p rest), sum_by-cons f q rest)
    by false later = sum_by-cons f p (q ∷ rest)

sum_by-sort_pairs : (f : Pair → ℕ) (xs : List Pair) → sum_by f (sort_pairs xs) ≡ sum_by f xs
unfolding sort_pairs
sum_by-sort_pairs f [] = refl
sum_by-sort_pairs f (p ∷ rest) = omega (arith, sum_by-insert_pair f p (sort_pairs rest), sum_by-sort_pairs f rest, sum_by-cons f p rest)

-- how often a test passes
abbrev weight : (Pair → Bool) → Pair → ℕ
weight test p = cond (test p) 1 0

abbrev SameCounts : List Pair → List Pair → Type 0
SameCounts xs ys = (test : Pair → Bool) → sum_by (weight test) xs ≡ sum_by (weight test) ys

none_less : (p : Pair) (xs : List Pair) → AtLeast p xs → sum_by (weight (λ q. is_less q p)) xs ≡ 0
none_less p [] h = refl
none_less p (q ∷ rest) h =
    let here : weight (λ r. is_less r p) q ≡ 0 = rw h.0 refl in
    omega (arith, sum_by-cons (weight (λ r. is_less r p)) q rest, none_less p rest h.1)

-- of two ascending lists with the same elements, the first element of the one is not less than that of the other
first_not_less : (p q : Pair) (xs ys : List Pair) → AtLeast p xs → SameCounts (p ∷ xs) (q ∷ ys) → is_less q p ≡ false
first_not_less p q xs ys h same = by (is_less q p) refl
  where
    by : (b : Bool) → is_less q p ≡ b → b ≡ false
    by false e = refl
    by true e =
        let own = irreflexive p in
        let f : Pair → ℕ = weight (λ r. is_less r p) in
        let one : f q ≡ 1 = rw e refl in
        let none : f p ≡ 0 = rw own refl in
        absurd (omega (arith, same (λ r. is_less r p), sum_by-cons f p xs, sum_by-cons f q ys, none_less p xs h))

same_lists : (xs ys : List Pair) → Ascending xs → Ascending ys → SameCounts xs ys → xs ≡ ys
same_lists [] [] h k same = refl
same_lists [] (q ∷ ys) h k same = absurd (omega (arith, same (λ _. true), sum_by-cons (weight (λ _. true)) q ys))
same_lists (p ∷ xs) [] h k same = absurd (omega (arith, same (λ _. true), sum_by-cons (weight (λ _. true)) p xs))
same_lists (p ∷ xs) (q ∷ ys) h k same =
    let first : p ≡ q = same_pair p q (first_not_less q p ys xs k.0 (λ test. sym (same test))) (first_not_less p q xs ys h.0 same) in
    let rest : SameCounts xs ys = λ test. omega (arith, same test, sum_by-cons (weight test) p xs, sum_by-cons (weight test) q ys, ap (weight test) first) in
    rw (first, same_lists xs ys h.1 k.1 rest) refl

at_least_all : (p : Pair) (xs : List Pair) → ((k : ℕ) → k < length xs → is_less (get_or xs k p) p ≡ false) → AtLeast p xs
at_least_all p [] h = tt
at_least_all p (q ∷ rest) h = (h 0 (omega arith), at_least_all p rest (λ k inside. h (suc k) (omega arith)))

ascending_from : (xs : List Pair) → IsSorted pair_cmp xs → Ascending xs
ascending_from [] h = tt
ascending_from (p ∷ rest) h = (
  at_least_all p rest (λ k inside. sorted_far is_less order (p ∷ rest) h 0 (suc k) p (omega arith) (omega arith)),
  ascending_from rest (λ k d low inside. let next : suc k + 1 ≡ suc (k + 1) = omega arith in rw next at (h (suc k) d (omega arith) (omega arith))),
)

-- a sort in place of the code is the sort of the definition
pub sorted_is : (xs ys : List Pair) → IsPermutation xs ys → IsSorted pair_cmp ys → ys ≡ sort_pairs xs
sorted_is xs ys moved up =
    same_lists ys (sort_pairs xs) (ascending_from ys up) (Ascending-sort xs)
    (λ test. sum_by-IsPermutation (weight test) xs ys moved ∙ sym (sum_by-sort_pairs (weight test) xs))

-- what is sorted by its pairs has sorted pairs
pub sorted_views : {X : Type 0} (view : X → Pair) (cmp : X → X → Ordering) → ((a b : X) → cmp a b ≡ pair_cmp (view a) (view b)) → (xs : List X) → IsSorted cmp xs → IsSorted pair_cmp (map view xs)
sorted_views view cmp same [] h = λ k d low inside. absurd (omega arith)
sorted_views view cmp same (x ∷ xs) h = λ k d low inside.
    let long = simp length-map at inside in
    rw (get_or-map view (x ∷ xs) (k + 1) x d (omega arith), get_or-map view (x ∷ xs) k x d (omega arith), ← same) (h k x low (omega arith))
