-- The first items of a list, written over.
use Rattle.std.proofs.Common.{◌≡◌, ℕ, ◌≤◌, List, length, take, drop, ap, ◌∙◌, arith, sym, [], ◌∷◌, ◌++◌, suc, zero, refl, length-append, length-drop, length-take-le}
use Rattle.std.proofs.lemmas.List.{take-take, take-append-le}

-- what a write leaves of ys counts only up to the cut
take_refilled : (w ys : List ℕ) (n : ℕ) → take n (w ++ drop (length w) ys) ≡ take n (w ++ drop (length w) (take n ys))
take_refilled [] ys n = sym (take-take n n ys (omega arith))
take_refilled (x ∷ w) ys zero = refl
take_refilled (x ∷ w) [] (suc n) = refl
take_refilled (x ∷ w) (y ∷ ys) (suc n) = ap (λ l. x ∷ l) (take_refilled w ys n)

-- a write of w to the front of xs, seen in the first n items
pub take_of_refilled : (xs w rest : List ℕ) (n : ℕ) → n ≤ length xs
    → take n (take (length xs) ((w ++ drop (length w) xs) ++ rest)) ≡ take (length (take n xs)) (w ++ drop (length w) (take n xs))
take_of_refilled xs w rest n h =
    let ws = w ++ drop (length w) xs in
    let long : length xs ≤ length ws = omega (arith, length-append w (drop (length w) xs), length-drop (length w) xs) in
    ap (take n) (take-append-le (length xs) ws rest long)
    ∙ take-take n (length xs) ws h
    ∙ take_refilled w xs n
    ∙ ap (λ k. take k (w ++ drop (length w) (take n xs))) (sym (length-take-le n xs h))
