-- Bytes written over others, which are long enough or were made so by zeros.
use Rattle.std.proofs.Common.{◌≡◌, ◌∙◌, ◌⊎◌, ◌+◌, ◌-◌, ◌++◌, ◌≤◌, ℕ, zero, suc, List, [], ◌∷◌, length, take, drop, refl, sym, ap, inl, inr, arith}
use Rattle.std.specs.Prelude.{replicate}
use Rattle.std.proofs.Math.Seq.{take-append-add}
use Rattle.std.proofs.lemmas.List.{append-nil, drop_all, length-append, length-drop, length-replicate, length-take-le, take_all, take-append-le, take-replicate}
use Rattle.local_files.specs.Calls.{written_at}

no_zeros : (at size : ℕ) → at ≤ size → at - size ≡ 0
no_zeros at size le = omega arith

split_at : (at size : ℕ) → size ≤ at → at ≡ size + (at - size)
split_at at size le = omega arith

le_or_more : (n m : ℕ) → (n ≤ m) ⊎ (m ≤ n)
le_or_more n m = grind arith

nothing : (bytes : List ℕ) (n : ℕ) → length bytes ≤ n → drop n bytes ≡ []
nothing [] zero h = refl
nothing [] (suc n) h = refl
nothing (b ∷ bytes) zero h = absurd (omega arith)
nothing (b ∷ bytes) (suc n) h = nothing bytes n (omega arith)

-- the front of a text with zeros behind it does not ask how many zeros there are
front_same : (old : List ℕ) (at more : ℕ) → at ≤ length old + more → take at (old ++ replicate more 0) ≡ take at (old ++ replicate (at - length old) 0)
front_same old at more inside =
    elim (le_or_more at (length old)) [
      | inl short ↦ take-append-le at old (replicate more 0) short ∙ sym (take-append-le at old (replicate (at - length old) 0) short)
      | inr long ↦
          ap (λ (n : ℕ). take n (old ++ replicate more 0)) (split_at at (length old) long)
          ∙ take-append-add old (replicate more 0) (at - length old)
          ∙ ap (λ (zeros : List ℕ). old ++ zeros) (take-replicate (at - length old) more 0 (omega arith) ∙ sym (take-replicate (at - length old) (at - length old) 0 (omega arith)))
          ∙ sym (take-append-add old (replicate (at - length old) 0) (at - length old))
          ∙ sym (ap (λ (n : ℕ). take n (old ++ replicate (at - length old) 0)) (split_at at (length old) long))
    ]

pub grown_none : (old : List ℕ) (size : ℕ) → size ≤ length old → old ++ replicate (size - length old) 0 ≡ old
grown_none old size inside = ap (λ (n : ℕ). old ++ replicate n 0) (no_zeros size (length old) inside) ∙ append-nil old

-- the same bytes behind them, whether there are zeros or not
back_same : (old : List ℕ) (size : ℕ) → drop size (old ++ replicate (size - length old) 0) ≡ drop size old
back_same old size =
    elim (le_or_more size (length old)) [
      | inl short ↦ ap (drop size) (grown_none old size short)
      | inr long ↦ nothing (old ++ replicate (size - length old) 0) size (no_more long) ∙ sym (nothing old size long)
    ]
  where
    no_more : length old ≤ size → length (old ++ replicate (size - length old) 0) ≤ size
    no_more long = let all = length-append old (replicate (size - length old) 0) in let zeros = length-replicate {A = ℕ} (size - length old) 0 in omega arith

pub pasted_grown : (old bytes : List ℕ) (at : ℕ)
    → take at (old ++ replicate (at + length bytes - length old) 0) ++ bytes ++ drop (at + length bytes) (old ++ replicate (at + length bytes - length old) 0) ≡ written_at at bytes old
pasted_grown old bytes at =
    ap (λ (front : List ℕ). front ++ bytes ++ drop (at + length bytes) (old ++ replicate (at + length bytes - length old) 0)) (front_same old at (at + length bytes - length old) (omega arith))
    ∙ ap (λ (back : List ℕ). take at (old ++ replicate (at - length old) 0) ++ bytes ++ back) (back_same old (at + length bytes))

-- bytes of a vector that was made long enough, written over in place
pub pasted_whole : (len : ℕ) (old items into new bytes : List ℕ) (at size : ℕ) → size ≡ at + length bytes → items ≡ old ++ replicate (size - length old) 0 → into ≡ items → length into ≡ len
    → new ≡ take at into ++ bytes ++ drop (at + length bytes) into → take len (new ++ drop (length new) items) ≡ written_at at bytes old
pasted_whole len old items into new bytes at size size_is items_is into_is len_is new_is =
    let zeros = length-replicate {A = ℕ} (size - length old) 0 in
    let grown = length-append old (replicate (size - length old) 0) in
    let long = ap (λ (xs : List ℕ). length xs) items_is in
    let same = ap (λ (xs : List ℕ). length xs) into_is in
    let inside : at + length bytes ≤ length into = omega arith in
    let front = length-take-le at into (omega arith) in
    let back = length-drop (at + length bytes) into in
    let two = length-append (take at into) bytes in
    let three = length-append (take at into ++ bytes) (drop (at + length bytes) into) in
    let all = ap (λ (xs : List ℕ). length xs) new_is in
    let size_new : length new ≡ length into = omega arith in
    ap (λ (rest : List ℕ). take len (new ++ rest)) (drop_all (length new) items (omega arith))
    ∙ ap (take len) (append-nil new)
    ∙ take_all len new (omega arith)
    ∙ new_is
    ∙ ap (λ (xs : List ℕ). take at xs ++ bytes ++ drop (at + length bytes) xs) (into_is ∙ items_is)
    ∙ ap (λ (n : ℕ). take at (old ++ replicate (n - length old) 0) ++ bytes ++ drop (at + length bytes) (old ++ replicate (n - length old) 0)) size_is
    ∙ pasted_grown old bytes at
