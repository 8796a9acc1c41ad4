-- Rows that come one after the other.
use Rattle.std.proofs.Common.{◌≡◌, ◌∙◌, ◌++◌, ◌+◌, ◌<◌, ℕ, List, [], ◌∷◌, refl, sym, ap, subst, append-nil, append_assoc, length, take, get_or}
use Rattle.std.proofs.lemmas.List.{take_more, take_all}
use Rattle.listing_rows.specs.Listings.{AddsRows, AreRows}

module _ {A : Type 0} (R : A → List ℕ → Type 0) where
  rows_push : (items : List A) (item : A) (rows row : List ℕ) → AreRows R items rows → R item row → AreRows R (items ++ item ∷ []) (rows ++ row)
  rows_push [] item rows row h r = (row, [], ap (λ (t : List ℕ). t ++ row) h ∙ sym (append-nil row), r, refl)
  rows_push (x ∷ xs) item rows row (first, rest, is, of, more) r =
      (first, rest ++ row, ap (λ (t : List ℕ). t ++ row) is ∙ append_assoc first rest row, of, rows_push xs item rest row more r)

  pub adds_none : (before : List ℕ) → AddsRows R [] before before
  adds_none before = ([], sym (append-nil before), refl)

  -- one more row
  pub adds_more : (items : List A) (i : ℕ) (item d : A) (before now after row : List ℕ) → i < length items → item ≡ get_or items i d → AddsRows R (take i items) before now → R item row → after ≡ now ++ row
      → AddsRows R (take (i + 1) items) before after
  adds_more items i item d before now after row lt is (rows, at, are) r grown = (
    rows ++ row,
    grown ∙ ap (λ (t : List ℕ). t ++ row) at ∙ append_assoc before rows row,
    subst (λ (l : List A). AreRows R l (rows ++ row)) (ap (λ (z : A). take i items ++ z ∷ []) is ∙ sym (take_more items i d lt)) (rows_push (take i items) item rows row are r),
  )
