-- A look-up by name is the first row of a table that has the name.
use Rattle.std.proofs.Common.{◌≡◌, ◌≢◌, ◌∙◌, ℕ, zero, suc, Option, Some, None, List, [], ◌∷◌, ap, sym, subst, refl, map}
use Rattle.std.proofs.Common.{arith, slice_get, Bool, true, false, nat_lt}
use Rattle.std.specs.Option.{option_and_then}
use Rattle.std.specs.Map.{lookup}
use Rattle.std.specs.List.{list_all}
use Rattle.std.specs.Str.{IsAscii, IsUtf8, bytes_eq}
use Rattle.std.proofs.lemmas.Slice.Eq.{bytes_eq-Decides}
use Rattle.std.proofs.lemmas.Bool.{cond_both, and_parts, ltb-true, false_from_ne_true}
use Rattle.std.proofs.lemmas.Bool.Decides.{not_from_Decides}
use Rattle.std.proofs.lemmas.Str.{IsUtf8-from_ascii}
use Rattle.std.proofs.lemmas.Option.{same_Some}
use Rattle.s3_model.specs.FirstRow.{IsFirstRow}

-- the value of a row
abbrev value_at : {V : Type 0} → List (List ℕ × V) → Option ℕ → Option V
value_at table row = option_and_then (slice_get (map (λ each. each.1) table)) row

found_here : {V : Type 0} (e : List ℕ × V) (es : List (List ℕ × V)) (name : List ℕ) (row : Option ℕ) → name ≡ e.0
    → IsFirstRow (map (λ each. each.0) (e ∷ es)) name row → Some e.1 ≡ value_at (e ∷ es) row
found_here e es name None same h = absurd (h 0 (ap Some (sym same)))
found_here e es name (Some zero) same h = refl
found_here e es name (Some (suc k)) same h = absurd (h.1 0 (omega arith) (ap Some (sym same)))

found_later : {V : Type 0} (e : List ℕ × V) (es : List (List ℕ × V)) (name : List ℕ) (found : Option V) (row : Option ℕ)
    → name ≢ e.0
    → ((r : Option ℕ) → IsFirstRow (map (λ each. each.0) es) name r → found ≡ value_at es r)
    → IsFirstRow (map (λ each. each.0) (e ∷ es)) name row → found ≡ value_at (e ∷ es) row
found_later e es name found None differs rest h = rest None (λ k. h (suc k))
found_later e es name found (Some zero) differs rest h = absurd (differs (sym (same_Some _ _ h.0)))
found_later e es name found (Some (suc k)) differs rest h = rest (Some k) (h.0, λ j lt. h.1 (suc j) (omega arith))

lookup_first_row : {V : Type 0} (table : List (List ℕ × V)) (name : List ℕ) (row : Option ℕ)
    → IsFirstRow (map (λ each. each.0) table) name row
    → lookup (bytes_eq name) table ≡ value_at table row
lookup_first_row [] name None h = refl
lookup_first_row [] name (Some k) h = refl
lookup_first_row (e ∷ es) name row h =
    cond_both (bytes_eq name e.0) (Some e.1) (lookup (bytes_eq name) es) (λ found. found ≡ value_at (e ∷ es) row)
    (λ same. found_here e es name row ((bytes_eq-Decides name e.0).0 same) h)
    (λ other. found_later e es name _ row (not_from_Decides _ (bytes_eq-Decides name e.0) other)
    (lookup_first_row es name) h)

-- the same, where the names stand in a list of their own
pub lookup_found : {V : Type 0} (table : List (List ℕ × V)) (names : List (List ℕ)) (wanted name : List ℕ)
    (row : Option ℕ) → names ≡ map (λ each. each.0) table → name ≡ wanted
    → IsFirstRow names name row
    → lookup (bytes_eq wanted) table ≡ option_and_then (slice_get (map (λ each. each.1) table)) row
lookup_found table names wanted name row are same h =
    subst (λ (w : List ℕ). lookup (bytes_eq w) table ≡ value_at table row) same
    (lookup_first_row table name row (subst (λ (ns : List (List ℕ)). IsFirstRow ns name row) are h))

-- a name that fails a test which all rows pass is no row's
lookup_fails : {V : Type 0} (passes : List ℕ → Bool) (table : List (List ℕ × V)) (name : List ℕ)
    → list_all (λ each. passes each.0) table ≡ true → passes name ≡ false
    → lookup (bytes_eq name) table ≡ None
lookup_fails passes [] name all fails = refl
lookup_fails passes (e ∷ es) name all fails =
    let parts = and_parts (passes e.0) (list_all (λ each. passes each.0) es) all in
    cond_both (bytes_eq name e.0) (Some e.1) (lookup (bytes_eq name) es) (λ found. found ≡ None)
    (λ same. let equal = (bytes_eq-Decides name e.0).0 same in let clash : true ≡ false = sym parts.0 ∙ ap passes
    (sym equal) ∙ fails in cc)
    (λ other. lookup_fails passes es name parts.1 fails)

-- a test that each byte is ASCII
abbrev all_ascii : List ℕ → Bool
all_ascii bytes = list_all (λ byte. nat_lt byte 128) bytes

ascii_from_test : (bytes : List ℕ) → all_ascii bytes ≡ true → IsAscii bytes
ascii_from_test [] h i = omega arith
ascii_from_test (b ∷ bytes) h zero = ltb-true b 128 (and_parts (nat_lt b 128) (all_ascii bytes) h).0
ascii_from_test (b ∷ bytes) h (suc i) = ascii_from_test bytes (and_parts (nat_lt b 128) (all_ascii bytes) h).1 i

-- in a table of ASCII names, what is no text has no row
pub lookup_no_text : {V : Type 0} (table : List (List ℕ × V)) (name : List ℕ)
    → list_all (λ each. list_all (λ byte. nat_lt byte 128) each.0) table ≡ true → ¬ (IsUtf8 name)
    → lookup (bytes_eq name) table ≡ None
lookup_no_text table name all other =
    lookup_fails all_ascii table name all
    (false_from_ne_true (all_ascii name) (λ h. other (IsUtf8-from_ascii name (ascii_from_test name h))))
