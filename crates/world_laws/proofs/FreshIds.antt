-- At each state there is an id that names no upload.
use Rattle.std.proofs.Common.{◌≡◌, ◌∙◌, ◌+◌, ◌<◌, ◌||◌, ℕ, zero, suc, Bool, false, List, [], ◌∷◌, refl, ap, length, arith}
use Rattle.std.specs.Prelude.{IsNone}
use Rattle.std.specs.List.{list_any}
use Rattle.std.specs.Ordering.{eq_by_cmp, nat_cmp}
use Rattle.std.specs.Cmp.Lexicographic.{slice_cmp, nat_list_cmp_total}
use Rattle.std.specs.FinMap.{get, keys, contains_key-keys}
use Rattle.s3_model.specs.Maps.{MapOf}
use Rattle.s3_service.specs.ServiceState.{State}
use Rattle.shared_lemmas.proofs.Maps.{other_key, text_exact}

-- the length of all texts together
abbrev total : List (List ℕ) → ℕ
total [] = 0
total (text ∷ texts) = length text + total texts

-- a text that is longer is none of them
none_of : (texts : List (List ℕ)) (longer : List ℕ) → total texts < length longer → list_any (eq_by_cmp (slice_cmp nat_cmp) longer) texts ≡ false
none_of [] longer long = refl
none_of (text ∷ texts) longer long =
    ap (λ (b : Bool). b || list_any (eq_by_cmp (slice_cmp nat_cmp) longer) texts)
    (other_key nat_list_cmp_total text_exact longer text (λ same. let level : length longer ≡ length text = ap length same in absurd (omega arith))) ∙ none_of texts longer (omega arith)

not_in : {V : Type 0} (m : MapOf V) (longer : List ℕ) → total (keys m) < length longer → IsNone (get m longer)
not_in m longer long = contains_key-keys m longer ∙ none_of (keys m) longer long

abbrev zeros : ℕ → List ℕ
zeros zero = []
zeros (suc n) = 0 ∷ zeros n

length-zeros : (n : ℕ) → length (zeros n) ≡ n
length-zeros zero = refl
length-zeros (suc n) = ap suc (length-zeros n)

pub fresh_id : (t : State) → (id : List ℕ) × IsNone (get t.uploads id) × IsNone (get t.ended id)
fresh_id t =
    let long = length-zeros (total (keys t.uploads) + total (keys t.ended) + 1) in
    (zeros (total (keys t.uploads) + total (keys t.ended) + 1), not_in t.uploads _ (omega arith), not_in t.ended _ (omega arith))
