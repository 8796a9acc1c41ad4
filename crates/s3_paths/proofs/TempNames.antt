-- The two ways to say that a name ends as temporary files do.
use Rattle.std.proofs.Common.{◌≡◌, ◌≤◌, ◌-◌, ◌+◌, ◌↔◌, ℕ, true, List, ◌∷◌, ◌++◌, length, get_or, take, drop, codes, refl, sym, ap, ◌∙◌, arith}
use Rattle.std.specs.List.{AllPass, list_all}
use Rattle.std.proofs.lemmas.Bool.{and_parts, and_from, eqb-true, leb-true, le-leb}
use Rattle.std.proofs.lemmas.List.{take-append-drop, drop_more, drop-drop, take_at, drop_at, append_assoc, length-append, length-drop, length-take}
use Rattle.std.proofs.lemmas.List.Sums.{AllPass-from_list_all, list_all-from_AllPass}
use Rattle.std.proofs.lemmas.Slice.Eq.{bytes_eq-Decides}
use Rattle.s3_model.specs.TempNames.{is_lower_hex, is_temp_ending, is_temp_name, IsTempName}

ending_parts : (ending : List ℕ) → length ending ≡ 16 → is_temp_ending ending ≡ true → (ending ≡ (codes "." ++ take 8 (drop 1 ending)) ++ codes ".s3part") × (length (take 8 (drop 1 ending)) ≡ 8) × AllPass is_lower_hex (take 8 (drop 1 ending))
ending_parts ending n h =
    let outer = and_parts _ _ h in
    let inner = and_parts _ _ outer.0 in
    let suffix : drop 9 ending ≡ codes ".s3part" = (bytes_eq-Decides _ _).0 outer.1 in
    let first : get_or ending 0 0 ≡ 46 = eqb-true _ _ inner.0 in
    let front : ending ≡ get_or ending 0 0 ∷ drop 1 ending = drop_more ending 0 0 (omega arith) in
    let rest : drop 1 ending ≡ take 8 (drop 1 ending) ++ drop 9 ending = sym (take-append-drop 8 (drop 1 ending)) ∙ ap (λ ys. take 8 (drop 1 ending) ++ ys) (drop-drop 8 1 ending) in
    (front ∙ ap (λ byte. byte ∷ drop 1 ending) first ∙ ap (λ ys. 46 ∷ ys) (rest ∙ ap (λ ys. take 8 (drop 1 ending) ++ ys) suffix), omega (arith, length-take {A = ℕ}, length-drop {A = ℕ}), AllPass-from_list_all is_lower_hex _ inner.1)

pub IsTempName-from_test : (name : List ℕ) → is_temp_name name ≡ true → IsTempName name
IsTempName-from_test name h =
    let parts = and_parts _ _ h in
    let long : 16 ≤ length name = leb-true _ _ parts.0 in
    let ending = drop (length name - 16) name in
    let size : length ending ≡ 16 = omega (arith, length-drop {A = ℕ}) in
    let found = ending_parts ending size parts.1 in
    (take (length name - 16) name, take 8 (drop 1 ending), sym (take-append-drop (length name - 16) name) ∙ ap (λ ys. take (length name - 16) name ++ ys) found.0 ∙ sym (simp append_assoc), found.1, found.2)

test_from_IsTempName : (name : List ℕ) → IsTempName name → is_temp_name name ≡ true
test_from_IsTempName name (stem, digits, is, eight, hex) =
    let ending = 46 ∷ (digits ++ codes ".s3part") in
    let whole : name ≡ stem ++ ending = is ∙ simp append_assoc in
    let long : length name ≡ length stem + 16 = ap length whole ∙ omega (arith, length-append {A = ℕ}) in
    let cut : drop (length name - 16) name ≡ ending = ap (λ n. drop n name) (omega arith) ∙ ap (drop (length stem)) whole ∙ drop_at stem ending _ refl in
    let digits_is : take 8 (digits ++ codes ".s3part") ≡ digits = take_at digits _ 8 eight in
    let suffix_is : drop 8 (digits ++ codes ".s3part") ≡ codes ".s3part" = drop_at digits _ 8 eight in
    let ends : is_temp_ending ending ≡ true = and_from _ _ (and_from _ _ refl (ap (list_all is_lower_hex) digits_is ∙ list_all-from_AllPass is_lower_hex digits hex)) ((bytes_eq-Decides _ _).1 suffix_is) in
    and_from _ _ (le-leb _ _ (omega arith)) (ap is_temp_ending cut ∙ ends)

pub is_temp_name-IsTempName : (name : List ℕ) → (is_temp_name name ≡ true) ↔ IsTempName name
is_temp_name-IsTempName name = (IsTempName-from_test name, test_from_IsTempName name)
