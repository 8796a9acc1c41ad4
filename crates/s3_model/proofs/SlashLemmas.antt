-- A text ends in `/` where its last byte is one.
use Rattle.std.proofs.Common.{◌≡◌, ◌∙◌, ◌-◌, ℕ, suc, List, [], ◌∷◌, length, drop, nat_eq, sym, ap, refl, arith, rules}
use Rattle.std.specs.Cmp.Lexicographic.{pointwise}
use Rattle.std.specs.List.{ends_with}
use Rattle.s3_model.specs.Files.{ends_in_slash}

pub last_slash : (path : List ℕ) → ends_with nat_eq path (47 ∷ []) ≡ ends_in_slash path
last_slash [] = refl
last_slash (byte ∷ []) = search rules
last_slash (byte ∷ next ∷ path) =
    let whole : length (byte ∷ next ∷ path) - 1 ≡ suc (length path) = omega arith in
    let rest : length (next ∷ path) - 1 ≡ length path = omega arith in
    ap (λ (n : ℕ). pointwise nat_eq (47 ∷ []) (drop n (byte ∷ next ∷ path))) whole
    ∙ ap (λ (n : ℕ). pointwise nat_eq (47 ∷ []) (drop n (next ∷ path))) (sym rest) ∙ last_slash (next ∷ path)
