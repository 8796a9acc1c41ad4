-- Paths below a folder.
use Rattle.std.proofs.Common.{◌≡◌, ◌∙◌, ℕ, zero, suc, ◌+◌, Bool, true, false, ◌&&◌, List, [], ◌∷◌, ◌++◌, length, slice_index_or, nat_eq, refl, ap, arith, if◌then◌else◌}
use Rattle.std.specs.Cmp.{nat_eq_equiv}
use Rattle.std.specs.List.{starts_with}
use Rattle.s3_model.specs.Files.{ends_in_slash, is_below}

pub ends_at_last : (path : List ℕ) (i : ℕ) → i + 1 ≡ length path → nat_eq (slice_index_or path i 0) 47 ≡ ends_in_slash path
ends_at_last [] i last = absurd (omega arith)
ends_at_last (byte ∷ []) zero last = refl
ends_at_last (byte ∷ []) (suc i) last = absurd (omega arith)
ends_at_last (byte ∷ next ∷ path) zero last = absurd (omega arith)
ends_at_last (byte ∷ next ∷ path) (suc i) last = ends_at_last (next ∷ path) i (omega arith)

neither : (a b c : Bool) → (a && b) ≡ false → (b ≡ false → c ≡ false) → (a && c) ≡ false
neither true b c both later = later both
neither false b c both later = refl

both_hold : (a b c d : Bool) → (a && b) ≡ true → (b ≡ true → c ≡ d) → (a && c) ≡ d
both_hold true b c d both later = later both
both_hold false b c d both later = absurd (cc)

and_true : (a : Bool) → (a && true) ≡ a
and_true true = refl
and_true false = refl

-- what does not start with a text starts with no longer one
starts_shorter : (path folder more : List ℕ) → starts_with nat_eq path folder ≡ false → starts_with nat_eq path (folder ++ more) ≡ false
starts_shorter path [] more differs = absurd (cc)
starts_shorter [] (f ∷ folder) more differs = refl
starts_shorter (p ∷ path) (f ∷ folder) more differs = neither (nat_eq f p) _ _ differs (starts_shorter path folder more)

starts_longer : (path folder : List ℕ) → starts_with nat_eq path folder ≡ true → starts_with nat_eq path (folder ++ 47 ∷ []) ≡ nat_eq (slice_index_or path (length folder) 0) 47
starts_longer [] [] same = refl
starts_longer (p ∷ path) [] same = and_true (nat_eq 47 p) ∙ nat_eq_equiv.symm 47 p
starts_longer [] (f ∷ folder) same = absurd (cc)
starts_longer (p ∷ path) (f ∷ folder) same = both_hold (nat_eq f p) _ _ _ same (starts_longer path folder)

-- whether a path is below a folder, by the text in front and the byte after it
pub below_not : (folder path : List ℕ) → starts_with nat_eq path folder ≡ false → is_below folder path ≡ false
below_not folder path differs =
    elim (ends_in_slash folder) as (λ b. starts_with nat_eq path (if b then folder else folder ++ 47 ∷ []) ≡ false) [ true ↦ differs | false ↦ starts_shorter path folder (47 ∷ []) differs ]

pub below_at : (folder path : List ℕ) → starts_with nat_eq path folder ≡ true → ends_in_slash folder ≡ false → is_below folder path ≡ nat_eq (slice_index_or path (length folder) 0) 47
below_at folder path same open_end = ap (λ b. starts_with nat_eq path (if b then folder else folder ++ 47 ∷ [])) open_end ∙ starts_longer path folder same
