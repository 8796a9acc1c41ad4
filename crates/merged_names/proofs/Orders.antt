-- The byte order of texts, and of texts behind one prefix.
use Rattle.std.proofs.Common.{◌≡◌, ◌∙◌, ℕ, true, false, List, [], ◌∷◌, ◌++◌, refl, sym, ap}
use Rattle.std.specs.Cmp.Lexicographic.{slice_cmp}
use Rattle.std.specs.Ordering.{is_eq, nat_cmp, ordering_reverse, ordering_then}
use Rattle.std.specs.FinMap.{nat_cmp-IsAntisymmetric, slice_cmp-IsAntisymmetric}
use Rattle.std.specs.Str.{bytes_eq}
use Rattle.std.specs.declared.cmp.Ordering.{Ordering}
use Rattle.std.specs.declared.cmp.Ordering.TheVariants.{Less, Equal, Greater}
use Rattle.std.proofs.lemmas.Cmp.{nat_cmp_total, nat_list_cmp_total, tied_itself}
use Rattle.std.proofs.lemmas.Map.Text.{is_eq-slice_cmp}

pub greater : (x y : List ℕ) → slice_cmp nat_cmp x y ≡ Less → slice_cmp nat_cmp y x ≡ Greater
greater x y less = nat_list_cmp_total.antisymm y x ∙ ap ordering_reverse less

pub less : (x y : List ℕ) → slice_cmp nat_cmp x y ≡ Greater → slice_cmp nat_cmp y x ≡ Less
less x y more = nat_list_cmp_total.antisymm y x ∙ ap ordering_reverse more

pub below_differs : (x y : List ℕ) → slice_cmp nat_cmp x y ≡ Less → bytes_eq x y ≡ false
below_differs x y less = sym (is_eq-slice_cmp x y) ∙ ap is_eq less

pub above_differs : (x y : List ℕ) → slice_cmp nat_cmp x y ≡ Less → bytes_eq y x ≡ false
above_differs x y less = sym (is_eq-slice_cmp y x) ∙ ap is_eq (greater x y less)

pub equal_itself : (x : List ℕ) → bytes_eq x x ≡ true
equal_itself x = sym (is_eq-slice_cmp x x) ∙ ap is_eq (tied_itself nat_list_cmp_total x)

pub equal_is : (x y : List ℕ) → slice_cmp nat_cmp x y ≡ Equal → x ≡ y
equal_is x y tied = slice_cmp-IsAntisymmetric nat_cmp-IsAntisymmetric x y tied

-- texts behind one prefix stand in the order of what follows it
pub behind_prefix : (prefix x y : List ℕ) → slice_cmp nat_cmp (prefix ++ x) (prefix ++ y) ≡ slice_cmp nat_cmp x y
behind_prefix [] x y = refl
behind_prefix (byte ∷ prefix) x y =
    ap (λ (o : Ordering). ordering_then o (slice_cmp nat_cmp (prefix ++ x) (prefix ++ y))) (tied_itself nat_cmp_total byte)
    ∙ behind_prefix prefix x y
