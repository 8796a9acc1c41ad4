-- What is found in a map of parts, and what an insertion makes of it.
use Rattle.std.proofs.Common.{◌≡◌, ◌∙◌, ℕ, Bool, cond, List, [], ◌∷◌, Some, refl, sym, ap}
use Rattle.std.specs.Ordering.{nat_cmp, eq_by_cmp, is_eq}
use Rattle.std.specs.Cmp.{eq_by_cmp_equiv}
use Rattle.std.specs.Map.{lookup}
use Rattle.std.specs.BTreeMap as tree
use Rattle.std.specs.FinMap.{find, get, insert, get-from_entries, get-insert, same_map, nat_cmp-IsAntisymmetric}
use Rattle.std.specs.Cmp.{nat_cmp_total}
use Rattle.object_table.specs.Parts.{part_map}

find_entries : {V : Type 0} (es : List (ℕ × V)) (q : ℕ) → find nat_cmp q es ≡ lookup (λ k. is_eq (nat_cmp q k)) es
find_entries [] q = refl
find_entries (e ∷ es) q = ap (cond (is_eq (nat_cmp q e.0)) (Some e.1)) (find_entries es q)

pub get-part_map : {V : Type 0} (m : tree.BTreeMap ℕ V) (q : ℕ) → get (part_map m.entries) q ≡ tree.get nat_cmp m q
get-part_map m q = get-from_entries nat_cmp_total m.entries q ∙ find_entries m.entries q

pub part_map-insert : {V : Type 0} (m n : tree.BTreeMap ℕ V) (k : ℕ) (v : V) → tree.Updates nat_cmp m n k (Some v) → part_map n.entries ≡ insert (part_map m.entries) k v
part_map-insert m n k v updates =
    same_map nat_cmp_total nat_cmp-IsAntisymmetric _ _ (λ q.
    get-part_map n q
    ∙ updates.0 q
    ∙ ap (λ (b : Bool). cond b (Some v) (tree.get nat_cmp m q)) ((eq_by_cmp_equiv nat_cmp_total).symm k q)
    ∙ ap (cond (eq_by_cmp nat_cmp q k) (Some v)) (sym (get-part_map m q))
    ∙ sym (get-insert nat_cmp_total (part_map m.entries) k v q))
