-- What is found in a map from texts, and what an insertion makes of it.
use Rattle.std.proofs.Common.{◌≡◌, ◌∙◌, ℕ, Bool, true, false, not, cond, ◌&&◌, ◌||◌, List, [], ◌∷◌, ◌++◌, Bor, Option, Some, None, refl, sym, ap, arith, length, map, filter, String, string_bytes}
use Rattle.std.specs.String.{string_cmp}
use Rattle.std.specs.Ordering.{nat_cmp, eq_by_cmp, is_eq}
use Rattle.std.specs.Cmp.{eq_by_cmp_equiv}
use Rattle.std.specs.Cmp.Lexicographic.{slice_cmp, nat_list_cmp_total}
use Rattle.std.specs.Map.{lookup}
use Rattle.std.specs.Str.{bytes_eq}
use Rattle.std.specs.BTreeMap as tree
use Rattle.std.specs.BTreeMap.Range.{range_contains}
use Rattle.std.specs.declared.cmp.Ordering.TheVariants.{Less}
use Rattle.std.specs.declared.ops.Bound.TheVariants.{Included, Unbounded}
use Rattle.std.specs.List.{AllByRecursion, list_any}
use Rattle.std.specs.List.Sorted.{IsStrictlySortedBy}
use Rattle.std.specs.FinMap.Entries.{put, by_order}
use Rattle.std.specs.FinMap.{empty, len-empty, len-entries, keys, entries, from_entries, entries-insert, get, insert, remove, find, get-from_entries, get-insert, get-remove, same_map, slice_cmp-IsAntisymmetric, nat_cmp-IsAntisymmetric}
use Rattle.std.proofs.lemmas.List.{length-map}
use Rattle.std.proofs.lemmas.Map.Text.{btree_map_updates_text, is_eq-slice_cmp}
use Rattle.text_maps.specs.TextMap.{is_from, text_entries, text_map}

find_entries : {Y V : Type 0} (es : List (String Y × V)) (q : List ℕ) → find (slice_cmp nat_cmp) q (text_entries es) ≡ lookup (λ k. is_eq (slice_cmp nat_cmp q (string_bytes k))) es
find_entries [] q = refl
find_entries (e ∷ es) q = ap (cond (is_eq (slice_cmp nat_cmp q (string_bytes e.0))) (Some e.1)) (find_entries es q)

pub get-text_map : {Y V : Type 0} (m : tree.BTreeMap (String Y) V) (q : List ℕ) → get (text_map m.entries) q ≡ tree.get_by_text m q
get-text_map m q = get-from_entries nat_list_cmp_total (text_entries m.entries) q ∙ find_entries m.entries q

pub same_test : (k q : List ℕ) → bytes_eq k q ≡ eq_by_cmp (slice_cmp nat_cmp) q k
same_test k q = sym (is_eq-slice_cmp k q) ∙ (eq_by_cmp_equiv nat_list_cmp_total).symm k q

pub text_map-insert : {Y V : Type 0} (m n : tree.BTreeMap (String Y) V) (k : String Y) (v : V) → tree.Updates string_cmp m n k (Some v) → text_map n.entries ≡ insert (text_map m.entries) (string_bytes k) v
text_map-insert m n k v updates =
    same_map nat_list_cmp_total (slice_cmp-IsAntisymmetric nat_cmp-IsAntisymmetric) _ _ (λ q.
    get-text_map n q
    ∙ btree_map_updates_text (string_bytes k) m n (Some v) updates q
    ∙ ap (λ (b : Bool). cond b (Some v) (tree.get_by_text m q)) (same_test (string_bytes k) q)
    ∙ ap (cond (eq_by_cmp (slice_cmp nat_cmp) q (string_bytes k)) (Some v)) (sym (get-text_map m q))
    ∙ sym (get-insert nat_list_cmp_total (text_map m.entries) (string_bytes k) v q))

-- a change at a key that is asked for by its bytes
updated : {Y V : Type 0} (m n : tree.BTreeMap (String Y) V) (k : List ℕ) (w : Option V) → tree.UpdatesBy string_cmp (λ j. slice_cmp nat_cmp k (string_bytes j)) m n w
    → (q : List ℕ) → get (text_map n.entries) q ≡ cond (eq_by_cmp (slice_cmp nat_cmp) q k) w (get (text_map m.entries) q)
updated m n k w updates q =
    get-text_map n q
    ∙ btree_map_updates_text k m n w updates q
    ∙ ap (λ (b : Bool). cond b w (tree.get_by_text m q)) (same_test k q)
    ∙ ap (cond (eq_by_cmp (slice_cmp nat_cmp) q k) w) (sym (get-text_map m q))

pub text_map-remove : {Y V : Type 0} (m n : tree.BTreeMap (String Y) V) (k : List ℕ) → tree.UpdatesBy string_cmp (λ j. slice_cmp nat_cmp k (string_bytes j)) m n None → text_map n.entries ≡ remove (text_map m.entries) k
text_map-remove m n k updates =
    same_map nat_list_cmp_total (slice_cmp-IsAntisymmetric nat_cmp-IsAntisymmetric) _ _ (λ q.
    updated m n k None updates q ∙ sym (get-remove nat_list_cmp_total (text_map m.entries) k q))

pub text_map-put : {Y V : Type 0} (m n : tree.BTreeMap (String Y) V) (k : List ℕ) (v : V) → tree.UpdatesBy string_cmp (λ j. slice_cmp nat_cmp k (string_bytes j)) m n (Some v) → text_map n.entries ≡ insert (text_map m.entries) k v
text_map-put m n k v updates =
    same_map nat_list_cmp_total (slice_cmp-IsAntisymmetric nat_cmp-IsAntisymmetric) _ _ (λ q.
    updated m n k (Some v) updates q ∙ sym (get-insert nat_list_cmp_total (text_map m.entries) k v q))

-- The keys of a tree ascend, so that the map has them in the tree's order.

no_items : {A : Type 0} (xs : List A) → length xs ≡ 0 → xs ≡ []
no_items [] none = refl
no_items (x ∷ xs) none = absurd (omega arith)

entries-put_first : {V : Type 0} (e : List ℕ × V) (es : List (List ℕ × V)) → AllByRecursion (λ k. slice_cmp nat_cmp e.0 k ≡ Less) (map (λ e. e.0) es) → put (slice_cmp nat_cmp) e.0 e.1 es ≡ e ∷ es
entries-put_first e [] below = refl
entries-put_first e (next ∷ es) below = ap (λ o. by_order o (e ∷ next ∷ es) ((next.0, e.1) ∷ es) (next ∷ put (slice_cmp nat_cmp) e.0 e.1 es)) below.0

entries-from_sorted_entries : {V : Type 0} (es : List (List ℕ × V)) → IsStrictlySortedBy (slice_cmp nat_cmp) (map (λ e. e.0) es) → entries (from_entries {R = slice_cmp nat_cmp} es) ≡ es
unfolding IsStrictlySortedBy
entries-from_sorted_entries {V} [] sorted = no_items _ (sym (len-entries (empty {X = V} {R = slice_cmp nat_cmp})) ∙ len-empty (slice_cmp nat_cmp) V)
entries-from_sorted_entries (e ∷ es) sorted =
    entries-insert nat_list_cmp_total (from_entries es) e.0 e.1
    ∙ ap (put (slice_cmp nat_cmp) e.0 e.1) (entries-from_sorted_entries es sorted.1)
    ∙ entries-put_first e es sorted.0

-- the keys' texts ascend as the keys do, and stand in the entries
texts_below : {Y V : Type 0} (k : String Y) (es : List (String Y × V)) → AllByRecursion (λ j. string_cmp k j ≡ Less) (map (λ e. e.0) es) → AllByRecursion (λ j. slice_cmp nat_cmp (string_bytes k) j ≡ Less) (map (λ e. e.0) (text_entries es))
texts_below k [] below = tt
texts_below k (e ∷ es) below = (below.0, texts_below k es below.1)

texts_sorted : {Y V : Type 0} (es : List (String Y × V)) → IsStrictlySortedBy string_cmp (map (λ e. e.0) es) → IsStrictlySortedBy (slice_cmp nat_cmp) (map (λ e. e.0) (text_entries es))
unfolding IsStrictlySortedBy
texts_sorted [] sorted = tt
texts_sorted (e ∷ es) sorted = (texts_below e.0 es sorted.0, texts_sorted es sorted.1)

keys_of_texts : {Y V : Type 0} (es : List (String Y × V)) → map (λ e. e.0) (text_entries es) ≡ map string_bytes (map (λ e. e.0) es)
keys_of_texts [] = refl
keys_of_texts (e ∷ es) = ap (λ ks. string_bytes e.0 ∷ ks) (keys_of_texts es)

pub keys-text_map : {Y V : Type 0} (m : tree.BTreeMap (String Y) V) → tree.IsOrdered string_cmp m → keys (text_map m.entries) ≡ map string_bytes (tree.keys m)
keys-text_map {Y} {V} m ordered = ap (map (λ (e : List ℕ × V). e.0)) (entries-from_sorted_entries (text_entries m.entries) (texts_sorted m.entries ordered)) ∙ keys_of_texts m.entries

pub length_of_keys : {Y V : Type 0} (m : tree.BTreeMap (String Y) V) → tree.IsOrdered string_cmp m → length m.entries ≡ length (keys (text_map m.entries))
length_of_keys m ordered =
    sym (length-map m.entries (λ e. e.0)) ∙ sym (length-map (tree.keys m) string_bytes) ∙ ap (λ (ks : List (List ℕ)). length ks) (sym (keys-text_map m ordered))

list_any-map : {A B : Type 0} (p : B → Bool) (f : A → B) (xs : List A) → list_any p (map f xs) ≡ list_any (λ x. p (f x)) xs
list_any-map p f [] = refl
list_any-map p f (x ∷ xs) = ap (λ b. p (f x) || b) (list_any-map p f xs)

pub any_key : {Y V : Type 0} (m : tree.BTreeMap (String Y) V) (p : List ℕ → Bool) → tree.IsOrdered string_cmp m → list_any (λ k. p (string_bytes k)) (tree.keys m) ≡ list_any p (keys (text_map m.entries))
any_key m p ordered = sym (ap (list_any p) (keys-text_map m ordered) ∙ list_any-map p string_bytes (tree.keys m))

-- ---- the entries from a text on

kept_texts : {Y V : Type 0} (p : String Y → Bool) (q : List ℕ → Bool) → ((k : String Y) → p k ≡ q (string_bytes k)) → (es : List (String Y × V)) → text_entries (filter (λ e. p e.0) es) ≡ filter (λ e. q e.0) (text_entries es)
kept_texts p q same [] = refl
kept_texts {Y} {V} p q same (e ∷ es) = by (p e.0) refl (kept_texts p q same es)
  where
    by : (b : Bool) → p e.0 ≡ b → text_entries (filter (λ e. p e.0) es) ≡ filter (λ e. q e.0) (text_entries es)
        → text_entries (cond b (e ∷ filter (λ e. p e.0) es) (filter (λ e. p e.0) es)) ≡ cond (q (string_bytes e.0)) ((string_bytes e.0, e.1) ∷ filter (λ e. q e.0) (text_entries es)) (filter (λ e. q e.0) (text_entries es))
    by true is rest =
        ap (λ (kept : List (List ℕ × V)). (string_bytes e.0, e.1) ∷ kept) rest
        ∙ ap (λ (b : Bool). cond b ((string_bytes e.0, e.1) ∷ filter (λ e. q e.0) (text_entries es)) (filter (λ e. q e.0) (text_entries es))) (sym is ∙ same e.0)
    by false is rest =
        rest
        ∙ ap (λ (b : Bool). cond b ((string_bytes e.0, e.1) ∷ filter (λ e. q e.0) (text_entries es)) (filter (λ e. q e.0) (text_entries es))) (sym is ∙ same e.0)

open_end : (b : Bool) → (b && not false) ≡ b
open_end true = refl
open_end false = refl

pub entries_from_text : {Y V : Type 0} (m : tree.BTreeMap (String Y) V) (start : String Y) (rest : List (String Y × V)) → tree.IsOrdered string_cmp m → rest ≡ filter (λ e. range_contains string_cmp (Included start) Unbounded e.0) m.entries
    → text_entries rest ≡ filter (λ e. is_from (string_bytes start) e.0) (entries (text_map m.entries))
entries_from_text {Y} {V} m start rest ordered is =
    ap text_entries is
    ∙ kept_texts (λ k. range_contains string_cmp (Included start) Unbounded k) (is_from (string_bytes start)) (λ k. open_end (is_from (string_bytes start) (string_bytes k))) m.entries
    ∙ sym (ap (filter (λ (e : List ℕ × V). is_from (string_bytes start) e.0)) (entries-from_sorted_entries (text_entries m.entries) (texts_sorted m.entries ordered)))

-- the texts of the keys that an iterator over a map has yielded
pub texts_of : {Y : Type 0} (xs : List (Bor (String Y))) → map (λ k. string_bytes k.now) xs ≡ map string_bytes (map (λ k. k.now) xs)
texts_of [] = refl
texts_of (x ∷ xs) = ap (λ (ks : List (List ℕ)). string_bytes x.now ∷ ks) (texts_of xs)

pub texts_grown : {Y : Type 0} (xs : List (Bor (String Y))) (x : Bor (String Y)) → map (λ k. string_bytes k.now) (xs ++ x ∷ []) ≡ map (λ k. string_bytes k.now) xs ++ string_bytes x.now ∷ []
texts_grown [] x = refl
texts_grown (y ∷ xs) x = ap (λ (ks : List (List ℕ)). string_bytes y.now ∷ ks) (texts_grown xs x)
