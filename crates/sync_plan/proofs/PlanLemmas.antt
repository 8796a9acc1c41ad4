-- A plan that is judged well is fit, and one that is refused has that fault.
use Rattle.std.proofs.Common.{◌≡◌, ◌∙◌, ◌≤◌, ◌⊎◌, ℕ, zero, suc, Bool, true, false, cond, List, [], ◌∷◌, ◌++◌, Option, Some, None, IsTrue, refl, sym, ap, subst, inl, inr, length, filter_map, slice_get}
use Rattle.std.specs.Cmp.Lexicographic.{slice_cmp}
use Rattle.std.specs.List.{AllByRecursion, cons_option}
use Rattle.std.specs.List.Sorted.{IsStrictlySortedBy}
use Rattle.std.specs.Map.{values_of}
use Rattle.std.specs.Ordering.{nat_cmp}
use Rattle.std.specs.Str.{bytes_eq}
use Rattle.std.specs.declared.cmp.Ordering.TheVariants.{Less}
use Rattle.s3_model.specs.ContentTypes.{last_name}
use Rattle.s3_model.specs.declared.faults.PlanFault.{PlanFault}
use Rattle.s3_model.specs.declared.faults.PlanFault.TheVariants as fault
use Rattle.s3_model.specs.declared.places.Entry.{Entry}
use Rattle.s3_model.specs.declared.places.Place.{Place}
use Rattle.s3_model.specs.declared.places.Place.TheVariants as place
use Rattle.s3_model.specs.declared.tasks.Kind.{Kind}
use Rattle.s3_model.specs.declared.tasks.Kind.TheVariants as kind
use Rattle.s3_model.specs.declared.tasks.Task.{Task}
use Rattle.shared_lemmas.proofs.Clashes.{none_is_some, some_is}
use Rattle.shared_lemmas.proofs.Members.{Has, contains_of, has, has-filter_map, has_at, has_filtered}
use Rattle.s3_model.specs.Entries.{IsAscending}
use Rattle.merged_names.specs.Merging.{AllAbove, Ascend}
use Rattle.merged_names.proofs.Orders.{behind_prefix, equal_itself}
use Rattle.sync_plan.specs.declared.errand.Errand.{Errand}
use Rattle.sync_plan.specs.Errands.{AreEntries, TransfersBetween, dest_at, is_joined, is_one_bucket, place_at, source_at, text_of}
use Rattle.sync_plan.specs.Fit.{IsCommon, IsFit, IsJudged, IsOfKind, IsRefused, Overlaps, object_key, read_keys, size_fault, written_keys}
use Rattle.sync_plan.specs.Plans.{planned}
use Rattle.sync_plan.proofs.SideLemmas.{names_ascend}
use Rattle.sync_plan.proofs.FitLemmas.{IsItem, are_items, front_key, front_of, items as items_of, items_ascend, same_path}
use Rattle.shared_lemmas.proofs.Maps.{not_before_itself, same_bytes}

-- ---- places of a list

pub all_at : {X : Type 0} (Holds : X → Type 0) (xs : List X) (n : ℕ) (x : X) → AllByRecursion Holds xs → slice_get xs n ≡ Some x → Holds x
all_at Holds [] n x all e = absurd (none_is_some x e)
all_at Holds (y ∷ ys) zero x all e = subst Holds (some_is y x e) all.0
all_at Holds (y ∷ ys) (suc n) x all e = all_at Holds ys n x all.1 e

pub value_at : (items : List (List ℕ × Task)) (n : ℕ) (task : Task) → slice_get (values_of items) n ≡ Some task → (path : List ℕ) × (slice_get items n ≡ Some (path, task))
value_at [] n task e = absurd (none_is_some task e)
value_at (item ∷ items) zero task e = (item.0, ap (λ (t : Task). Some (item.0, t)) (some_is item.1 task e))
value_at (item ∷ items) (suc n) task e = value_at items n task e

pub distinct : (items : List (List ℕ × Task)) (m n : ℕ) (a b : List ℕ × Task) → Ascend items → slice_get items m ≡ Some a → slice_get items n ≡ Some b → a.0 ≡ b.0 → m ≡ n
distinct [] m n a b ascend is_a is_b same = absurd (none_is_some a is_a)
distinct (item ∷ items) zero zero a b ascend is_a is_b same = refl
distinct (item ∷ items) zero (suc n) a b ascend is_a is_b same =
    absurd (not_before_itself item.0 (subst (λ (p : List ℕ). slice_cmp nat_cmp item.0 p ≡ Less) (sym same ∙ sym (ap (λ (i : List ℕ × Task). i.0) (some_is item a is_a)))
    (all_at (λ (i : List ℕ × Task). slice_cmp nat_cmp item.0 i.0 ≡ Less) items n b ascend.0 is_b)))
distinct (item ∷ items) (suc m) zero a b ascend is_a is_b same =
    absurd (not_before_itself item.0 (subst (λ (p : List ℕ). slice_cmp nat_cmp item.0 p ≡ Less) (same ∙ sym (ap (λ (i : List ℕ × Task). i.0) (some_is item b is_b)))
    (all_at (λ (i : List ℕ × Task). slice_cmp nat_cmp item.0 i.0 ≡ Less) items m a ascend.0 is_a)))
distinct (item ∷ items) (suc m) (suc n) a b ascend is_a is_b same = ap suc (distinct items m n a b ascend.1 is_a is_b same)

-- ---- buckets

bucket_in : Place → Option (List ℕ)
bucket_in (place.Object bucket key) = Some bucket
bucket_in (place.File path) = None

same_bucket : (of_place : Place) (b : Bool) (path : List ℕ) → bucket_in (cond b (place_at of_place path) of_place) ≡ bucket_in of_place
unfolding bucket_in
same_bucket (place.Object bucket key) true path = refl
same_bucket (place.Object bucket key) false path = refl
same_bucket (place.File root) true path = refl
same_bucket (place.File root) false path = refl

-- a place that is read and written is an object in the one bucket of both
met : (of_kind : Kind) (from to : Place) → TransfersBetween of_kind from (Some to) → bucket_in from ≡ bucket_in to → is_one_bucket from to ≡ true
unfolding bucket_in
met kind.Upload (place.File p) (place.Object bucket key) between e = absurd (none_is_some bucket e)
met kind.Upload (place.File p) (place.File q) between e = absurd between
met kind.Upload (place.Object b k) to between e = absurd between
met kind.Download (place.Object b k) (place.File q) between e = absurd (none_is_some b (sym e))
met kind.Download (place.Object b k) (place.Object bucket key) between e = absurd between
met kind.Download (place.File p) to between e = absurd between
met kind.Copy (place.Object b k) (place.Object bucket key) between e = ap (bytes_eq b) (sym (some_is b bucket e)) ∙ equal_itself b
met kind.Copy (place.Object b k) (place.File q) between e = absurd between
met kind.Copy (place.File p) to between e = absurd between
met kind.RemoveObject from to between e = absurd between
met kind.RemoveFile from to between e = absurd between

keyed : (of_place : Place) (bucket key : List ℕ) → of_place ≡ place.Object bucket key → object_key (Some of_place) ≡ Some key
keyed of_place bucket key e = ap (λ (p : Place). object_key (Some p)) e

-- ---- keys in order

module _ (key_of : Task → Option (List ℕ)) (front : List ℕ) where
  -- its key, if it has one, is the front and its path
  abbrev IsKeyed : List ℕ × Task → Type 0
  IsKeyed item = (key_of item.1 ≡ None) ⊎ (key_of item.1 ≡ Some (front ++ item.0))

  keys_above : (path : List ℕ) (items : List (List ℕ × Task)) → AllAbove path items → AllByRecursion IsKeyed items → AllByRecursion (λ key. slice_cmp nat_cmp (front ++ path) key ≡ Less) (filter_map key_of (values_of items))
  keys_above path [] above keyed = tt
  keys_above path (item ∷ items) above keyed =
      elim keyed.0 [
        | inl none ↦ subst (λ (o : Option (List ℕ)). AllByRecursion (λ key. slice_cmp nat_cmp (front ++ path) key ≡ Less) (cons_option o (filter_map key_of (values_of items)))) (sym none) (keys_above path items above.1 keyed.1)
        | inr some ↦ subst (λ (o : Option (List ℕ)). AllByRecursion (λ key. slice_cmp nat_cmp (front ++ path) key ≡ Less) (cons_option o (filter_map key_of (values_of items)))) (sym some) (behind_prefix front path item.0 ∙ above.0, keys_above path items above.1 keyed.1)
      ]

  keys_ascend : (items : List (List ℕ × Task)) → Ascend items → AllByRecursion IsKeyed items → IsAscending (filter_map key_of (values_of items))
  unfolding IsStrictlySortedBy
  keys_ascend [] ascend keyed = tt
  keys_ascend (item ∷ items) ascend keyed =
      elim keyed.0 [
        | inl none ↦ subst (λ (o : Option (List ℕ)). IsAscending (cons_option o (filter_map key_of (values_of items)))) (sym none) (keys_ascend items ascend.1 keyed.1)
        | inr some ↦ subst (λ (o : Option (List ℕ)). IsAscending (cons_option o (filter_map key_of (values_of items)))) (sym some) (keys_above item.0 items ascend.0 keyed.1, keys_ascend items ascend.1 keyed.1)
      ]

one_key_ascends : (key_of : Task → Option (List ℕ)) (base : List ℕ) (items : List (List ℕ × Task)) → Ascend items → AllByRecursion (λ item. item.0 ≡ base) items → IsAscending (filter_map key_of (values_of items))
unfolding IsStrictlySortedBy
one_key_ascends key_of base [] ascend same = tt
one_key_ascends key_of base (item ∷ []) ascend same = elim (key_of item.1) as (λ (o : Option (List ℕ)). IsAscending (cons_option o [])) [ None ↦ tt | Some key ↦ (tt, tt) ]
one_key_ascends key_of base (item ∷ next ∷ items) ascend same =
    absurd (not_before_itself item.0 (subst (λ (p : List ℕ). slice_cmp nat_cmp item.0 p ≡ Less) (same.1.0 ∙ sym same.0) ascend.0.0))

not_both_files : (of_kind : Kind) (from to : Place) → TransfersBetween of_kind from (Some to) → bucket_in from ≡ None → bucket_in to ≡ None → ⊥
unfolding bucket_in
not_both_files kind.Upload (place.File p) (place.Object bucket key) between e d = none_is_some bucket (sym d)
not_both_files kind.Upload (place.File p) (place.File q) between e d = between
not_both_files kind.Upload (place.Object b k) to between e d = between
not_both_files kind.Download (place.Object b k) to between e d = none_is_some b (sym e)
not_both_files kind.Download (place.File p) to between e d = between
not_both_files kind.Copy (place.Object b k) to between e d = none_is_some b (sym e)
not_both_files kind.Copy (place.File p) to between e d = between
not_both_files kind.RemoveObject from to between e d = between
not_both_files kind.RemoveFile from to between e d = between

one_is : (from to : Place) → is_one_bucket from to ≡ true → bucket_in from ≡ bucket_in to
unfolding bucket_in
one_is (place.Object b k) (place.Object bucket key) e = ap Some (same_bytes b bucket e)
one_is (place.Object b k) (place.File q) e = absurd cc
one_is (place.File p) (place.Object bucket key) e = absurd cc
one_is (place.File p) (place.File q) e = refl

object_of : (at : Option Place) (key : List ℕ) → object_key at ≡ Some key → (bucket : List ℕ) × (at ≡ Some (place.Object bucket key))
object_of None key e = absurd (none_is_some key e)
object_of (Some (place.Object bucket k)) key e = (bucket, ap (λ (x : List ℕ). Some (place.Object bucket x)) (some_is k key e))
object_of (Some (place.File path)) key e = absurd (none_is_some key e)

member_at : (errand : Errand) (to : Place) (many : Bool) (items : List (List ℕ × Task)) (task : Task) → AllByRecursion (IsItem errand to many) items → Has (values_of items) task → (path : List ℕ) × IsItem errand to many (path, task)
member_at errand to many [] task are h = absurd h
member_at errand to many (item ∷ items) task are (inl e) = (item.0, subst (λ (t : Task). IsItem errand to many (item.0, t)) e are.0)
member_at errand to many (item ∷ items) task are (inr h) = member_at errand to many items task are.1 h

module _ (errand : Errand) (to : Place) (between : TransfersBetween errand.kind errand.from (Some to)) (many : Bool) (items : List (List ℕ × Task))
    (ascend : Ascend items) (are : AllByRecursion (IsItem errand to many) items) where
  item_at : (n : ℕ) (task : Task) → slice_get (values_of items) n ≡ Some task → (path : List ℕ) × (slice_get items n ≡ Some (path, task)) × IsItem errand to many (path, task)
  item_at n task e = let at = value_at items n task e in (at.0, at.1, all_at (IsItem errand to many) items n (at.0, task) are at.1)

  path_of_dest : (many : Bool) (p q : List ℕ) (a b : Task) → IsItem errand to many (p, a) → IsItem errand to many (q, b) → a.dest ≡ b.dest → p ≡ q
  path_of_dest true p q a b here there e = same_path to p q (sym here.dest ∙ e ∙ there.dest)
  path_of_dest false p q a b here there e = here.base refl ∙ sym (there.base refl)

  source_is : (p : List ℕ) (a : Task) (source : Place) → IsItem errand to many (p, a) → a.source ≡ Some source → source_at errand.from many p ≡ source
  source_is p a source here e = elim here.source [ inl none ↦ absurd (none_is_some source (sym none ∙ e)) | inr some ↦ some_is (source_at errand.from many p) source (sym some ∙ e) ]

  path_of_source : (many : Bool) (p q : List ℕ) → source_at errand.from many p ≡ source_at errand.from many q → (many ≡ false → p ≡ q) → p ≡ q
  path_of_source true p q e single = same_path errand.from p q e
  path_of_source false p q e single = single refl

  pub destinations : (m n : ℕ) (a b : Task) → slice_get (values_of items) m ≡ Some a → slice_get (values_of items) n ≡ Some b → a.dest ≡ b.dest → m ≡ n
  destinations m n a b is_a is_b e =
      let at = item_at m a is_a in let by = item_at n b is_b in
      distinct items m n (at.0, a) (by.0, b) ascend at.1 by.1 (path_of_dest many at.0 by.0 a b at.2 by.2 e)

  pub sources : (m n : ℕ) (a b : Task) (source : Place) → slice_get (values_of items) m ≡ Some a → slice_get (values_of items) n ≡ Some b → a.source ≡ Some source → b.source ≡ Some source → m ≡ n
  sources m n a b source is_a is_b from_a from_b =
      let at = item_at m a is_a in let by = item_at n b is_b in
      distinct items m n (at.0, a) (by.0, b) ascend at.1 by.1
      (path_of_source many at.0 by.0 (source_is at.0 a source at.2 from_a ∙ sym (source_is by.0 b source by.2 from_b)) (λ single. at.2.base single ∙ sym (by.2.base single)))

  -- ---- buckets of its tasks

  from_bucket : (p : List ℕ) (a : Task) (source : Place) → IsItem errand to many (p, a) → a.source ≡ Some source → bucket_in errand.from ≡ bucket_in source
  from_bucket p a source here e = sym (same_bucket errand.from many p) ∙ ap bucket_in (source_is p a source here e)

  to_bucket : (q : List ℕ) (b : Task) → IsItem errand to many (q, b) → bucket_in b.dest ≡ bucket_in to
  to_bucket q b there = ap bucket_in there.dest ∙ same_bucket to (is_joined to many) q

  common_of : (a b : Task) (bucket key : List ℕ) → Has (values_of items) a → Has (values_of items) b → a.source ≡ Some (place.Object bucket key) → b.dest ≡ place.Object bucket key → IsCommon (values_of items) key
  common_of a b bucket key has_a has_b e d = (
    contains_of (read_keys (values_of items)) key (has-filter_map (λ (t : Task). object_key t.source) (values_of items) a key has_a (ap object_key e)),
    contains_of (written_keys (values_of items)) key (has-filter_map (λ (t : Task). object_key (Some t.dest)) (values_of items) b key has_b (keyed b.dest bucket key d)),
  )

  -- no place is both read and written, where no key is common in one bucket
  pub apart : (IsTrue (is_one_bucket errand.from to) → (key : List ℕ) → ¬ (IsCommon (values_of items) key))
      → (m n : ℕ) (a b : Task) (source : Place) → slice_get (values_of items) m ≡ Some a → slice_get (values_of items) n ≡ Some b → a.source ≡ Some source → b.dest ≡ source → ⊥
  unfolding bucket_in
  apart none m n a b (place.Object bucket key) is_a is_b e d =
      let at = item_at m a is_a in let by = item_at n b is_b in
      none (met errand.kind errand.from to between (from_bucket at.0 a (place.Object bucket key) at.2 e ∙ ap bucket_in (sym d) ∙ to_bucket by.0 b by.2)) key
      (common_of a b bucket key (has_at (values_of items) m a is_a) (has_at (values_of items) n b is_b) e d)
  apart none m n a b (place.File path) is_a is_b e d =
      let at = item_at m a is_a in let by = item_at n b is_b in
      not_both_files errand.kind errand.from to between (from_bucket at.0 a (place.File path) at.2 e) (sym (to_bucket by.0 b by.2) ∙ ap bucket_in d)

  pub kinds : (n : ℕ) (task : Task) → slice_get (values_of items) n ≡ Some task → IsOfKind task.kind task.source task.dest task.moves
  kinds n task e = let at = item_at n task e in at.2.of_kind

  -- ---- overlaps

  overlap_of : is_one_bucket errand.from to ≡ true → (key : List ℕ) → IsCommon (values_of items) key → Overlaps (values_of items) key
  unfolding bucket_in
  overlap_of one key common =
      let reader = has_filtered (λ (t : Task). object_key t.source) (values_of items) key (has _ _ common.0) in
      let writer = has_filtered (λ (t : Task). object_key (Some t.dest)) (values_of items) key (has _ _ common.1) in
      let at = member_at errand to many items reader.0 are reader.1 in
      let by = member_at errand to many items writer.0 are writer.1 in
      let source = object_of reader.0.source key reader.2 in
      let dest = object_of (Some writer.0.dest) key writer.2 in
      let is_dest : writer.0.dest ≡ place.Object dest.0 key = some_is writer.0.dest (place.Object dest.0 key) dest.1 in
      let same : dest.0 ≡ source.0 = some_is dest.0 source.0 (sym (ap bucket_in is_dest) ∙ to_bucket by.0 writer.0 by.1 ∙ sym (one_is errand.from to one) ∙ from_bucket at.0 reader.0 (place.Object source.0 key) at.1 source.1) in
      record {
        bucket = source.0;
        reads = reader.0;
        writes = writer.0;
        is_read = contains_of (values_of items) reader.0 reader.1;
        is_written = contains_of (values_of items) writer.0 writer.1;
        source = source.1;
        dest = is_dest ∙ ap (λ (bucket : List ℕ). place.Object bucket key) same;
      }

  common_where : (key : List ℕ) → Overlaps (values_of items) key → (is_one_bucket errand.from to ≡ true) × IsCommon (values_of items) key
  common_where key o =
      let at = member_at errand to many items o.reads are (has (values_of items) o.reads o.is_read) in
      let by = member_at errand to many items o.writes are (has (values_of items) o.writes o.is_written) in (
        met errand.kind errand.from to between (from_bucket at.0 o.reads (place.Object o.bucket key) at.1 o.source ∙ ap bucket_in (sym o.dest) ∙ to_bucket by.0 o.writes by.1),
        common_of o.reads o.writes o.bucket key (has (values_of items) o.reads o.is_read) (has (values_of items) o.writes o.is_written) o.source o.dest,
      )

  -- ---- its keys in order

  based : (items : List (List ℕ × Task)) → many ≡ false → AllByRecursion (IsItem errand to many) items → AllByRecursion (λ item. item.0 ≡ last_name (text_of errand.from)) items
  based [] single are = tt
  based (item ∷ items) single are = (are.0.base single, based items single are.1)

  pub reads_ascend : IsAscending (read_keys (values_of items))
  reads_ascend = by_many many refl
    where
      read_by : (from : Place) (p : List ℕ) (a : Task) → (a.source ≡ None) ⊎ (a.source ≡ Some (place_at from p)) → (object_key a.source ≡ None) ⊎ (object_key a.source ≡ Some (front_of from ++ p))
      read_by from p a (inl none) = inl (ap object_key none)
      read_by (place.Object bucket key) p a (inr some) = inr (ap object_key some ∙ front_key bucket key p)
      read_by (place.File root) p a (inr some) = inl (ap object_key some)

      all_read : (items : List (List ℕ × Task)) → many ≡ true → AllByRecursion (IsItem errand to many) items → AllByRecursion (IsKeyed (λ (t : Task). object_key t.source) (front_of errand.from)) items
      all_read [] is are = tt
      all_read (item ∷ items) is are =
          (read_by errand.from item.0 item.1 (subst (λ (m : Bool). (item.1.source ≡ None) ⊎ (item.1.source ≡ Some (source_at errand.from m item.0))) is are.0.source), all_read items is are.1)

      by_many : (m : Bool) → many ≡ m → IsAscending (read_keys (values_of items))
      by_many true is = keys_ascend (λ (t : Task). object_key t.source) (front_of errand.from) items ascend (all_read items is are)
      by_many false is = one_key_ascends (λ (t : Task). object_key t.source) (last_name (text_of errand.from)) items ascend (based items is are)

  pub writes_ascend : IsAscending (written_keys (values_of items))
  writes_ascend = by_many many refl
    where
      written_by : (to : Place) (p : List ℕ) (a : Task) → a.dest ≡ place_at to p → (object_key (Some a.dest) ≡ None) ⊎ (object_key (Some a.dest) ≡ Some (front_of to ++ p))
      written_by (place.Object bucket key) p a some = inr (ap (λ (d : Place). object_key (Some d)) some ∙ front_key bucket key p)
      written_by (place.File root) p a some = inl (ap (λ (d : Place). object_key (Some d)) some)

      all_written : (items : List (List ℕ × Task)) → many ≡ true → AllByRecursion (IsItem errand to many) items → AllByRecursion (IsKeyed (λ (t : Task). object_key (Some t.dest)) (front_of to)) items
      all_written [] is are = tt
      all_written (item ∷ items) is are =
          (written_by to item.0 item.1 (subst (λ (m : Bool). item.1.dest ≡ dest_at to m item.0) is are.0.dest), all_written items is are.1)

      by_many : (m : Bool) → many ≡ m → IsAscending (written_keys (values_of items))
      by_many true is = keys_ascend (λ (t : Task). object_key (Some t.dest)) (front_of to) items ascend (all_written items is are)
      by_many false is = one_key_ascends (λ (t : Task). object_key (Some t.dest)) (last_name (text_of errand.from)) items ascend (based items is are)

  -- ---- a plan that is judged

  pub is_fit : (most : ℕ) → size_fault most (values_of items) ≡ None → (IsTrue (is_one_bucket errand.from to) → (key : List ℕ) → ¬ (IsCommon (values_of items) key))
      → length (values_of items) ≤ 1000000 → IsFit most (values_of items)
  is_fit most small none few = record { destinations = destinations; sources = sources; apart = apart none; kinds = kinds; sizes = small; few = few }

  pub is_refused : (most : ℕ) (why : PlanFault) → IsJudged most (is_one_bucket errand.from to) (values_of items) why → IsRefused most (values_of items) why
  is_refused most (fault.TooLarge path size) judged = judged
  is_refused most (fault.Overlap key) judged =
      (judged.0, overlap_of judged.1 key judged.2.0, λ other o. let c = common_where other o in judged.2.1 other c.1)
  is_refused most fault.TooMany judged = (judged.0, (λ key o. let c = common_where key o in judged.1 c.0 key c.1), judged.2)
  is_refused most fault.Memory judged = absurd judged
  is_refused most (fault.NoSource path) judged = absurd judged
  is_refused most (fault.IsFolder path) judged = absurd judged
  is_refused most (fault.NotFolder path) judged = absurd judged

-- ---- the plan of two sides

module _ (errand : Errand) (to : Place) (many : Bool) (source dest : List Entry) (between : TransfersBetween errand.kind errand.from (Some to))
    (ours : AreEntries errand.from many source) (theirs : AreEntries to many dest) (none : many ≡ false → dest ≡ []) where
  ascend : Ascend (items_of errand to between many source dest)
  ascend = items_ascend errand to between many source dest (names_ascend errand.from many source ours) (names_ascend to many dest theirs)

  are : AllByRecursion (IsItem errand to many) (items_of errand to between many source dest)
  are = are_items errand to between many source dest none

  pub planned_reads : IsAscending (read_keys (planned errand to many source dest))
  unfolding planned
  planned_reads = reads_ascend errand to between many (items_of errand to between many source dest) ascend are

  pub planned_writes : IsAscending (written_keys (planned errand to many source dest))
  unfolding planned
  planned_writes = writes_ascend errand to between many (items_of errand to between many source dest) ascend are

  pub planned_fit : (most : ℕ) → size_fault most (planned errand to many source dest) ≡ None
      → (IsTrue (is_one_bucket errand.from to) → (key : List ℕ) → ¬ (IsCommon (planned errand to many source dest) key))
      → length (planned errand to many source dest) ≤ 1000000 → IsFit most (planned errand to many source dest)
  unfolding planned
  planned_fit most small common few = is_fit errand to between many (items_of errand to between many source dest) ascend are most small common few

  pub planned_refused : (most : ℕ) (why : PlanFault) → IsJudged most (is_one_bucket errand.from to) (planned errand to many source dest) why → IsRefused most (planned errand to many source dest) why
  unfolding planned
  planned_refused most why judged = is_refused errand to between many (items_of errand to between many source dest) ascend are most why judged
