-- What the tasks of a plan have: each is made of its relative path, and no two have the same.
use Rattle.std.proofs.Common.{◌≡◌, ◌∙◌, ◌+◌, ◌⊎◌, ℕ, Bool, true, false, not, cond, List, [], ◌∷◌, ◌++◌, Option, Some, None, refl, sym, ap, subst, inl, inr, length, filter, map, codes, nat_eq, arith}
use Rattle.std.specs.Cmp.Lexicographic.{slice_cmp}
use Rattle.std.specs.List.{AllByRecursion, ends_with}
use Rattle.std.specs.Ordering.{nat_cmp}
use Rattle.std.proofs.lemmas.Cmp.{nat_list_cmp_total, tied_itself}
use Rattle.s3_model.specs.ContentTypes.{last_name}
use Rattle.s3_model.specs.declared.places.Entry.{Entry}
use Rattle.s3_model.specs.declared.places.Place.{Place}
use Rattle.s3_model.specs.declared.places.Place.TheVariants as place
use Rattle.s3_model.specs.declared.tasks.Kind.{Kind}
use Rattle.s3_model.specs.declared.tasks.Kind.TheVariants as kind
use Rattle.s3_model.specs.declared.tasks.Task.{Task}
use Rattle.s3_paths.specs.Names.{local_path}
use Rattle.shared_lemmas.proofs.Clashes.{none_is_some, some_is}
use Rattle.merged_names.specs.Merging.{Ascend, merged}
use Rattle.merged_names.proofs.Orders.{behind_prefix as ordered_behind, equal_is}
use Rattle.merged_names.proofs.Merges.{all_merged, merged_ascends}
use Rattle.sync_plan.specs.declared.errand.Errand.{Errand}
use Rattle.sync_plan.specs.Errands.{TransfersBetween, dest_at, is_joined, is_marker, named, names_of, place_at, source_at, text_of}
use Rattle.sync_plan.specs.Fit.{IsOfKind}
use Rattle.sync_plan.specs.Plans.{is_transferred, removal_of, removal_task, transfer_of, transfer_task}

-- ---- places

pub front_of : Place → List ℕ
front_of (place.Object bucket key) = key
front_of (place.File root) = cond (ends_with nat_eq root (codes "/")) root (root ++ codes "/")

pub front_key : (bucket key path : List ℕ) → Some (key ++ path) ≡ Some (front_of (place.Object bucket key) ++ path)
unfolding front_of
front_key bucket key path = refl

pub text_at : (of_place : Place) (path : List ℕ) → text_of (place_at of_place path) ≡ front_of of_place ++ path
unfolding front_of
text_at (place.Object bucket key) path = refl
text_at (place.File root) path =
    elim (ends_with nat_eq root (codes "/")) as (λ (b : Bool). cond b (root ++ path) (root ++ codes "/" ++ path) ≡ cond b root (root ++ codes "/") ++ path) [ true ↦ refl | false ↦ refl ]

same_behind : (front x y : List ℕ) → front ++ x ≡ front ++ y → x ≡ y
same_behind front x y e =
    equal_is x y (sym (ordered_behind front x y) ∙ ap (λ (text : List ℕ). slice_cmp nat_cmp (front ++ x) text) (sym e) ∙ tied_itself nat_list_cmp_total (front ++ x))

pub same_path : (of_place : Place) (x y : List ℕ) → place_at of_place x ≡ place_at of_place y → x ≡ y
same_path of_place x y e = same_behind (front_of of_place) x y (sym (text_at of_place x) ∙ ap text_of e ∙ text_at of_place y)

-- ---- tasks

-- a task that is made of its path
pub record IsItem (errand : Errand) (to : Place) (many : Bool) (item : List ℕ × Task) : Type 0 where
  pub source : (item.1.source ≡ None) ⊎ (item.1.source ≡ Some (source_at errand.from many item.0))
  pub dest : item.1.dest ≡ dest_at to many item.0
  pub of_kind : IsOfKind item.1.kind item.1.source item.1.dest item.1.moves
  pub base : many ≡ false → item.0 ≡ last_name (text_of errand.from)

chosen_is : {X : Type 0} (b : Bool) (x y : X) → cond b (Some x) None ≡ Some y → x ≡ y
chosen_is true x y e = some_is x y e
chosen_is false x y e = absurd (none_is_some y e)

upload_kind : (b c moves : Bool) (p q bucket key other k : List ℕ) → IsOfKind kind.Upload (Some (cond b (place.File p) (place.File q))) (cond c (place.Object bucket key) (place.Object other k)) moves
upload_kind true true moves p q bucket key other k = tt
upload_kind true false moves p q bucket key other k = tt
upload_kind false true moves p q bucket key other k = tt
upload_kind false false moves p q bucket key other k = tt

download_kind : (b c moves : Bool) (p q bucket key other k : List ℕ) → IsOfKind kind.Download (Some (cond b (place.Object bucket key) (place.Object other k))) (cond c (place.File p) (place.File q)) moves
download_kind true true moves p q bucket key other k = tt
download_kind true false moves p q bucket key other k = tt
download_kind false true moves p q bucket key other k = tt
download_kind false false moves p q bucket key other k = tt

copy_kind : (b c moves : Bool) (x1 x2 y1 y2 bucket key other k : List ℕ) → IsOfKind kind.Copy (Some (cond b (place.Object x1 x2) (place.Object y1 y2))) (cond c (place.Object bucket key) (place.Object other k)) moves
copy_kind true true moves x1 x2 y1 y2 bucket key other k = tt
copy_kind true false moves x1 x2 y1 y2 bucket key other k = tt
copy_kind false true moves x1 x2 y1 y2 bucket key other k = tt
copy_kind false false moves x1 x2 y1 y2 bucket key other k = tt

transfer_kind : (of_kind : Kind) (from to : Place) (many moves : Bool) (path : List ℕ) → TransfersBetween of_kind from (Some to) → IsOfKind of_kind (Some (source_at from many path)) (dest_at to many path) moves
transfer_kind kind.Upload (place.File p) (place.Object bucket key) many moves path between = upload_kind many (is_joined (place.Object bucket key) many) moves (local_path p path) p bucket (key ++ path) bucket key
transfer_kind kind.Upload (place.File p) (place.File q) many moves path between = absurd between
transfer_kind kind.Upload (place.Object b k) to many moves path between = absurd between
transfer_kind kind.Download (place.Object b k) (place.File q) many moves path between = download_kind many (is_joined (place.File q) many) moves (local_path q path) q b (k ++ path) b k
transfer_kind kind.Download (place.Object b k) (place.Object bucket key) many moves path between = absurd between
transfer_kind kind.Download (place.File p) to many moves path between = absurd between
transfer_kind kind.Copy (place.Object b k) (place.Object bucket key) many moves path between = copy_kind many (is_joined (place.Object bucket key) many) moves b (k ++ path) b k bucket (key ++ path) bucket key
transfer_kind kind.Copy (place.Object b k) (place.File q) many moves path between = absurd between
transfer_kind kind.Copy (place.File p) to many moves path between = absurd between
transfer_kind kind.RemoveObject from to many moves path between = absurd between
transfer_kind kind.RemoveFile from to many moves path between = absurd between

pub removal_is : (to : Place) (entry : Entry) → IsOfKind (removal_task to entry).kind None to false
removal_is (place.Object bucket key) entry = tt
removal_is (place.File path) entry = tt

module _ (errand : Errand) (to : Place) (between : TransfersBetween errand.kind errand.from (Some to)) where
  transferred : (many : Bool) (name : List ℕ × Entry) (other : Option Entry) (task : Task) → (many ≡ false → name.0 ≡ last_name (text_of errand.from))
      → transfer_of errand to many name other ≡ Some task → IsItem errand to many (name.0, task)
  transferred many name other task is_named e =
      subst (λ (t : Task). IsItem errand to many (name.0, t)) (chosen_is (is_transferred errand to many name other) (transfer_task errand (source_at errand.from many name.0) (dest_at to many name.0) name.1) task e)
      (record { source = inr refl; dest = refl; of_kind = transfer_kind errand.kind errand.from to many errand.moves name.0 between; base = is_named })

  removed_at : (name : List ℕ × Entry) (other : Option Entry) (task : Task) → removal_of errand to name other ≡ Some task → IsItem errand to true (name.0, task)
  removed_at name (Some there) task e = absurd (none_is_some task e)
  removed_at name None task e =
      subst (λ (t : Task). IsItem errand to true (name.0, t)) (chosen_is _ (removal_task (place_at to name.0) name.1) task e)
      (record { source = inl refl; dest = refl; of_kind = removal_is (place_at to name.0) name.1; base = λ single. absurd cc })

  each_transferred : (many : Bool) (entries : List Entry) → AllByRecursion (λ name. (other : Option Entry) (task : Task) → transfer_of errand to many name other ≡ Some task → IsItem errand to many (name.0, task)) (names_of errand.from many entries)
  unfolding names_of
  each_transferred many [] = tt
  each_transferred many (entry ∷ entries) =
      elim (is_marker entry) as (λ (b : Bool). AllByRecursion (λ name. (other : Option Entry) (task : Task) → transfer_of errand to many name other ≡ Some task → IsItem errand to many (name.0, task)) (map (named errand.from many) (cond (not b) (entry ∷ filter (λ e. not (is_marker e)) entries) (filter (λ e. not (is_marker e)) entries)))) [
        | true ↦ each_transferred many entries
        | false ↦ ((λ other task e. transferred many (named errand.from many entry) other task (base_name many entry) e), each_transferred many entries)
      ]
    where
      base_name : (many : Bool) (entry : Entry) → many ≡ false → (named errand.from many entry).0 ≡ last_name (text_of errand.from)
      base_name false entry e = refl
      base_name true entry e = absurd cc

  each_removed : (names : List (List ℕ × Entry)) → AllByRecursion (λ name. (other : Option Entry) (task : Task) → removal_of errand to name other ≡ Some task → IsItem errand to true (name.0, task)) names
  each_removed [] = tt
  each_removed (name ∷ names) = ((λ other task e. removed_at name other task e), each_removed names)

  none_removed : AllByRecursion (λ name. (other : Option Entry) (task : Task) → removal_of errand to name other ≡ Some task → IsItem errand to false (name.0, task)) (names_of to false [])
  unfolding names_of
  none_removed = tt

  abbrev pub items : (many : Bool) (source dest : List Entry) → List (List ℕ × Task)
  items many source dest = merged (transfer_of errand to many) (removal_of errand to) (names_of errand.from many source) (names_of to many dest)

  pub are_items : (many : Bool) (source dest : List Entry) → (many ≡ false → dest ≡ []) → AllByRecursion (IsItem errand to many) (items many source dest)
  are_items true source dest none = all_merged (transfer_of errand to true) (removal_of errand to) (IsItem errand to true) (names_of errand.from true source) (names_of to true dest) (each_transferred true source) (each_removed (names_of to true dest))
  are_items false source dest none =
      subst (λ (d : List Entry). AllByRecursion (IsItem errand to false) (merged (transfer_of errand to false) (removal_of errand to) (names_of errand.from false source) (names_of to false d))) (sym (none refl))
      (all_merged (transfer_of errand to false) (removal_of errand to) (IsItem errand to false) (names_of errand.from false source) (names_of to false []) (each_transferred false source) none_removed)

  pub items_ascend : (many : Bool) (source dest : List Entry) → Ascend (names_of errand.from many source) → Ascend (names_of to many dest) → Ascend (items many source dest)
  items_ascend many source dest ours theirs = merged_ascends (transfer_of errand to many) (removal_of errand to) (λ name other. refl) (length (names_of errand.from many source) + length (names_of to many dest)) (names_of errand.from many source) (names_of to many dest) (omega arith) ours theirs
