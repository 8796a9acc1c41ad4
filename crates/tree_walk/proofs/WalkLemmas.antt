-- A walk folder by folder, and what it has found in the end.
use Rattle.shared_lemmas.proofs.Lists.{no_cons}
use Rattle.shared_lemmas.proofs.Maps.{text_decided}
use Rattle.shared_lemmas.proofs.Members.{Has, contains_of, has, place_within_front}
use Rattle.std.proofs.Common.{◌≡◌, ◌≢◌, ◌∙◌, ◌++◌, ◌<◌, ◌≤◌, ◌+◌, ◌-◌, ◌^◌, ◌⊎◌, ◌↔◌, ℕ, zero, suc, Bool, true, false, List, [], ◌∷◌, Option, Some, None, Result, Ok, Err, Contains, length, map, min, slice_get, if◌then◌else◌, refl, sym, ap, subst, inl, inr, arith}
use Rattle.std.specs.Prelude.{IfErr, IfOk, IfSome, IsSome}
use Rattle.std.specs.FinMap.{empty, get, get-empty, insert, keys}
use Rattle.std.specs.List.{AllByRecursion, sum_by}
use Rattle.std.specs.Option.{option_map, unwrap_or}
use Rattle.std.proofs.lemmas.List.{append_assoc, length-map}
use Rattle.std.proofs.lemmas.List.Sums.{sum_by-cons}
use Rattle.std.specs.Cmp.Lexicographic.{slice_cmp}
use Rattle.std.specs.Ordering.{nat_cmp}
use Rattle.s3_model.specs.Counts.{Rose}
use Rattle.s3_model.specs.Entries.{IsAscending, keys_of}
use Rattle.s3_model.specs.Files.{FileStore, HeldFile, ends_in_slash, folder_path, is_folder, is_listed, tree}
use Rattle.s3_model.specs.Maps.{MapOf}
use Rattle.s3_model.specs.declared.places.Entry.{Entry}
use Rattle.local_files.specs.Names.{AreNames, IsName, IsThere}
use Rattle.s3_outside.specs.Files.{SeenFiles, asked_kind, called, shape_at, shape_of}
use Rattle.s3_outside.specs.FileCalls.{asked_names, fault_in, unnamed_in}
use Rattle.s3_outside.specs.Seen.{IsSeenAfter}
use Rattle.s3_outside.specs.declared.files.FileFault.{FileFault}
use Rattle.s3_outside.specs.declared.files.FileNote.{FileNote}
use Rattle.s3_outside.specs.declared.files.FileNote.TheVariants as note
use Rattle.s3_outside.specs.declared.wire.Failed.{Failed}
use Rattle.s3_outside.specs.declared.files.Shape.{Shape}
use Rattle.s3_outside.specs.declared.files.Shape.TheVariants as shape
use Rattle.tree_walk.specs.Finding.{Grows, IsComplete, IsFew, IsFound, IsOnTheWay, IsPartway, IsSound, IsVisited, Recorded, Visits, entry_in}
use Rattle.tree_walk.specs.Trees.{Describes, IsFolderIn, IsLook, IsOrderly, IsRefused, IsWalked, LooksOnce, OnlyLooks, Stands, bare, child, depth, path_at, place_of}
use Rattle.tree_walk.specs.declared.found.Found.{Found}
use Rattle.tree_walk.specs.declared.found.Look.{Look}
use Rattle.tree_walk.specs.declared.walks.Walked.{Walked}
use Rattle.s3_model.specs.declared.faults.WalkFault.{WalkFault}
use Rattle.s3_model.specs.declared.faults.WalkFault.TheVariants as fault
use Rattle.tree_walk.proofs.FoundLemmas.{at_other, at_same, in_folders, is_some_of, same_folders, same_get, same_some, still_some}
use Rattle.tree_walk.proofs.OrderLemmas.{in_tree, is_key, key_is, keys_ascend, of_tree, same_names, tree_ascends}
use Rattle.tree_walk.proofs.PathLemmas.{child_longer, place_child}

-- ---- the files stay as they are

append_none : (notes : List FileNote) → notes ++ [] ≡ notes
append_none [] = refl
append_none (first ∷ notes) = ap (λ (xs : List FileNote). first ∷ xs) (append_none notes)

all_looks : (a b : List FileNote) → AllByRecursion IsLook a → AllByRecursion IsLook b → AllByRecursion IsLook (a ++ b)
all_looks [] b first second = second
all_looks (told ∷ a) b first second = (first.0, all_looks a b first.1 second)

looks_called : (told : FileNote) → IsLook told → (old : Option SeenFiles) (before after : ℕ) → OnlyLooks old (option_map (called told) old) before after
looks_called told look None before after = tt
looks_called told look (Some seen) before after = (refl, told ∷ [], refl, (look, tt))

looks_gone : (old : Option SeenFiles) (before after : ℕ) → Rose before after → OnlyLooks old None before after
looks_gone None before after rose = tt
looks_gone (Some seen) before after rose = rose

keeps_asked : (told : FileNote) (old new : Option SeenFiles) (before after : ℕ) → IsLook told → IsSeenAfter (called told) old new before after → OnlyLooks old new before after
keeps_asked told old new before after look (inl e) = subst (λ (seen : Option SeenFiles). OnlyLooks old seen before after) (sym e) (looks_called told look old before after)
keeps_asked told old new before after look (inr gone) = subst (λ (seen : Option SeenFiles). OnlyLooks old seen before after) (sym gone.0) (looks_gone old before after gone.1)

pub keeps_kind : (path : List ℕ) (answer : Result Shape Failed) (old new : Option SeenFiles) (before after : ℕ) → IsSeenAfter (asked_kind path answer) old new before after → OnlyLooks old new before after
keeps_kind path answer old new before after seen = keeps_asked (note.Kind path answer) old new before after tt seen

pub keeps_names : {A : Type 0} (folder : List ℕ) (answer : Result A FileFault) (old new : Option SeenFiles) (before after : ℕ) → IsSeenAfter (asked_names folder answer) old new before after → OnlyLooks old new before after
keeps_names folder answer old new before after seen = keeps_asked (note.Names folder (fault_in answer)) old new before after tt seen

rose_first : (x y z : ℕ) → y ≤ z → Rose x y → Rose x z
rose_first x y z later rose = omega arith

rose_second : (x y z : ℕ) → x ≤ y → Rose y z → Rose x z
rose_second x y z later rose = omega arith

pub keeps_then : (a b c : Option SeenFiles) (x y z : ℕ) → x ≤ y → y ≤ z → OnlyLooks a b x y → OnlyLooks b c y z → OnlyLooks a c x z
keeps_then None None None x y z former later first second = tt
keeps_then None None (Some new) x y z former later first second = second
keeps_then None (Some mid) c x y z former later first second = absurd first
keeps_then (Some old) None None x y z former later first second = rose_first x y z later first
keeps_then (Some old) None (Some new) x y z former later first second = absurd second
keeps_then (Some old) (Some mid) None x y z former later first second = rose_second x y z former second
keeps_then (Some old) (Some mid) (Some new) x y z former later (first, front, is, looks) (second, back, goes, others) = (
  second ∙ first,
  front ++ back,
  goes ∙ ap (λ (notes : List FileNote). notes ++ back) is ∙ append_assoc old.calls front back,
  all_looks front back looks others,
)

pub keeps_all : (a : Option SeenFiles) (x : ℕ) → OnlyLooks a a x x
keeps_all None x = tt
keeps_all (Some seen) x = (refl, [], sym (append_none seen.calls), tt)

-- claims that say nothing, under what they suppose
pub unsaid : (If : SeenFiles → Type 0) (seen : Option SeenFiles) → IfSome seen (λ now. If now → Unit {0})
unsaid If None = tt
unsaid If (Some now) = λ held. tt

pub unsaid_of_both : (If And : SeenFiles → Type 0) (seen : Option SeenFiles) → IfSome seen (λ now. If now → And now → Unit {0})
unsaid_of_both If And None = tt
unsaid_of_both If And (Some now) = λ held. λ and. tt

pub says_nothing : (seen : Option SeenFiles) → IfSome seen (λ now. Unit {0})
says_nothing None = tt
says_nothing (Some now) = tt

-- what is said in any case is said in one
pub anyway : (If Then : SeenFiles → Type 0) (seen : Option SeenFiles) → IfSome seen (λ now. Then now) → IfSome seen (λ now. If now → Then now)
anyway If Then None said = tt
anyway If Then (Some now) said = λ held. said

-- what is supposed is said
pub still_so : (If : SeenFiles → Type 0) (seen : Option SeenFiles) → IfSome seen (λ now. If now → If now)
still_so If None = tt
still_so If (Some now) = λ held. held

none_some : (V : Type 0) → IsSome {T = V} None → ⊥
none_some V h = cc

calls_in : Option SeenFiles → List FileNote
calls_in None = []
calls_in (Some seen) = seen.calls

-- one call looked at the path
pub one_look : (path place : List ℕ) → place ≡ path → (old new : Option SeenFiles) (before after : ℕ) → (answer : Result Shape Failed) × IsSeenAfter (asked_kind place answer) old new before after → LooksOnce path old new
unfolding calls_in
one_look path place same None new before after asked = tt
one_look path place same (Some old) None before after asked = tt
one_look path place same (Some old) (Some new) before after (answer, inl e) =
    λ never. (answer, ap calls_in e ∙ ap (λ (p : List ℕ). old.calls ++ note.Kind p answer ∷ []) same)
one_look path place same (Some old) (Some new) before after (answer, inr gone) = absurd (none_some SeenFiles (subst (λ (o : Option SeenFiles). IsSome o) gone.0 refl))

-- where a folder was found there, nothing is said of its calls
pub no_look : (path place : List ℕ) (what : Shape) → place ≡ path → what ≡ shape.Folder → (old mid new : Option SeenFiles) (x y z : ℕ) → OnlyLooks old mid x y → OnlyLooks mid new y z
    → IfSome mid (λ now. what ≡ shape_at now.store place) → LooksOnce path old new
no_look path place what same is None mid new x y z first second at = tt
no_look path place what same is (Some old) mid None x y z first second at = tt
no_look path place what same is (Some old) None (Some new) x y z first second at = absurd second
no_look path place what same is (Some old) (Some mid) (Some new) x y z first second at =
    λ never. absurd (never (ap (λ (p : List ℕ). shape_at old.store p) (sym same) ∙ ap (λ (s : FileStore). shape_at s place) (sym first.0) ∙ sym at ∙ is))

-- what holds of the files before holds after
pub in_the_end : (Holds : FileStore → Type 0) (old new : Option SeenFiles) (before after : ℕ) → OnlyLooks old new before after → IfSome old (λ seen. Holds seen.store) → IfSome new (λ seen. Holds seen.store)
in_the_end Holds old None before after looks h = tt
in_the_end Holds None (Some new) before after looks h = absurd looks
in_the_end Holds (Some old) (Some new) before after looks h = subst Holds (sym looks.0) h

-- ---- a folder

all_named : (names : List (List ℕ)) → ((name : List ℕ) → Has names name → IsName name) → AllByRecursion IsName names
all_named [] all = tt
all_named (name ∷ names) all = (all name (inl refl), all_named names (λ q h. all q (inr h)))

pub are_named : (store : FileStore) (place : List ℕ) (names : List (List ℕ)) → AreNames store place names → AllByRecursion IsName names
are_named store place names are = all_named names (λ q h. ((are.there q).0 (contains_of names q h)).0)

module _ (store : FileStore) (root folder place : List ℕ) (names : List (List ℕ)) (unnamed : ℕ) (old mid new : Found)
    (at : place ≡ place_of root folder) (is : shape_at store place ≡ shape.Folder) (are : AreNames store place names) (count : unnamed ≡ unnamed_in store place)
    (part : IsPartway store root folder names old mid) (files : new.files ≡ mid.files) (others : new.others ≡ mid.others) (folders : new.folders.items ≡ mid.folders.items)
    (counted : new.unnamed ≡ insert mid.unnamed folder unnamed) (sound : IsSound store root old) (listed : Contains old.folders.items folder) where
  same_found : (q : List ℕ) (there : Shape) → IsFound mid q there → IsFound new q there
  same_found q (shape.File size micros) h = same_get mid.files new.files q _ files h
  same_found q shape.Folder h = same_folders mid.folders.items new.folders.items q folders h
  same_found q shape.Other h = same_some mid.others new.others q others h
  same_found q shape.Absent h = tt

  here : get new.unnamed folder ≡ Some (unnamed_in store (place_of root folder))
  here = at_same mid.unnamed new.unnamed folder unnamed counted ∙ ap Some (count ∙ ap (unnamed_in store) at)

  still_listed : (q : List ℕ) → Contains old.folders.items q → Contains new.folders.items q
  still_listed q h = same_folders mid.folders.items new.folders.items q folders (in_folders old.folders.items mid.folders.items part.grows.folders.0 q part.grows.folders.1 h)

  new_sound : IsSound store root new
  new_sound = record {
    files = λ q h. let was = part.sound.files q (same_some new.files mid.files q (sym files) h) in (was.0, was.1, was.2, same_get mid.files new.files q _ files was.3);
    others = λ q h. part.sound.others q (same_some new.others mid.others q (sym others) h);
    folders = λ q h. part.sound.folders q (same_folders new.folders.items mid.folders.items q (sym folders) h);
    counts = λ q h. elim (text_decided q folder) [
      | inl same ↦ subst (λ (p : List ℕ). Contains new.folders.items p × (get new.unnamed p ≡ Some (unnamed_in store (place_of root p)))) (sym same) (still_listed folder listed, here)
      | inr other ↦
          let kept = at_other mid.unnamed new.unnamed folder unnamed q counted other in
          let was = part.sound.counts q (still_some _ _ (sym kept) h) in
          (same_folders mid.folders.items new.folders.items q folders was.0, kept ∙ was.1)
    ];
  }

  new_grows : Grows store root old new
  new_grows = record {
    kept = λ q h. same_found q (shape_at store (path_at root q)) (part.grows.kept q h);
    folders = (part.grows.folders.0, folders ∙ part.grows.folders.1);
    counts = λ q h. elim (text_decided q folder) [
      | inl same ↦ ap (get new.unnamed) same ∙ here ∙ ap (λ (p : List ℕ). Some (unnamed_in store (place_of root p))) (sym same) ∙ sym (sound.counts q h).1
      | inr other ↦ at_other mid.unnamed new.unnamed folder unnamed q counted other ∙ part.grows.counts q h
    ];
  }

  pub visited : Visits store root folder old new
  visited = record {
    sound = new_sound;
    grows = new_grows;
    visited = record {
      is = ap (shape_at store) (sym at) ∙ is;
      through = λ name named there.
          let path : folder_path place ++ name ≡ path_at root (child folder name) =
          ap (λ (p : List ℕ). folder_path p ++ name) at ∙ place_child root folder name (sound.folders folder listed).1 in
          same_found (child folder name) (shape_at store (path_at root (child folder name)))
          (part.found name ((are.there name).1 (named, subst (IsThere store) (sym path) there)));
      counted = here;
    };
  }

-- ---- folder after folder

visited_later : (store : FileStore) (root : List ℕ) (old new : Found) (folder : List ℕ) → Grows store root old new → IsVisited store root old folder → IsVisited store root new folder
visited_later store root old new folder grows was = record {
  is = was.is;
  through = λ name named there. grows.kept (child folder name) (was.through name named there);
  counted = grows.counts folder (is_some_of _ _ was.counted) ∙ was.counted;
}

inside_of : (xs : List (List ℕ)) (k : ℕ) (x : List ℕ) → slice_get xs k ≡ Some x → k < length xs
inside_of [] k x e = absurd (cc)
inside_of (y ∷ ys) zero x e = omega arith
inside_of (y ∷ ys) (suc k) x e = let rest = inside_of ys k x e in omega arith

some_same : (x y : List ℕ) (found : Option (List ℕ)) → found ≡ Some x → found ≡ Some y → x ≡ y
some_same x y found e f = cc

listed_at : (xs : List (List ℕ)) (k : ℕ) (x : List ℕ) → slice_get xs k ≡ Some x → Has xs x
listed_at [] k x e = absurd (cc)
listed_at (y ∷ ys) zero x e = inl (some_same y x (Some y) refl e)
listed_at (y ∷ ys) (suc k) x e = inr (listed_at ys k x e)

before_or_at : (j k : ℕ) → j < k + 1 → (j < k) ⊎ (j ≡ k)
before_or_at zero zero below = inr refl
before_or_at zero (suc k) below = inl (omega arith)
before_or_at (suc j) zero below = absurd (omega arith)
before_or_at (suc j) (suc k) below = elim (before_or_at j k (omega arith)) [ inl less ↦ inl (omega arith) | inr same ↦ inr (ap suc same) ]

pub on_the_way : (store : FileStore) (root folder : List ℕ) (k : ℕ) (old new : Found) → slice_get old.folders.items k ≡ Some folder
    → (IsSound store root old → Contains old.folders.items folder → Visits store root folder old new) → IsOnTheWay store root k old → IsOnTheWay store root (k + 1) new
on_the_way store root folder k old new got step way = record {
  sound = visits.sound;
  begun = in_folders old.folders.items new.folders.items more.0 [] more.1 way.begun;
  visited = λ j f below found. elim (before_or_at j k below) [
    | inl earlier ↦
        let was = place_within_front old.folders.items more.0 j f (inside j below) (subst (λ (xs : List (List ℕ)). slice_get xs j ≡ Some f) more.1 found) in
        visited_later store root old new f visits.grows (way.visited j f earlier was)
    | inr same ↦
        let was = place_within_front old.folders.items more.0 j f (inside j below) (subst (λ (xs : List (List ℕ)). slice_get xs j ≡ Some f) more.1 found) in
        subst (IsVisited store root new) (some_same folder f (slice_get old.folders.items k) got (subst (λ (i : ℕ). slice_get old.folders.items i ≡ Some f) same was)) visits.visited
  ];
}
  where
    visits : Visits store root folder old new
    visits = step way.sound (contains_of old.folders.items folder (listed_at old.folders.items k folder got))

    more : (more : List (List ℕ)) × (new.folders.items ≡ old.folders.items ++ more)
    more = visits.grows.folders

    inside : (j : ℕ) → j < k + 1 → j < length old.folders.items
    inside j below = let last = inside_of old.folders.items k folder got in omega arith

-- ---- what stands in the tree was found

place_in : (xs : List (List ℕ)) (x : List ℕ) → Has xs x → (k : ℕ) × (k < length xs) × (slice_get xs k ≡ Some x)
place_in [] x h = absurd h
place_in (y ∷ ys) x (inl e) = (0, omega arith, ap Some e)
place_in (y ∷ ys) x (inr h) = let rest = place_in ys x h in (suc rest.0, (let below = rest.1 in omega arith), rest.2)

there_of : (store : FileStore) (root path : List ℕ) → Stands store root path → IsThere store (path_at root path)
there_of store root path (inl held) = inl held
there_of store root path (inr (inl other)) = inr (inr other)
there_of store root path (inr (inr folder)) = inr (inl folder.0)

folder_rest : (folder other : Bool) → (if folder then shape.Folder else if other then shape.Other else shape.Absent) ≡ shape.Folder → folder ≡ true
folder_rest true other e = refl
folder_rest false true e = absurd (cc)
folder_rest false false e = absurd (cc)

other_rest : (folder other : Bool) → (if folder then shape.Folder else if other then shape.Other else shape.Absent) ≡ shape.Other → other ≡ true
other_rest true other e = absurd (cc)
other_rest false true e = refl
other_rest false false e = absurd (cc)

file_folder : (a b : ℕ) → shape.File a b ≡ shape.Folder → ⊥
file_folder a b e = cc

file_other : (a b : ℕ) → shape.File a b ≡ shape.Other → ⊥
file_other a b e = cc

folder_by : (store : FileStore) (path : List ℕ) (found : Option HeldFile) → shape_of store path found ≡ shape.Folder → is_folder store path ≡ true
folder_by store path (Some file) e = absurd (file_folder _ _ e)
folder_by store path None e = folder_rest (is_folder store path) (is_listed store.others path) e

other_by : (store : FileStore) (path : List ℕ) (found : Option HeldFile) → shape_of store path found ≡ shape.Other → is_listed store.others path ≡ true
other_by store path (Some file) e = absurd (file_other _ _ e)
other_by store path None e = other_rest (is_folder store path) (is_listed store.others path) e

held_by : (store : FileStore) (path : List ℕ) (found : Option HeldFile) → IsSome found → (size : ℕ) × (micros : ℕ) × (shape_of store path found ≡ shape.File size micros)
held_by store path (Some file) h = (length file.bytes, file.micros, refl)
held_by store path None h = absurd (cc)

not_some : {V : Type 0} (o : Option V) → o ≡ None → IsSome o → ⊥
not_some {V} o e h = none_some V (subst IsSome e h)

no_length : (path : List ℕ) → length path ≤ 0 → path ≡ []
no_length [] short = refl
no_length (byte ∷ path) short = absurd (omega arith)

-- ---- the entries of the files that were found

keys_of_entries : (files : MapOf Look) (ks : List (List ℕ)) → keys_of (map (entry_in files) ks) ≡ ks
keys_of_entries files [] = refl
keys_of_entries files (k ∷ ks) = ap (λ (xs : List (List ℕ)). k ∷ xs) (keys_of_entries files ks)

module _ (store : FileStore) (root : List ℕ) (found : Found) (sound : IsSound store root found) where
  look_of : (path : List ℕ) (look : Look) → get found.files path ≡ Some look → unwrap_or (get found.files path) (record { size = 0; micros = 0 }) ≡ look
  look_of path look e = ap (λ (o : Option Look). unwrap_or o (record { size = 0; micros = 0 })) e

  described : (path : List ℕ) → IsSome (get found.files path) → Describes store root (entry_in found.files path)
  described path some =
      let good = sound.files path some in
      let look = look_of path (record { size = length good.1.bytes; micros = good.1.micros }) good.3 in
      record { file = good.1; held = good.2; size = ap (λ (l : Look). l.size) look; micros = ap (λ (l : Look). l.micros) look; etag = refl }

  all_described : (ks : List (List ℕ)) → ((q : List ℕ) → Has ks q → IsSome (get found.files q)) → AllByRecursion (Describes store root) (map (entry_in found.files) ks)
  all_described [] all = tt
  all_described (k ∷ ks) all = (described k (all k (inl refl)), all_described ks (λ q h. all q (inr h)))

module _ (found : Found) (entries : List Entry) (is : entries ≡ map (entry_in found.files) (keys found.files)) where
  keys_are : keys_of entries ≡ keys found.files
  keys_are = ap keys_of is ∙ keys_of_entries found.files (keys found.files)

  entries_ascend : IsAscending (keys_of entries)
  entries_ascend = subst IsAscending (sym keys_are) (keys_ascend found.files)

  few_entries : IsFew found → length entries ≤ 1000000
  few_entries few = subst (λ (n : ℕ). n ≤ 1000000) (sym (ap (λ (xs : List Entry). length xs) is ∙ length-map (keys found.files) (entry_in found.files))) few

  entries_are_there : (store : FileStore) (root : List ℕ) → IsSound store root found → AllByRecursion (Describes store root) entries
  entries_are_there store root sound = subst (AllByRecursion (Describes store root)) (sym is) (all_described store root found sound (keys found.files) (is_key found.files))

module _ (store : FileStore) (root : List ℕ) (orderly : IsOrderly store root) (found : Found) (start : shape_at store (bare root) ≡ shape.Folder → Contains found.folders.items [])
    (visited : (folder : List ℕ) → Contains found.folders.items folder → IsVisited store root found folder) (sound : IsSound store root found) where
  abbrev Reached : ℕ → Type 0
  Reached n = (path : List ℕ) → length path ≤ n → path ≢ [] → Stands store root path → Recorded store root found path

  listed_within : (n : ℕ) → Reached n → (folder : List ℕ) → length folder ≤ n → IsFolderIn store root folder → Contains found.folders.items folder
  listed_within n reached [] less is = start is.0
  listed_within n reached (byte ∷ folder) less is =
      subst (IsFound found (byte ∷ folder)) is.0
      (reached (byte ∷ folder) less (no_cons byte folder) (inr (inr (folder_by store (path_at root (byte ∷ folder)) _ is.0, is.1))))

  one_further : (n : ℕ) → Reached n → Reached (suc n)
  one_further n reached path short some stands =
      let from = orderly.named path some stands in
      let longer = child_longer from.0 from.1 from.3 in
      let same = ap (λ (p : List ℕ). length p) from.2 in
      subst (Recorded store root found) (sym from.2)
      ((visited from.0 (listed_within n reached from.0 (omega arith) from.4)).through from.1 from.3 (subst (λ (p : List ℕ). IsThere store (path_at root p)) from.2 (there_of store root path stands)))

  covered : (n : ℕ) → Reached n
  covered zero path short some stands = absurd (some (no_length path short))
  covered (suc n) path short some stands = one_further n (λ p. covered n p) path short some stands

  was_found : (path : List ℕ) → path ≢ [] → Stands store root path → Recorded store root found path
  was_found path = covered (length path) path (omega arith)

  listed : (folder : List ℕ) → IsFolderIn store root folder → Contains found.folders.items folder
  listed [] is = start is.0
  listed (byte ∷ folder) is =
      subst (IsFound found (byte ∷ folder)) is.0
      (was_found (byte ∷ folder) (no_cons byte folder) (inr (inr (folder_by store (path_at root (byte ∷ folder)) _ is.0, is.1))))

  found_file : (path : List ℕ) → IsSome (get store.held (path_at root path)) → IsSome (get found.files path)
  found_file path held =
      let file = held_by store (path_at root path) _ held in
      is_some_of _ _ (subst (IsFound found path) file.2 (was_found path (λ none. not_some _ orderly.bare (subst (λ (q : List ℕ). IsSome (get store.held (path_at root q))) none held)) (inl held)))

  files_are : keys found.files ≡ tree store root
  files_are =
      same_names (keys found.files) (tree store root) (keys_ascend found.files) (tree_ascends store root)
      (λ q h. let good = sound.files q (is_key found.files q h) in in_tree store root q (is_some_of _ good.1 good.2))
      (λ q h. key_is found.files q (found_file q (of_tree store root q h)))

  same_sum : (a b : List ℕ → ℕ) (ks : List (List ℕ)) → ((q : List ℕ) → Has ks q → a q ≡ b q) → sum_by a ks ≡ sum_by b ks
  same_sum a b [] alike = refl
  same_sum a b (k ∷ ks) alike =
      let first = alike k (inl refl) in
      let rest = same_sum a b ks (λ q h. alike q (inr h)) in
      let left = sum_by-cons a k ks in
      let right = sum_by-cons b k ks in
      omega arith

  others_are : (path : List ℕ) → Contains (keys found.others) path ↔ ((path ≢ []) × (shape_at store (path_at root path) ≡ shape.Other))
  others_are path = (
    λ h. sound.others path (is_key found.others path (has _ path h)),
    λ is. contains_of _ path (key_is found.others path (subst (IsFound found path) is.1 (was_found path is.0 (inr (inl (other_by store (path_at root path) _ is.1)))))),
  )

  folders_are : (folder : List ℕ) → Contains (keys found.unnamed) folder ↔ IsFolderIn store root folder
  folders_are folder = (
    λ h.
        let count = sound.counts folder (is_key found.unnamed folder (has _ folder h)) in
        ((visited folder count.0).is, (sound.folders folder count.0).1),
    λ is. contains_of _ folder (key_is found.unnamed folder (is_some_of _ _ (visited folder (listed folder is)).counted)),
  )

  pub finished : (entries : List Entry) (others : List (List ℕ)) (unnamed : ℕ) → IsFew found → entries ≡ map (entry_in found.files) (keys found.files) → others ≡ keys found.others
      → unnamed ≡ min (sum_by (λ folder. unwrap_or (get found.unnamed folder) 0) (keys found.unnamed)) (2 ^ 64 - 1) → IsWalked store root entries others unnamed
  finished entries others unnamed few entries_is others_is unnamed_is = record {
    keys = keys_are found entries entries_is ∙ files_are;
    files = entries_are_there found entries entries_is store root sound;
    few = few_entries found entries entries_is few;
    others_once = subst IsAscending (sym others_is) (keys_ascend found.others);
    others_all = λ path. subst (λ (xs : List (List ℕ)). Contains xs path ↔ ((path ≢ []) × (shape_at store (path_at root path) ≡ shape.Other))) (sym others_is) (others_are path);
    counted = record {
      folders = keys found.unnamed;
      once = keys_ascend found.unnamed;
      all = folders_are;
      sum = unnamed_is
          ∙ ap (λ (n : ℕ). min n (2 ^ 64 - 1)) (same_sum _ _ (keys found.unnamed) (λ q h. ap (λ (o : Option ℕ). unwrap_or o 0) (sound.counts q (is_key found.unnamed q h)).1));
    };
    shallow = λ path is. (sound.folders path (listed path is)).2;
  }

-- ---- the beginning and the end of a walk

no_keys : {V : Type 0} (m : MapOf V) (q : List ℕ) → m ≡ empty → IsSome (get m q) → ⊥
no_keys {V} m q e h = not_some _ (ap (λ (x : MapOf V). get x q) e ∙ get-empty (slice_cmp nat_cmp) q) h

module _ (store : FileStore) (root : List ℕ) (found : Found) (files : found.files ≡ empty) (others : found.others ≡ empty) (unnamed : found.unnamed ≡ empty) where
  sound_first : ((q : List ℕ) → Contains found.folders.items q → q ≡ []) → IsSound store root found
  sound_first only = record {
    files = λ q h. absurd (no_keys found.files q files h);
    others = λ q h. absurd (no_keys found.others q others h);
    folders = λ q h. (inl (only q h), ap ends_in_slash (only q h), subst (λ (p : List ℕ). depth p ≤ 128) (sym (only q h)) (omega arith));
    counts = λ q h. absurd (no_keys found.unnamed q unnamed h);
  }

  pub begun : found.folders.items ≡ [] ∷ [] → IsOnTheWay store root 0 found
  begun folders = record {
    sound = sound_first (λ q h. sym (only q (has ([] ∷ []) q (subst (λ (xs : List (List ℕ)). Contains xs q) folders h))));
    begun = subst (λ (xs : List (List ℕ)). Contains xs []) (sym folders) (contains_of ([] ∷ []) [] (inl refl));
    visited = λ k folder below got. absurd (omega arith);
  }
    where
      only : (q : List ℕ) → Has ([] ∷ []) q → [] ≡ q
      only q h = elim h [ inl same ↦ same | inr none ↦ absurd none ]

  -- nothing was found in what is no folder
  pub no_folder : shape_at store (bare root) ≢ shape.Folder → found.folders.items ≡ [] → IsComplete store root found
  no_folder never folders = record {
    sound = sound_first (λ q h. absurd (none q h));
    begun = λ is. absurd (never is);
    visited = λ folder h. absurd (none folder h);
  }
    where
      none : (q : List ℕ) → Contains found.folders.items q → ⊥
      none q h = has [] q (subst (λ (xs : List (List ℕ)). Contains xs q) folders h)

-- what follows from a walk that has begun
pub from_begun : (Holds : FileStore → Type 0) (seen : Option SeenFiles) (root : List ℕ) (found : Found) → found.files ≡ empty → found.others ≡ empty → found.unnamed ≡ empty → found.folders.items ≡ [] ∷ []
    → IfSome seen (λ now. IsOnTheWay now.store root 0 found → Holds now.store) → IfSome seen (λ now. Holds now.store)
from_begun Holds None root found files others unnamed folders h = tt
from_begun Holds (Some now) root found files others unnamed folders h = h (begun now.store root found files others unnamed folders)

pub arrived : (store : FileStore) (root : List ℕ) (k : ℕ) (found : Found) → length found.folders.items ≤ k → IsOnTheWay store root k found → IsComplete store root found
arrived store root k found end way = record {
  sound = way.sound;
  begun = λ is. way.begun;
  visited = λ folder h. let place = place_in found.folders.items folder (has found.folders.items folder h) in way.visited place.0 folder (let below = place.1 in omega arith) place.2;
}

-- ---- what a walk answers

-- no file is few
pub few_first : (found : Found) → found.files ≡ empty → IsFew found
few_first found none = none_few (keys found.files) (λ q h. no_keys found.files q none (is_key found.files q h))
  where
    none_few : (ks : List (List ℕ)) → ((q : List ℕ) → Has ks q → ⊥) → length ks ≤ 1000000
    none_few [] none = omega arith
    none_few (k ∷ ks) none = absurd (none k (inl refl))

module _ (found : Found) where
  abbrev HasEntries : Result Walked WalkFault → Type 0
  HasEntries r = IfOk r (λ w. w.entries.items ≡ map (entry_in found.files) (keys found.files))

  pub walked_ascends : (r : Result Walked WalkFault) → HasEntries r → IfOk r (λ w. IsAscending (keys_of w.entries.items))
  walked_ascends (Ok w) entries = entries_ascend found w.entries.items entries
  walked_ascends (Err why) entries = tt

  pub walked_few : (r : Result Walked WalkFault) → IsFew found → HasEntries r → IfOk r (λ w. length w.entries.items ≤ 1000000)
  walked_few (Ok w) few entries = few_entries found w.entries.items entries few
  walked_few (Err why) few entries = tt

  pub walked_found : (seen : Option SeenFiles) (root : List ℕ) (r : Result Walked WalkFault) → IfSome seen (λ now. IsComplete now.store root found) → HasEntries r
      → IfSome seen (λ now. IfOk r (λ w. AllByRecursion (Describes now.store root) w.entries.items))
  walked_found None root r all entries = tt
  walked_found (Some now) root (Ok w) all entries = entries_are_there found w.entries.items entries now.store root all.sound
  walked_found (Some now) root (Err why) all entries = tt

  pub walked : (seen : Option SeenFiles) (root : List ℕ) (r : Result Walked WalkFault) → IfSome seen (λ now. IsComplete now.store root found) → IsFew found
      → HasEntries r → IfOk r (λ w. w.others.items ≡ keys found.others)
      → IfOk r (λ w. w.unnamed ≡ min (sum_by (λ folder. unwrap_or (get found.unnamed folder) 0) (keys found.unnamed)) (2 ^ 64 - 1))
      → IfSome seen (λ now. IsOrderly now.store root → IfOk r (λ w. IsWalked now.store root w.entries.items w.others.items w.unnamed))
  walked None root r all few entries others unnamed = tt
  walked (Some now) root (Err why) all few entries others unnamed = λ orderly. tt
  walked (Some now) root (Ok w) all few entries others unnamed =
      λ orderly. finished now.store root orderly found all.begun all.visited all.sound w.entries.items w.others.items w.unnamed few entries others unnamed

-- ---- faults that tell nothing of the tree

pub untold : (store : FileStore) (root : List ℕ) (why : WalkFault) → (why ≡ fault.Files) ⊎ (why ≡ fault.Memory) → IsRefused store root why
untold store root why (inl e) = subst (IsRefused store root) (sym e) tt
untold store root why (inr e) = subst (IsRefused store root) (sym e) tt

pub untold_seen : {A : Type 0} (seen : Option SeenFiles) (root : List ℕ) (r : Result A WalkFault) → IfErr r (λ why. (why ≡ fault.Files) ⊎ (why ≡ fault.Memory)) → IfSome seen (λ now. IfErr r (IsRefused now.store root))
untold_seen None root r h = tt
untold_seen (Some now) root (Ok a) h = tt
untold_seen (Some now) root (Err why) h = untold now.store root why h
