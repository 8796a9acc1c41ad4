-- What a walk has found, when a path is added.
use Rattle.shared_lemmas.proofs.Maps.{get-insert_same, get-insert_other, text_decided, text_exact}
use Rattle.shared_lemmas.proofs.Members.{Has, has}
use Rattle.std.proofs.Common.{if◌then◌else◌, ◌≡◌, ◌≢◌, ◌∙◌, ◌++◌, ◌<◌, ◌≤◌, ◌⊎◌, ℕ, Bool, true, false, List, [], ◌∷◌, Option, Some, None, Contains, length, refl, sym, ap, subst, inl, inr, arith}
use Rattle.std.specs.Prelude.{IfErr, IsSome, Result, Ok, Err}
use Rattle.std.specs.Cmp.Lexicographic.{nat_list_cmp_total}
use Rattle.std.specs.FinMap.{get, insert, keys}
use Rattle.std.proofs.lemmas.List.{append_assoc}
use Rattle.std.proofs.lemmas.List.Elements.{Contains-append_cases, Contains-append_left, Contains-append_right}
use Rattle.s3_model.specs.Files.{FileStore, HeldFile, ends_in_slash, is_folder, is_listed, tree}
use Rattle.s3_model.specs.Maps.{MapOf}
use Rattle.local_files.specs.Names.{IsName}
use Rattle.s3_outside.specs.Files.{shape_at, shape_of}
use Rattle.s3_outside.specs.declared.files.Shape.{Shape}
use Rattle.s3_outside.specs.declared.files.Shape.TheVariants as shape
use Rattle.tree_walk.specs.Finding.{Adds, Grows, IsFound, IsOver, IsPartway, IsSound, Recorded}
use Rattle.tree_walk.specs.Trees.{IsRefused, child, depth, path_at}
use Rattle.tree_walk.specs.declared.found.Found.{Found}
use Rattle.s3_model.specs.declared.faults.WalkFault.{WalkFault}
use Rattle.s3_model.specs.declared.faults.WalkFault.TheVariants as fault
use Rattle.tree_walk.proofs.OrderLemmas.{in_tree, is_key, keys_ascend, no_more, tree_ascends}
use Rattle.tree_walk.proofs.PathLemmas.{child_ends, child_some, place_below}

-- ---- maps

pub at_same : {V : Type 0} (m n : MapOf V) (k : List ℕ) (v : V) → n ≡ insert m k v → get n k ≡ Some v
at_same {V} m n k v e = ap (λ (x : MapOf V). get x k) e ∙ get-insert_same nat_list_cmp_total text_exact m k v

pub at_other : {V : Type 0} (m n : MapOf V) (k : List ℕ) (v : V) (q : List ℕ) → n ≡ insert m k v → (q ≡ k → ⊥) → get n q ≡ get m q
at_other {V} m n k v q e other = ap (λ (x : MapOf V). get x q) e ∙ get-insert_other nat_list_cmp_total text_exact m k v q other

pub is_some_of : {V : Type 0} (found : Option V) (v : V) → found ≡ Some v → IsSome found
is_some_of found v e = subst IsSome (sym e) refl

pub still_some : {V : Type 0} (a b : Option V) → a ≡ b → IsSome b → IsSome a
still_some a b e h = subst IsSome (sym e) h

-- ---- what stands at a path

-- a file of that size and time is held there
pub record IsFileAt (store : FileStore) (path : List ℕ) (size micros : ℕ) : Type 0 where
  pub file : HeldFile
  pub held : get store.held path ≡ Some file
  pub size_is : size ≡ length file.bytes
  pub micros_is : micros ≡ file.micros

file_is : (a b c d : ℕ) → shape.File a b ≡ shape.File c d → (c ≡ a) × (d ≡ b)
file_is a b c d e = (cc, cc)

rest_no_file : (folder other : Bool) (size micros : ℕ) → (if folder then shape.Folder else if other then shape.Other else shape.Absent) ≡ shape.File size micros → ⊥
rest_no_file true other size micros e = cc
rest_no_file false true size micros e = cc
rest_no_file false false size micros e = cc

pub file_at : (store : FileStore) (path : List ℕ) (size micros : ℕ) → shape.File size micros ≡ shape_at store path → IsFileAt store path size micros
file_at store path size micros e = from (get store.held path) refl e
  where
    from : (found : Option HeldFile) → get store.held path ≡ found → shape.File size micros ≡ shape_of store path found → IsFileAt store path size micros
    from (Some file) held is = let both = file_is _ _ _ _ (sym is) in record { file = file; held = held; size_is = both.0; micros_is = both.1 }
    from None held is = absurd (rest_no_file (is_folder store path) (is_listed store.others path) size micros (sym is))

-- ---- what was found stays found

adds_found : (path : List ℕ) (what : Shape) (old new : Found) → Adds path what old new → IsFound new path what
adds_found path (shape.File size micros) old new a = at_same old.files new.files path _ a.0
adds_found path shape.Folder old new a =
    subst (λ (folders : List (List ℕ)). Contains folders path) (sym a.3) (Contains-append_right old.folders.items (path ∷ []) path (0, omega arith, refl))
adds_found path shape.Other old new a = is_some_of _ tt (at_same old.others new.others path tt a.1)
adds_found path shape.Absent old new a = tt

pub in_folders : (old new more : List (List ℕ)) (q : List ℕ) → new ≡ old ++ more → Contains old q → Contains new q
in_folders old new more q e h = subst (λ (folders : List (List ℕ)). Contains folders q) (sym e) (Contains-append_left old more q h)

pub same_folders : (old new : List (List ℕ)) (q : List ℕ) → new ≡ old → Contains old q → Contains new q
same_folders old new q e h = subst (λ (folders : List (List ℕ)). Contains folders q) (sym e) h

pub same_some : {V : Type 0} (m n : MapOf V) (q : List ℕ) → n ≡ m → IsSome (get m q) → IsSome (get n q)
same_some {V} m n q e h = subst (λ (x : MapOf V). IsSome (get x q)) (sym e) h

pub same_get : {V : Type 0} (m n : MapOf V) (q : List ℕ) (v : V) → n ≡ m → get m q ≡ Some v → get n q ≡ Some v
same_get {V} m n q v e h = ap (λ (x : MapOf V). get x q) e ∙ h

adds_keeps : (path : List ℕ) (what : Shape) (old new : Found) → Adds path what old new → (q : List ℕ) (there : Shape) → (q ≡ path → there ≡ what) → IsFound old q there → IsFound new q there
adds_keeps path (shape.File size micros) old new a q (shape.File s m) at h =
    elim (text_decided q path) [
      | inl same ↦
          let both = file_is _ _ _ _ (at same) in
          ap (get new.files) same ∙ at_same old.files new.files path _ a.0 ∙ ap (λ (x : ℕ). Some (record { size = x; micros = micros })) both.0 ∙ ap (λ (x : ℕ). Some (record { size = s; micros = x })) both.1
      | inr other ↦ at_other old.files new.files path _ q a.0 other ∙ h
    ]
adds_keeps path (shape.File size micros) old new a q shape.Folder at h = same_folders _ _ q a.3 h
adds_keeps path (shape.File size micros) old new a q shape.Other at h = same_some _ _ q a.1 h
adds_keeps path (shape.File size micros) old new a q shape.Absent at h = tt
adds_keeps path shape.Folder old new a q (shape.File s m) at h = same_get _ _ q _ a.0 h
adds_keeps path shape.Folder old new a q shape.Folder at h = in_folders _ _ (path ∷ []) q a.3 h
adds_keeps path shape.Folder old new a q shape.Other at h = same_some _ _ q a.1 h
adds_keeps path shape.Folder old new a q shape.Absent at h = tt
adds_keeps path shape.Other old new a q (shape.File s m) at h = same_get _ _ q _ a.0 h
adds_keeps path shape.Other old new a q shape.Folder at h = same_folders _ _ q a.3 h
adds_keeps path shape.Other old new a q shape.Other at h =
    elim (text_decided q path) [
      | inl same ↦ subst (λ (x : List ℕ). IsSome (get new.others x)) (sym same) (is_some_of _ tt (at_same old.others new.others path tt a.1))
      | inr other ↦ still_some _ _ (at_other old.others new.others path tt q a.1 other) h
    ]
adds_keeps path shape.Other old new a q shape.Absent at h = tt
adds_keeps path shape.Absent old new a q there at h = subst (λ (found : Found). IsFound found q there) (sym a) h

append_none : (xs : List (List ℕ)) → xs ++ [] ≡ xs
append_none [] = refl
append_none (x ∷ xs) = ap (λ (ys : List (List ℕ)). x ∷ ys) (append_none xs)

adds_folders : (path : List ℕ) (what : Shape) (old new : Found) → Adds path what old new → (more : List (List ℕ)) × (new.folders.items ≡ old.folders.items ++ more)
adds_folders path (shape.File size micros) old new a = ([], a.3 ∙ sym (append_none old.folders.items))
adds_folders path shape.Folder old new a = (path ∷ [], a.3)
adds_folders path shape.Other old new a = ([], a.3 ∙ sym (append_none old.folders.items))
adds_folders path shape.Absent old new a = ([], ap (λ (found : Found). found.folders.items) a ∙ sym (append_none old.folders.items))

adds_counts : (path : List ℕ) (what : Shape) (old new : Found) → Adds path what old new → new.unnamed ≡ old.unnamed
adds_counts path (shape.File size micros) old new a = a.2
adds_counts path shape.Folder old new a = a.2
adds_counts path shape.Other old new a = a.2
adds_counts path shape.Absent old new a = ap (λ (found : Found). found.unnamed) a

-- ---- what was found is there

module _ (store : FileStore) (root path : List ℕ) (what : Shape) (is : what ≡ shape_at store (path_at root path)) (some : path ≢ []) (bare : ends_in_slash path ≡ false) where
  adds_grows : (old new : Found) → Adds path what old new → Grows store root old new
  adds_grows old new a = record {
    kept = λ q h. adds_keeps path what old new a q (shape_at store (path_at root q)) (λ same. ap (λ (p : List ℕ). shape_at store (path_at root p)) same ∙ sym is) h;
    folders = adds_folders path what old new a;
    counts = λ q h. ap (λ (m : MapOf ℕ). get m q) (adds_counts path what old new a);
  }

  abbrev IsSoundFile : Found → List ℕ → Type 0
  IsSoundFile found q = (q ≢ []) × (file : HeldFile) × (get store.held (path_at root q) ≡ Some file) × (get found.files q ≡ Some (record { size = length file.bytes; micros = file.micros }))

  sound_files : (old new : Found) → Adds path what old new → ((q : List ℕ) → IsSome (get old.files q) → IsSoundFile old q) → (q : List ℕ) → IsSome (get new.files q) → IsSoundFile new q
  sound_files old new a all q h = by what is a
    where
      same_as : new.files ≡ old.files → IsSoundFile new q
      same_as e = let was = all q (same_some new.files old.files q (sym e) h) in (was.0, was.1, was.2, same_get old.files new.files q _ e was.3)

      by : (w : Shape) → w ≡ shape_at store (path_at root path) → Adds path w old new → IsSoundFile new q
      by (shape.File size micros) e b =
          elim (text_decided q path) [
            | inl same ↦
                let there = file_at store (path_at root path) size micros e in
                subst (λ (p : List ℕ). IsSoundFile new p) (sym same)
                (some, there.file, there.held, at_same old.files new.files path _ b.0 ∙ ap (λ (x : ℕ). Some (record { size = x; micros = micros })) there.size_is ∙ ap (λ (x : ℕ). Some (record { size = length there.file.bytes; micros = x })) there.micros_is)
            | inr other ↦
                let kept = at_other old.files new.files path _ q b.0 other in
                let was = all q (still_some _ _ (sym kept) h) in
                (was.0, was.1, was.2, kept ∙ was.3)
          ]
      by shape.Folder e b = same_as b.0
      by shape.Other e b = same_as b.0
      by shape.Absent e b = same_as (ap (λ (found : Found). found.files) b)

  abbrev IsGood : List ℕ → Type 0
  IsGood q = ((q ≡ []) ⊎ (shape_at store (path_at root q) ≡ shape.Folder)) × (ends_in_slash q ≡ false) × (depth q ≤ 128)

  adds_sound : (old new : Found) → Adds path what old new → IsSound store root old → IsSound store root new
  adds_sound old new a sound = record {
    files = sound_files old new a sound.files;
    others = λ q h. others what is a q h;
    folders = λ q h. folders what is a q h;
    counts = λ q h.
        let was = sound.counts q (same_some new.unnamed old.unnamed q (sym (adds_counts path what old new a)) h) in
        let more = adds_folders path what old new a in
        (in_folders old.folders.items new.folders.items more.0 q more.1 was.0, same_get old.unnamed new.unnamed q _ (adds_counts path what old new a) was.1);
  }
    where
      others : (w : Shape) → w ≡ shape_at store (path_at root path) → Adds path w old new → (q : List ℕ) → IsSome (get new.others q) → (q ≢ []) × (shape_at store (path_at root q) ≡ shape.Other)
      others (shape.File size micros) e b q h = sound.others q (same_some new.others old.others q (sym b.1) h)
      others shape.Folder e b q h = sound.others q (same_some new.others old.others q (sym b.1) h)
      others shape.Other e b q h =
          elim (text_decided q path) [
            | inl same ↦ subst (λ (p : List ℕ). (p ≢ []) × (shape_at store (path_at root p) ≡ shape.Other)) (sym same) (some, sym e)
            | inr other ↦ sound.others q (still_some _ _ (sym (at_other old.others new.others path tt q b.1 other)) h)
          ]
      others shape.Absent e b q h = sound.others q (same_some new.others old.others q (sym (ap (λ (found : Found). found.others) b)) h)

      only : (q : List ℕ) → Contains (path ∷ []) q → path ≡ q
      only q h = elim (has (path ∷ []) q h) [ inl same ↦ same | inr none ↦ absurd none ]

      folders : (w : Shape) → w ≡ shape_at store (path_at root path) → Adds path w old new → (q : List ℕ) → Contains new.folders.items q → IsGood q
      folders (shape.File size micros) e b q h = sound.folders q (same_folders new.folders.items old.folders.items q (sym b.3) h)
      folders shape.Folder e b q h =
          elim (Contains-append_cases old.folders.items (path ∷ []) q (same_folders new.folders.items (old.folders.items ++ path ∷ []) q (sym b.3) h)) [
            | inl was ↦ sound.folders q was
            | inr now ↦ subst IsGood (only q now) (inr (sym e), bare, b.4)
          ]
      folders shape.Other e b q h = sound.folders q (same_folders new.folders.items old.folders.items q (sym b.3) h)
      folders shape.Absent e b q h = sound.folders q (same_folders new.folders.items old.folders.items q (sym (ap (λ (found : Found). found.folders.items) b)) h)

  -- with one file too many, the tree has too many
  adds_many : (old new : Found) → Adds path what old new → 1000000 < length (keys new.files) → IsSound store root old → 1000000 < length (tree store root)
  adds_many old new a many sound =
      let in_there : (q : List ℕ) → Has (keys new.files) q → Has (tree store root) q = λ q h.
      let good = sound_files old new a sound.files q (is_key new.files q h) in
      in_tree store root q (is_some_of _ good.1 good.2) in
      let least = no_more (keys new.files) (tree store root) (keys_ascend new.files) (tree_ascends store root) in_there in
      omega arith

-- want of memory tells nothing of a path
pub over_memory : {A : Type 0} (path : List ℕ) (what : Shape) (old new : Found) (r : Result A WalkFault) → IfErr r (λ why. why ≡ fault.Memory) → IfErr r (IsOver path what old new)
over_memory path what old new (Ok a) h = tt
over_memory path what old new (Err why) h = subst (IsOver path what old new) (sym h) tt

-- ---- one name more

pub looked : (store : FileStore) (root folder name path full : List ℕ) (what : Shape) (old new : Found) → path ≡ child folder name → full ≡ path_at root path → what ≡ shape_at store full
    → Adds path what old new → IsName name → IsSound store root old → IsPartway store root folder (name ∷ []) old new
looked store root folder name path full what old new of_name at is adds named sound =
    let some : path ≢ [] = λ none. child_some folder name named (sym of_name ∙ none) in
    let bare : ends_in_slash path ≡ false = ap ends_in_slash of_name ∙ child_ends folder name named in
    let here : what ≡ shape_at store (path_at root path) = is ∙ ap (shape_at store) at in
    record {
      sound = adds_sound store root path what here some bare old new adds sound;
      grows = adds_grows store root path what here some bare old new adds;
      found = λ q h. subst (λ (p : List ℕ). Recorded store root new p) (of_name ∙ ap (child folder) (only q h)) (subst (λ (w : Shape). IsFound new path w) here (adds_found path what old new adds));
    }
  where
    only : (q : List ℕ) → Contains (name ∷ []) q → name ≡ q
    only q h = elim (has (name ∷ []) q h) [ inl same ↦ same | inr none ↦ absurd none ]

pub looked_over : (store : FileStore) (root folder name path full : List ℕ) (what : Shape) (old new : Found) (why : WalkFault) → path ≡ child folder name → full ≡ path_at root path → what ≡ shape_at store full
    → IsOver path what old new why → IsName name → IsSound store root old → IsRefused store root why
looked_over store root folder name path full what old new fault.TooDeep of_name at is over named sound =
    let some : path ≢ [] = λ none. child_some folder name named (sym of_name ∙ none) in
    (path, (ap (shape_at store) (sym (place_below root path some)) ∙ sym (is ∙ ap (shape_at store) at) ∙ over.0, ap ends_in_slash of_name ∙ child_ends folder name named), over.1)
looked_over store root folder name path full what old new fault.TooMany of_name at is over named sound =
    let some : path ≢ [] = λ none. child_some folder name named (sym of_name ∙ none) in
    let bare : ends_in_slash path ≡ false = ap ends_in_slash of_name ∙ child_ends folder name named in
    adds_many store root path what (is ∙ ap (shape_at store) at) some bare old new over.0 over.1 sound
looked_over store root folder name path full what old new fault.Files of_name at is over named sound = absurd over
looked_over store root folder name path full what old new fault.Memory of_name at is over named sound = tt

-- ---- steps one after another

pub grows_then : (store : FileStore) (root : List ℕ) (a b c : Found) → Grows store root a b → Grows store root b c → Grows store root a c
grows_then store root a b c first second = record {
  kept = λ q h. second.kept q (first.kept q h);
  folders = (first.folders.0 ++ second.folders.0, second.folders.1 ∙ ap (λ (xs : List (List ℕ)). xs ++ second.folders.0) first.folders.1 ∙ append_assoc a.folders.items first.folders.0 second.folders.0);
  counts = λ q h. second.counts q (still_some _ _ (first.counts q h) h) ∙ first.counts q h;
}

pub grows_none : (store : FileStore) (root : List ℕ) (a : Found) → Grows store root a a
grows_none store root a = record { kept = λ q h. h; folders = ([], sym (append_none a.folders.items)); counts = λ q h. refl }

pub partway_none : (store : FileStore) (root folder : List ℕ) (a : Found) → IsSound store root a → IsPartway store root folder [] a a
partway_none store root folder a sound = record { sound = sound; grows = grows_none store root a; found = λ q h. absurd (has [] q h) }

pub partway_more : (store : FileStore) (root folder name : List ℕ) (names : List (List ℕ)) (a b c : Found) → IsPartway store root folder names a b → IsPartway store root folder (name ∷ []) b c
    → IsPartway store root folder (names ++ name ∷ []) a c
partway_more store root folder name names a b c first second = record {
  sound = second.sound;
  grows = grows_then store root a b c first.grows second.grows;
  found = λ q h. elim (Contains-append_cases names (name ∷ []) q h) [ inl was ↦ second.grows.kept (child folder q) (first.found q was) | inr now ↦ second.found q now ];
}
