-- The steps of a walk over files that are seen to the end.
use Rattle.std.proofs.Common.{◌≡◌, ◌∙◌, ◌++◌, ◌<◌, ◌≤◌, ◌+◌, ◌-◌, ◌^◌, ℕ, zero, suc, List, [], ◌∷◌, Option, Some, None, Result, Ok, Err, Contains, get_or, length, min, slice_get, take, sym, ap, subst, arith}
use Rattle.std.specs.Prelude.{IfErr, IfSome, OnOk}
use Rattle.std.specs.FinMap.{insert}
use Rattle.std.specs.List.{AllByRecursion, sum_by}
use Rattle.std.proofs.lemmas.List.{take_more}
use Rattle.std.proofs.lemmas.Option.{slice_get-get_or}
use Rattle.std.proofs.lemmas.List.Sums.{sum_by_more}
use Rattle.s3_model.specs.Files.{FileStore}
use Rattle.local_files.specs.Names.{AreNames, IsName}
use Rattle.s3_outside.specs.Files.{SeenFiles, shape_at}
use Rattle.s3_outside.specs.FileCalls.{unnamed_in}
use Rattle.s3_outside.specs.declared.files.Shape.{Shape}
use Rattle.s3_outside.specs.declared.files.Shape.TheVariants as shape
use Rattle.tree_walk.specs.Finding.{Adds, IsComplete, IsOnTheWay, IsOver, IsPartway, IsSound, Visits}
use Rattle.tree_walk.specs.Trees.{IsRefused, OnlyLooks, child, path_at, place_of}
use Rattle.tree_walk.specs.declared.found.Found.{Found}
use Rattle.s3_model.specs.declared.faults.WalkFault.{WalkFault}
use Rattle.tree_walk.proofs.FoundLemmas.{looked, looked_over, partway_more}
use Rattle.tree_walk.proofs.WalkLemmas.{are_named, arrived, in_the_end, on_the_way, visited}

-- one more count, up to the last number
pub sum_step : (f : List ℕ → ℕ) (all : List (List ℕ)) (i : ℕ) (key : List ℕ) (sum next : ℕ) → i < length all → key ≡ get_or all i key → sum ≡ min (sum_by f (take i all)) (2 ^ 64 - 1)
    → next ≡ min (sum + f key) (2 ^ 64 - 1) → next ≡ min (sum_by f (take (i + 1) all)) (2 ^ 64 - 1)
sum_step f all i key sum next inside is so_far now =
    let more = sum_by_more f all i key inside ∙ ap (λ (k : List ℕ). sum_by f (take i all) + f k) (sym is) in omega arith

on_ok : {A E P Q : Type 0} (r : Result A E) → (P → Q) → OnOk r P → OnOk r Q
on_ok (Ok a) f h = f h
on_ok (Err e) f h = tt

-- ---- a name

pub looked_seen : (seen : Option SeenFiles) (root folder name path full : List ℕ) (what : Shape) (done : Result Unit WalkFault) (old new : Found) → path ≡ child folder name → full ≡ path_at root path
    → IfSome seen (λ now. what ≡ shape_at now.store full) → OnOk done (Adds path what old new)
    → IfSome seen (λ now. IsName name → IsSound now.store root old → OnOk done (IsPartway now.store root folder (name ∷ []) old new))
looked_seen None root folder name path full what done old new of_name at is adds = tt
looked_seen (Some now) root folder name path full what (Err why) old new of_name at is adds = λ named sound. tt
looked_seen (Some now) root folder name path full what (Ok u) old new of_name at is adds = looked now.store root folder name path full what old new of_name at is adds

pub over_seen : (seen : Option SeenFiles) (root folder name path full : List ℕ) (what : Shape) (done : Result Unit WalkFault) (old new : Found) → path ≡ child folder name → full ≡ path_at root path
    → IfSome seen (λ now. what ≡ shape_at now.store full) → IfErr done (IsOver path what old new) → IfSome seen (λ now. IsName name → IsSound now.store root old → IfErr done (IsRefused now.store root))
over_seen None root folder name path full what done old new of_name at is over = tt
over_seen (Some now) root folder name path full what (Ok u) old new of_name at is over = λ named sound. tt
over_seen (Some now) root folder name path full what (Err why) old new of_name at is over = looked_over now.store root folder name path full what old new why of_name at is over

-- ---- the names of a folder

named_at : (all : List (List ℕ)) (i : ℕ) (name default : List ℕ) → i < length all → name ≡ get_or all i default → AllByRecursion IsName all → IsName name
named_at [] i name default inside is named = absurd (omega arith)
named_at (first ∷ all) zero name default inside is named = subst IsName (sym is) named.0
named_at (first ∷ all) (suc i) name default inside is named = named_at all i name default (omega arith) is named.1

module _ (before after : Option SeenFiles) (x y : ℕ) (looks : OnlyLooks before after x y) (root folder : List ℕ) where
  module _ (all : List (List ℕ)) (i : ℕ) (name default : List ℕ) (a b : Found) (inside : i < length all) (is : name ≡ get_or all i default)
      (so_far : IfSome before (λ now. AllByRecursion IsName all → IsSound now.store root a → IsPartway now.store root folder (take i all) a b)) where
    pub names_step : (c : Found) → IfSome after (λ now. IsName name → IsSound now.store root b → IsPartway now.store root folder (name ∷ []) b c)
        → IfSome after (λ now. AllByRecursion IsName all → IsSound now.store root a → IsPartway now.store root folder (take (i + 1) all) a c)
    names_step c = by after (in_the_end (λ (store : FileStore). AllByRecursion IsName all → IsSound store root a → IsPartway store root folder (take i all) a b) before after x y looks so_far)
      where
        by : (seen : Option SeenFiles) → IfSome seen (λ now. AllByRecursion IsName all → IsSound now.store root a → IsPartway now.store root folder (take i all) a b)
            → IfSome seen (λ now. IsName name → IsSound now.store root b → IsPartway now.store root folder (name ∷ []) b c)
            → IfSome seen (λ now. AllByRecursion IsName all → IsSound now.store root a → IsPartway now.store root folder (take (i + 1) all) a c)
        by None front next = tt
        by (Some now) front next = λ named sound.
            let first = front named sound in
            let second = next (named_at all i name default inside is named) first.sound in
            subst (λ (names : List (List ℕ)). IsPartway now.store root folder names a c) (sym (take_more all i default inside ∙ ap (λ (n : List ℕ). take i all ++ n ∷ []) (sym is)))
            (partway_more now.store root folder name (take i all) a b c first second)

    pub names_refused : (why : WalkFault) → IfSome after (λ now. IsName name → IsSound now.store root b → IsRefused now.store root why)
        → IfSome after (λ now. AllByRecursion IsName all → IsSound now.store root a → IsRefused now.store root why)
    names_refused why = by after (in_the_end (λ (store : FileStore). AllByRecursion IsName all → IsSound store root a → IsPartway store root folder (take i all) a b) before after x y looks so_far)
      where
        by : (seen : Option SeenFiles) → IfSome seen (λ now. AllByRecursion IsName all → IsSound now.store root a → IsPartway now.store root folder (take i all) a b)
            → IfSome seen (λ now. IsName name → IsSound now.store root b → IsRefused now.store root why)
            → IfSome seen (λ now. AllByRecursion IsName all → IsSound now.store root a → IsRefused now.store root why)
        by None front next = tt
        by (Some now) front next = λ named sound. next (named_at all i name default inside is named) (front named sound).sound

  -- ---- a folder

  module _ (place : List ℕ) (names : List (List ℕ)) (old : Found) (are : IfSome before (λ now. AreNames now.store place names)) where
    pub folder_refused : (done : Result Unit WalkFault) → IfSome after (λ now. AllByRecursion IsName names → IsSound now.store root old → IfErr done (IsRefused now.store root))
        → IfSome after (λ now. IsSound now.store root old → IfErr done (IsRefused now.store root))
    folder_refused done = by after (in_the_end (λ (store : FileStore). AreNames store place names) before after x y looks are)
      where
        by : (seen : Option SeenFiles) → IfSome seen (λ now. AreNames now.store place names) → IfSome seen (λ now. AllByRecursion IsName names → IsSound now.store root old → IfErr done (IsRefused now.store root))
            → IfSome seen (λ now. IsSound now.store root old → IfErr done (IsRefused now.store root))
        by None named next = tt
        by (Some now) named next = next (are_named now.store place names named)

    pub folder_seen : (done : Result Unit WalkFault) (unnamed : ℕ) (mid new : Found) → place ≡ place_of root folder → IfSome before (λ now. shape_at now.store place ≡ shape.Folder) → IfSome before (λ now. unnamed ≡ unnamed_in now.store place)
        → IfSome after (λ now. AllByRecursion IsName names → IsSound now.store root old → IsPartway now.store root folder names old mid)
        → new.files ≡ mid.files → new.others ≡ mid.others → new.folders.items ≡ mid.folders.items → OnOk done (new.unnamed ≡ insert mid.unnamed folder unnamed)
        → IfSome after (λ now. IsSound now.store root old → Contains old.folders.items folder → OnOk done (Visits now.store root folder old new))
    folder_seen done unnamed mid new at is count part files others folders counted =
        by after (in_the_end (λ (store : FileStore). AreNames store place names) before after x y looks are) (in_the_end (λ (store : FileStore). shape_at store place ≡ shape.Folder) before after x y looks is)
        (in_the_end (λ (store : FileStore). unnamed ≡ unnamed_in store place) before after x y looks count) part
      where
        by : (seen : Option SeenFiles) → IfSome seen (λ now. AreNames now.store place names) → IfSome seen (λ now. shape_at now.store place ≡ shape.Folder) → IfSome seen (λ now. unnamed ≡ unnamed_in now.store place)
            → IfSome seen (λ now. AllByRecursion IsName names → IsSound now.store root old → IsPartway now.store root folder names old mid)
            → IfSome seen (λ now. IsSound now.store root old → Contains old.folders.items folder → OnOk done (Visits now.store root folder old new))
        by None a b c d = tt
        by (Some now) a b c d = λ sound listed.
            on_ok done (λ put. visited now.store root folder place names unnamed old mid new at b a c (d (are_named now.store place names a) sound) files others folders put sound listed) counted

  -- ---- folder after folder

  module _ (k : ℕ) (a b : Found) (so_far : IfSome before (λ now. IsOnTheWay now.store root 0 a → IsOnTheWay now.store root k b)) where
    pub way_step : (c : Found) → slice_get b.folders.items k ≡ Some folder
        → IfSome after (λ now. IsSound now.store root b → Contains b.folders.items folder → Visits now.store root folder b c)
        → IfSome after (λ now. IsOnTheWay now.store root 0 a → IsOnTheWay now.store root (k + 1) c)
    way_step c got = by after (in_the_end (λ (store : FileStore). IsOnTheWay store root 0 a → IsOnTheWay store root k b) before after x y looks so_far)
      where
        by : (seen : Option SeenFiles) → IfSome seen (λ now. IsOnTheWay now.store root 0 a → IsOnTheWay now.store root k b)
            → IfSome seen (λ now. IsSound now.store root b → Contains b.folders.items folder → Visits now.store root folder b c)
            → IfSome seen (λ now. IsOnTheWay now.store root 0 a → IsOnTheWay now.store root (k + 1) c)
        by None front next = tt
        by (Some now) front next = λ way. on_the_way now.store root folder k b c got next (front way)

    pub way_refused : (why : WalkFault) → IfSome after (λ now. IsSound now.store root b → IsRefused now.store root why) → IfSome after (λ now. IsOnTheWay now.store root 0 a → IsRefused now.store root why)
    way_refused why = by after (in_the_end (λ (store : FileStore). IsOnTheWay store root 0 a → IsOnTheWay store root k b) before after x y looks so_far)
      where
        by : (seen : Option SeenFiles) → IfSome seen (λ now. IsOnTheWay now.store root 0 a → IsOnTheWay now.store root k b)
            → IfSome seen (λ now. IsSound now.store root b → IsRefused now.store root why) → IfSome seen (λ now. IsOnTheWay now.store root 0 a → IsRefused now.store root why)
        by None front next = tt
        by (Some now) front next = λ way. next (front way).sound

pub got_at : (xs ys : List (List ℕ)) (k : ℕ) (x y : List ℕ) → ys ≡ xs → k < length ys → x ≡ get_or ys k x → y ≡ x → slice_get xs k ≡ Some y
got_at xs ys k x y same inside is copied = ap (λ (zs : List (List ℕ)). slice_get zs k) (sym same) ∙ slice_get-get_or ys k x inside ∙ ap (λ (z : List ℕ). Some z) (sym is ∙ sym copied)

-- the way is at its end
pub way_ends : (seen : Option SeenFiles) (root : List ℕ) (k : ℕ) (a b : Found) → length b.folders.items ≤ k → IfSome seen (λ now. IsOnTheWay now.store root 0 a → IsOnTheWay now.store root k b)
    → IfSome seen (λ now. IsOnTheWay now.store root 0 a → IsComplete now.store root b)
way_ends None root k a b end so_far = tt
way_ends (Some now) root k a b end so_far = λ way. arrived now.store root k b end (so_far way)
