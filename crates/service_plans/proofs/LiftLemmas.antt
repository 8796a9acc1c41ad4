-- What was seen of files is still so behind more looks.
use Rattle.std.proofs.Common.{◌≡◌, ◌≤◌, ◌+◌, ◌-◌, ◌^◌, min, ℕ, Bool, true, false, List, Option, Some, None, sym, subst, arith}
use Rattle.std.specs.Prelude.{Result, Ok, Err, IfSome}
use Rattle.std.specs.List.{AllByRecursion}
use Rattle.command_errands.specs.Errands.{is_many, removes}
use Rattle.command_errands.specs.Sources.{local_source}
use Rattle.command_errands.specs.declared.sources.LocalSource.{LocalSource}
use Rattle.command_errands.specs.declared.sources.LocalSource.TheVariants as source
use Rattle.planning_questions.specs.Questions.{Question}
use Rattle.planning_questions.specs.declared.halt.Halt.TheVariants as halt
use Rattle.s3_model.specs.Counts.{Rose}
use Rattle.s3_model.specs.Files.{FileStore}
use Rattle.s3_model.specs.declared.faults.WalkFault.TheVariants as walk
use Rattle.s3_model.specs.declared.places.Entry.{Entry}
use Rattle.s3_model.specs.declared.places.Place.{Place}
use Rattle.s3_model.specs.declared.places.Place.TheVariants as place
use Rattle.s3_model.specs.declared.tasks.Warning.{Warning}
use Rattle.s3_outside.specs.Files.{SeenFiles, shape_at}
use Rattle.s3_words.specs.Options.{is_sync}
use Rattle.s3_words.specs.declared.commands.Command.{Command}
use Rattle.tree_walk.specs.Trees.{Describes, IsOrderly, IsWalked, OnlyLooks}
use Rattle.service_plans.specs.Local.{HoldsSource, HoldsTree, IsHeldAs, IsTreeFault, files_seen}
use Rattle.service_plans.specs.Sides.{DestOf, DestSide, NamesBelow, SourceOf, SourceSide}
use Rattle.service_plans.specs.declared.dests.Dest.{Dest}
use Rattle.service_plans.specs.declared.found.Found.{Found}
use Rattle.service_plans.specs.declared.halted.Halted.{Halted}
use Rattle.service_plans.specs.declared.halted.Halted.TheVariants as halted

-- ---- what was seen before

module _ (mid now : Option SeenFiles) (x y z : ℕ) (looks : OnlyLooks mid now y z) where
  still : (P : FileStore → Type 0) → IfSome mid (λ seen. P seen.store) → IfSome now (λ seen. P seen.store)
  still P h = by mid now looks h
    where
      by : (a b : Option SeenFiles) → OnlyLooks a b y z → IfSome a (λ seen. P seen.store) → IfSome b (λ seen. P seen.store)
      by None None looks h = tt
      by None (Some b) looks h = absurd looks
      by (Some a) None looks h = tt
      by (Some a) (Some b) looks h = subst P (sym looks.0) h

  tree_still : (root : List ℕ) (entries : List Entry) (looked : List Warning) → HoldsTree (files_seen mid x y) root entries looked → HoldsTree (files_seen now x z) root entries looked
  tree_still root entries looked h = record {
    ascending = h.ascending;
    few = h.few;
    described = still (λ (store : FileStore). AllByRecursion (Describes store root) entries) h.described;
    others = h.others;
    unnamed = h.unnamed;
    warned = h.warned;
    whole = still (λ (store : FileStore). IsOrderly store root → IsWalked store root entries h.others h.unnamed) h.whole;
  }

  held_still : (one : LocalSource) (path : List ℕ) (entries : List Entry) (looked : List Warning) → IsHeldAs one (files_seen mid x y) path entries looked → IsHeldAs one (files_seen now x z) path entries looked
  held_still source.Folder path entries looked h = tree_still path entries looked h
  held_still (source.File entry) path entries looked h = h
  held_still (source.NotAFile named) path entries looked h = h
  held_still (source.Refused fault) path entries looked h = h

  source_still : (many : Bool) (path : List ℕ) (entries : List Entry) (looked : List Warning) → HoldsSource (files_seen mid x y) many path entries looked → HoldsSource (files_seen now x z) many path entries looked
  source_still many path entries looked h = record {
    stands = h.stands;
    stood = still (λ (store : FileStore). shape_at store path ≡ h.stands) h.stood;
    held = held_still (local_source many path h.stands) path entries looked h.held;
  }

  side_still : (remove many : Bool) (from : Option Place) (number : ℕ) (qs : List Question) (found : Found) → SourceSide remove many from (files_seen mid x y) number qs (Ok found) → SourceSide remove many from (files_seen now x z) number qs (Ok found)
  side_still remove many None number qs found h = h
  side_still remove many (Some (place.File path)) number qs found h = (h.0, source_still many path _ _ h.1)
  side_still remove true (Some (place.Object bucket key)) number qs found h = h
  side_still true false (Some (place.Object bucket key)) number qs found h = h
  side_still false false (Some (place.Object bucket key)) number qs found h = h

  pub found_still : (command : Command) (number : ℕ) (qs : List Question) (found : Found) → SourceOf command (files_seen mid x y) number qs (Ok found) → SourceOf command (files_seen now x z) number qs (Ok found)
  found_still command number qs found h = side_still (removes command.verb) (is_many command) command.from number qs found h

-- ---- what came behind other looks

module _ (now : Option SeenFiles) (x y z : ℕ) (less : x ≤ y) where
  rose : Rose y z → Rose x z
  rose h = let rises : min (y + 1) (2 ^ 64 - 1) ≤ z = h in omega arith

  tree_fault : (root : List ℕ) (why : Halted) → IsTreeFault (files_seen now y z) root why → IsTreeFault (files_seen now x z) root why
  tree_fault root (halted.Asked halt.Memory) h = tt
  tree_fault root (halted.Asked (halt.Answer cause)) h = h
  tree_fault root (halted.Asked (halt.Listing bad)) h = h
  tree_fault root (halted.Asked halt.Stranger) h = h
  tree_fault root (halted.Walk walk.Files) h = rose h
  tree_fault root (halted.Walk walk.Memory) h = h
  tree_fault root (halted.Walk walk.TooDeep) h = h
  tree_fault root (halted.Walk walk.TooMany) h = h
  tree_fault root (halted.Plan fault) h = h

  tree_behind : (root : List ℕ) (entries : List Entry) (looked : List Warning) → HoldsTree (files_seen now y z) root entries looked → HoldsTree (files_seen now x z) root entries looked
  tree_behind root entries looked h =
      record { ascending = h.ascending; few = h.few; described = h.described; others = h.others; unnamed = h.unnamed; warned = h.warned; whole = h.whole }

  names_behind : (to : Place) (number : ℕ) (qs : List Question) (r : Result Found Halted) → NamesBelow to (files_seen now y z) number qs r → NamesBelow to (files_seen now x z) number qs r
  names_behind (place.Object bucket key) number qs r h = h
  names_behind (place.File path) number qs (Ok found) h = (h.0, tree_behind path _ _ h.1)
  names_behind (place.File path) number qs (Err why) h = (h.0, tree_fault path why h.1)

  dest_behind : (syncs recursive : Bool) (to : Option Place) (number : ℕ) (qs : List Question) (r : Result Dest Halted) → DestSide syncs recursive to (files_seen now y z) number qs r → DestSide syncs recursive to (files_seen now x z) number qs r
  dest_behind true recursive (Some to) number qs (Ok dest) h = (h.0, names_behind to number qs (Ok dest.found) h.1)
  dest_behind true recursive (Some to) number qs (Err why) h = names_behind to number qs (Err why) h
  dest_behind true recursive None number qs r h = h
  dest_behind false true to number qs r h = h
  dest_behind false false None number qs r h = h
  dest_behind false false (Some (place.Object bucket key)) number qs r h = h
  dest_behind false false (Some (place.File path)) number qs (Ok dest) h = h
  dest_behind false false (Some (place.File path)) number qs (Err why) h = (h.0, h.1, rose h.2)

  pub behind : (command : Command) (number : ℕ) (qs : List Question) (r : Result Dest Halted) → DestOf command (files_seen now y z) number qs r → DestOf command (files_seen now x z) number qs r
  behind command number qs r h = dest_behind (is_sync command.verb) command.recursive command.to number qs r h
