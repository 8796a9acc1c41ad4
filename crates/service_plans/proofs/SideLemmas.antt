-- What is asked and looked at for a side.
use Rattle.std.proofs.Common.{◌≡◌, ◌∙◌, ◌≤◌, ℕ, Bool, true, false, List, [], ◌∷◌, Option, Some, None, refl, sym, ap, subst, arith, length}
use Rattle.std.specs.List.Sorted.{IsStrictlySortedBy}
use Rattle.std.specs.Prelude.{Result, Ok, Err, IfErr, IfOk, option_map}
use Rattle.std.proofs.lemmas.List.Elements.{All-nil}
use Rattle.command_errands.specs.Entries.{file_entry}
use Rattle.command_errands.specs.Errands.{is_many, removes, source_of}
use Rattle.command_errands.specs.Sources.{local_source}
use Rattle.command_errands.specs.declared.sources.LocalSource.{LocalSource}
use Rattle.command_errands.specs.declared.sources.LocalSource.TheVariants as source
use Rattle.planning_questions.specs.Questions.{HasQuestions, Progress}
use Rattle.planning_questions.proofs.PageLemmas.{none_asked}
use Rattle.s3_model.specs.Entries.{IsAscending, keys_of}
use Rattle.s3_model.specs.declared.places.Entry.{Entry}
use Rattle.s3_model.specs.declared.places.Place.{Place}
use Rattle.s3_model.specs.declared.places.Place.TheVariants as place
use Rattle.s3_model.specs.declared.tasks.Warning.{Warning}
use Rattle.s3_outside.specs.declared.files.Shape.{Shape}
use Rattle.s3_outside.specs.declared.files.Shape.TheVariants as shape
use Rattle.s3_words.specs.declared.commands.Command.{Command}
use Rattle.shared_lemmas.proofs.Clashes.{true_is_false}
use Rattle.s3_model.specs.Places.{IsObject}
use Rattle.s3_words.specs.Options.{is_sync}
use Rattle.sync_plan.specs.Errands.{AreEntries, AreEntriesAt}
use Rattle.service_plans.specs.Local.{FilesSeen, HoldsSource, HoldsTree, IsHeldAlone, IsHeldAs, IsSourceFault, IsTreeFault}
use Rattle.service_plans.specs.Sides.{DestOf, DestSide, HasEntries, LooksAtSource, NamesBelow, NamesRemoval, SourceOf, SourceSide, WalksTree, entries_in}
use Rattle.service_plans.specs.declared.dests.Dest.{Dest}
use Rattle.service_plans.specs.declared.found.Found.{Found}
use Rattle.service_plans.specs.declared.halted.Halted.{Halted}

-- ---- files

module _ (files : FilesSeen) (path : List ℕ) where
  pub walks_tree : (r : Result Found Halted) → IfOk r (λ found. HoldsTree files path (entries_in found.side) found.looked.items) → IfErr r (IsTreeFault files path) → WalksTree files path [] r
  walks_tree (Ok found) holds fails = (refl, holds)
  walks_tree (Err why) holds fails = (refl, fails)

  pub looks_at_source : (many : Bool) (r : Result Found Halted) → IfOk r (λ found. HoldsSource files many path (entries_in found.side) found.looked.items) → IfErr r (IsSourceFault files many path)
      → LooksAtSource files many path [] r
  looks_at_source many (Ok found) holds fails = (refl, holds)
  looks_at_source many (Err why) holds fails = (refl, fails)

  pub names_of_files : (number : ℕ) (at : Progress) (to : Place) (named : List ℕ) (r : Result Found Halted) → to ≡ place.File named → path ≡ named
      → IfOk r (λ found. HoldsTree files path (entries_in found.side) found.looked.items) → IfErr r (IsTreeFault files path) → HasQuestions number number at at (λ questions. NamesBelow to files number questions r)
  names_of_files number at to named r is same holds fails =
      subst (λ (p : Place). HasQuestions number number at at (λ questions. NamesBelow p files number questions r)) (ap (λ (p : List ℕ). place.File p) same ∙ sym is)
      (none_asked number at (λ questions. WalksTree files path questions r) (walks_tree r holds fails))

  pub source_of_files : (number : ℕ) (at : Progress) (command : Command) (many : Bool) (named : List ℕ) (r : Result Found Halted) → many ≡ is_many command → command.from ≡ Some (place.File named) → path ≡ named
      → IfOk r (λ found. HoldsSource files many path (entries_in found.side) found.looked.items) → IfErr r (IsSourceFault files many path)
      → HasQuestions number number at at (λ questions. SourceOf command files number questions r)
  source_of_files number at command many named r by is same holds fails =
      subst (λ (p : Option Place). HasQuestions number number at at (λ questions. SourceSide (removes command.verb) (is_many command) p files number questions r)) (ap (λ (p : List ℕ). Some (place.File p)) same ∙ sym is)
      (subst (λ (m : Bool). HasQuestions number number at at (λ questions. SourceSide (removes command.verb) m (Some (place.File path)) files number questions r)) by
      (none_asked number at (λ questions. SourceSide (removes command.verb) many (Some (place.File path)) files number questions r) (looks_at_source many r holds fails)))

pub source_of_objects : (number next : ℕ) (before after : Progress) (command : Command) (from : Place) (files : FilesSeen) (r : Result Found Halted) → command.from ≡ Some from
    → ((any : FilesSeen) → HasQuestions number next before after (λ questions. SourceSide (removes command.verb) (is_many command) (Some from) any number questions r))
    → HasQuestions number next before after (λ questions. SourceOf command files number questions r)
source_of_objects number next before after command from files r is h =
    subst (λ (p : Option Place). HasQuestions number next before after (λ questions. SourceSide (removes command.verb) (is_many command) p files number questions r)) (sym is) (h files)

pub removal_named : (number : ℕ) (at : Progress) (remove many : Bool) (from : Place) (any : FilesSeen) (r : Result Found Halted) → remove ≡ true → many ≡ false → IsObject (Some from)
    → NamesRemoval from [] r → HasQuestions number number at at (λ questions. SourceSide remove many (Some from) any number questions r)
removal_named number at true false (place.Object bucket key) any r e d object h = none_asked number at (λ questions. NamesRemoval (place.Object bucket key) questions r) h
removal_named number at true false (place.File path) any r e d object h = absurd object
removal_named number at true true from any r e d object h = absurd (true_is_false d)
removal_named number at false many from any r e d object h = absurd (true_is_false (sym e))

pub dest_plain : (number : ℕ) (at : Progress) (command : Command) (files : FilesSeen) (r : Result Dest Halted) → is_sync command.verb ≡ false
    → ((any : ℕ) → DestSide false command.recursive command.to files any [] r) → HasQuestions number number at at (λ questions. DestOf command files number questions r)
dest_plain number at command files r is h =
    subst (λ (syncs : Bool). HasQuestions number number at at (λ questions. DestSide syncs command.recursive command.to files number questions r)) (sym is)
    (none_asked number at (λ questions. DestSide false command.recursive command.to files number questions r) (h number))

-- ---- entries in order

one_ascends : (name : List ℕ) → IsAscending (name ∷ [])
unfolding IsStrictlySortedBy
one_ascends name = (tt, tt)

none_ascends : IsAscending []
unfolding IsStrictlySortedBy
none_ascends = tt

alone : (one : LocalSource) (entries : List Entry) (looked : List Warning) → IsHeldAlone one entries looked → IsAscending (keys_of entries) × (length entries ≤ 1)
alone (source.File entry) entries looked h = subst (λ (all : List Entry). IsAscending (keys_of all) × (length all ≤ 1)) (sym h.0) (one_ascends _, omega arith)
alone (source.NotAFile named) entries looked h = subst (λ (all : List Entry). IsAscending (keys_of all) × (length all ≤ 1)) (sym h.0) (none_ascends, omega arith)
alone source.Folder entries looked h = absurd h
alone (source.Refused fault) entries looked h = absurd h

file_entries : (many : Bool) (path : List ℕ) (entries : List Entry) → IsAscending (keys_of entries) × (length entries ≤ 1) → AreEntries (place.File path) many entries
file_entries many path entries h = record { ascending = h.0; below = tt; single = λ e. h.1 }

by_stands : (files : FilesSeen) (many : Bool) (path : List ℕ) (stands : Shape) (entries : List Entry) (looked : List Warning) → IsHeldAs (local_source many path stands) files path entries looked
    → AreEntries (place.File path) many entries
by_stands files true path shape.Absent entries looked h = absurd h
by_stands files true path shape.Folder entries looked h = record { ascending = h.ascending; below = tt; single = λ e. absurd (true_is_false e) }
by_stands files true path shape.Other entries looked h = absurd h
by_stands files true path (shape.File size micros) entries looked h = absurd h
by_stands files false path shape.Absent entries looked h = absurd h
by_stands files false path shape.Folder entries looked h = absurd h
by_stands files false path shape.Other entries looked h = file_entries false path entries (alone (source.NotAFile path) entries looked h)
by_stands files false path (shape.File size micros) entries looked h = file_entries false path entries (alone (source.File (file_entry path size micros)) entries looked h)

pub source_entries : (files : FilesSeen) (many : Bool) (path : List ℕ) (entries : List Entry) (looked : List Warning) → HoldsSource files many path entries looked → AreEntries (place.File path) many entries
source_entries files many path entries looked h = by_stands files many path h.stands entries looked h.held

no_entries : (of_place : Place) (many : Bool) → AreEntries of_place many []
no_entries (place.Object bucket key) many = record { ascending = none_ascends; below = All-nil _; single = λ e. omega arith }
no_entries (place.File path) many = record { ascending = none_ascends; below = tt; single = λ e. omega arith }

none_at : (to : Option Place) → AreEntriesAt (option_map (source_of true) to) true []
none_at None = tt
none_at (Some to) = no_entries (source_of true to) true

pub no_entries_at : (to : Option Place) (r : Result Dest Halted) → IfOk r (λ dest. HasEntries dest.found []) → IfOk r (λ dest. AreEntriesAt (option_map (source_of true) to) true (entries_in dest.found.side))
no_entries_at to (Ok dest) has = subst (λ (all : List Entry). AreEntriesAt (option_map (source_of true) to) true all) (sym has.0) (none_at to)
no_entries_at to (Err why) has = tt
