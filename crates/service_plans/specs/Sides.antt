-- The two sides of a plan: what is asked and looked at for each, and its entries.
use Rattle.std.specs.Prelude.{◌≡◌, ◌+◌, ◌++◌, ℕ, Bool, true, false, List, [], ◌∷◌}
use Rattle.std.specs.Prelude.{Option, Some, None, Result, Ok, Err, length}
use Rattle.command_errands.specs.Entries.{object_entry, removal_entry}
use Rattle.command_errands.specs.Errands.{is_many, prefix_of, removes}
use Rattle.list_walk.specs.Pages.{Walk, new_walk}
use Rattle.planning_questions.specs.Listings.{Lists}
use Rattle.planning_questions.specs.Questions.{AsksOnce, Question}
use Rattle.planning_questions.specs.declared.halt.Halt.{Halt}
use Rattle.planning_questions.specs.declared.halt.Halt.TheVariants as halt
use Rattle.s3_model.specs.declared.answers.Reply.{Reply}
use Rattle.s3_model.specs.declared.answers.Reply.TheVariants as reply
use Rattle.s3_model.specs.declared.faults.WalkFault.TheVariants as walk
use Rattle.s3_model.specs.declared.places.Entry.{Entry}
use Rattle.s3_model.specs.declared.places.Place.{Place}
use Rattle.s3_model.specs.declared.places.Place.TheVariants as place
use Rattle.s3_model.specs.declared.requests.Ask.TheVariants as ask
use Rattle.s3_outside.specs.declared.files.Shape.{Shape}
use Rattle.s3_outside.specs.declared.files.Shape.TheVariants as shape
use Rattle.s3_words.specs.Options.{is_sync}
use Rattle.s3_words.specs.declared.commands.Command.{Command}
use Rattle.service_plans.specs.Local.{FilesSeen, HasFailed, HoldsSource, HoldsTree, IsSourceFault}
use Rattle.service_plans.specs.Local.{IsTreeFault, StandsAt}
use Rattle.service_plans.specs.declared.dests.Dest.{Dest}
use Rattle.service_plans.specs.declared.found.Found.{Found}
use Rattle.service_plans.specs.declared.found.Side.{Side}
use Rattle.service_plans.specs.declared.found.Side.TheVariants as side
use Rattle.service_plans.specs.declared.halted.Halted.{Halted}
use Rattle.service_plans.specs.declared.halted.Halted.TheVariants as halted

abbrev pub entries_in : Side → List Entry
entries_in (side.Listed pages) = pages.gathered.entries
entries_in (side.Held entries) = entries.items

-- these entries, and nothing to warn of
abbrev pub HasEntries : Found → List Entry → Type 0
HasEntries found entries = (entries_in found.side ≡ entries) × (found.looked.items ≡ [])

-- ---- objects

-- all objects below a key, by the pages of their listing
abbrev pub ListsBelow : (number : ℕ) → (bucket key : List ℕ) → List Question → Result Found Halted → Type 0
ListsBelow number bucket key questions (Ok found) =
    (walk : Walk) × Lists number (new_walk bucket (prefix_of key) false) questions (Ok walk)
    × HasEntries found walk.gathered.entries
ListsBelow number bucket key questions (Err (halted.Asked why)) =
    Lists number (new_walk bucket (prefix_of key) false) questions (Err why)
ListsBelow number bucket key questions (Err why) = ⊥

-- the reply to a Head tells the entry of the object
abbrev pub IsTold : Place → Reply → Found → Type 0
IsTold of_place (reply.Found size etag micros) found = HasEntries found (object_entry of_place size etag micros ∷ [])
IsTold of_place said found = ⊥

-- an answer came, or memory ran out for it
abbrev pub MayHaveCome : Result Reply Halt → Type 0
MayHaveCome (Ok said) = Unit {0}
MayHaveCome (Err halt.Memory) = Unit {0}
MayHaveCome (Err why) = ⊥

-- one object, by the reply to a Head; memory may run out behind it as well
abbrev pub HeadsObject : (number : ℕ) → (bucket key : List ℕ) → List Question → Result Found Halted → Type 0
HeadsObject number bucket key questions (Ok found) =
    (said : Reply) × AsksOnce number (ask.Head bucket key) questions (Ok said)
    × IsTold (place.Object bucket key) said found
HeadsObject number bucket key questions (Err (halted.Asked halt.Memory)) =
    (answer : Result Reply Halt) × AsksOnce number (ask.Head bucket key) questions answer × MayHaveCome answer
HeadsObject number bucket key questions (Err (halted.Asked why)) =
    AsksOnce number (ask.Head bucket key) questions (Err why)
HeadsObject number bucket key questions (Err why) = ⊥

-- one object that is removed, of which nothing is asked
abbrev pub NamesRemoval : Place → List Question → Result Found Halted → Type 0
NamesRemoval of_place questions (Ok found) = (questions ≡ []) × HasEntries found (removal_entry of_place ∷ [])
NamesRemoval of_place questions (Err why) = (questions ≡ []) × (why ≡ halted.Asked halt.Memory)

-- ---- files

-- the tree below a folder
abbrev pub WalksTree : FilesSeen → (root : List ℕ) → List Question → Result Found Halted → Type 0
WalksTree files root questions (Ok found) =
    (questions ≡ []) × HoldsTree files root (entries_in found.side) found.looked.items
WalksTree files root questions (Err why) = (questions ≡ []) × IsTreeFault files root why

-- a local source
abbrev pub LooksAtSource : FilesSeen → (many : Bool) → (path : List ℕ) → List Question → Result Found Halted → Type 0
LooksAtSource files many path questions (Ok found) =
    (questions ≡ []) × HoldsSource files many path (entries_in found.side) found.looked.items
LooksAtSource files many path questions (Err why) = (questions ≡ []) × IsSourceFault files many path why

-- ---- the source

-- what is asked and looked at for a source, numbered from there
abbrev pub SourceSide : (removes many : Bool) → (from : Option Place) → FilesSeen → (number : ℕ) → List Question
    → Result Found Halted → Type 0
SourceSide removes many None files number questions result = ⊥
SourceSide removes many (Some (place.File path)) files number questions result =
    LooksAtSource files many path questions result
SourceSide removes true (Some (place.Object bucket key)) files number questions result =
    ListsBelow number bucket key questions result
SourceSide true false (Some (place.Object bucket key)) files number questions result =
    NamesRemoval (place.Object bucket key) questions result
SourceSide false false (Some (place.Object bucket key)) files number questions result =
    HeadsObject number bucket key questions result

abbrev pub SourceOf : Command → FilesSeen → (number : ℕ) → List Question → Result Found Halted → Type 0
SourceOf command files number questions result =
    SourceSide (removes command.verb) (is_many command) command.from files number questions result

-- ---- the destination

abbrev pub is_folder : Shape → Bool
is_folder shape.Folder = true
is_folder stands = false

-- no names of the destination are wanted
abbrev pub HasNoNames : Dest → (into_folder : Bool) → Type 0
HasNoNames dest into_folder = (dest.into_folder ≡ into_folder) × HasEntries dest.found []

-- whether the one name goes into a folder that is there
abbrev pub LooksForFolder : FilesSeen → (path : List ℕ) → List Question → Result Dest Halted → Type 0
LooksForFolder files path questions (Ok dest) =
    (questions ≡ []) × (stands : Shape) × StandsAt files path stands × HasNoNames dest (is_folder stands)
LooksForFolder files path questions (Err why) = (questions ≡ []) × (why ≡ halted.Walk walk.Files) × HasFailed files

-- all names below a destination
abbrev pub NamesBelow : (to : Place) → FilesSeen → (number : ℕ) → List Question → Result Found Halted → Type 0
NamesBelow (place.Object bucket key) files number questions result = ListsBelow number bucket key questions result
NamesBelow (place.File path) files number questions result = WalksTree files path questions result

-- those that a `sync` is compared with
abbrev pub ComparesWith : (to : Place) → FilesSeen → (number : ℕ) → List Question → Result Dest Halted → Type 0
ComparesWith to files number questions (Ok dest) =
    (dest.into_folder ≡ false) × NamesBelow to files number questions (Ok dest.found)
ComparesWith to files number questions (Err why) = NamesBelow to files number questions (Err why)

-- nothing is asked, nothing looked at
abbrev pub LooksAtNone : List Question → Result Dest Halted → Type 0
LooksAtNone questions (Ok dest) = (questions ≡ []) × HasNoNames dest false
LooksAtNone questions (Err why) = ⊥

-- what is asked and looked at for a destination, numbered from there
abbrev pub DestSide : (syncs recursive : Bool) → (to : Option Place) → FilesSeen → (number : ℕ) → List Question
    → Result Dest Halted → Type 0
DestSide true recursive (Some to) files number questions result = ComparesWith to files number questions result
DestSide false false (Some (place.File path)) files number questions result =
    LooksForFolder files path questions result
DestSide syncs recursive to files number questions result = LooksAtNone questions result

abbrev pub DestOf : Command → FilesSeen → (number : ℕ) → List Question → Result Dest Halted → Type 0
DestOf command files number questions result =
    DestSide (is_sync command.verb) command.recursive command.to files number questions result

-- ---- both

-- the source has these entries, and the destination is asked for and looked at behind it
pub record FindsBoth (command : Command) (files : FilesSeen) (number : ℕ) (questions : List Question)
    (source : Found) (dest : Result Dest Halted) : Type 0 where
  pub first : List Question
  pub later : List Question
  pub split : questions ≡ first ++ later
  pub at_source : SourceOf command files number first (Ok source)
  pub at_dest : DestOf command files (number + length first) later dest
