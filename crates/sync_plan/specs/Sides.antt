-- How the names of two sides are gone through, one path after the other.
use Rattle.std.specs.Prelude.{◌≡◌, ◌<◌, ◌+◌, Bool, List, [], ◌∷◌, length, option_copied}
use Rattle.merged_names.specs.Turns.{IsTurn}
use Rattle.s3_model.specs.declared.places.Entry.{Entry}
use Rattle.s3_model.specs.declared.places.Place.{Place}
use Rattle.sync_plan.specs.Errands.{names_of}
use Rattle.sync_plan.specs.declared.names.First.{First}
use Rattle.sync_plan.specs.declared.names.First.TheVariants as first
use Rattle.sync_plan.specs.declared.turns.Turn.{Turn}

-- nothing is left, or a folder marker is passed over, or there is a first name
abbrev pub IsFirst : Place → (many : Bool) → List Entry → First → Type 0
IsFirst of_place many entries first.End = names_of of_place many entries ≡ []
IsFirst of_place many entries (first.Marker later) =
    (names_of of_place many entries ≡ names_of of_place many later.now) × (length later.now < length entries)
IsFirst of_place many entries (first.Name path entry later) =
    (names_of of_place many entries ≡ (path.now, entry.now) ∷ names_of of_place many later.now)
    × (length later.now < length entries)

-- a turn of the merge of two lists of entries
abbrev pub IsTurnOf : (from to : Place) → (many : Bool) → (source dest : List Entry) → Turn → Type 0
IsTurnOf from to many source dest turn =
    IsTurn turn.path.now (option_copied turn.ours) (option_copied turn.theirs)
    (names_of from many source) (names_of to many dest)
    (names_of from many turn.source.now) (names_of to many turn.dest.now)

abbrev pub IsShorter : (source dest : List Entry) → Turn → Type 0
IsShorter source dest turn = length turn.source.now + length turn.dest.now < length source + length dest
