-- What a wire gains.
use Rattle.std.specs.Prelude.{◌≡◌, ◌++◌, List, Option, Some, None}
use Rattle.s3_model.specs.Talks.{Talk, Note, WireLog}

-- P of the talks and notes behind those before, as far as the wire is still seen
abbrev pub Gains : Option WireLog → Option WireLog → (List Talk → List Note → Type 0) → Type 0
Gains before None P = Unit {0}
Gains None (Some after) P = ⊥
Gains (Some before) (Some after) P =
    (talks : List Talk) × (notes : List Note) × (after.talks ≡ before.talks ++ talks)
    × (after.notes ≡ before.notes ++ notes) × P talks notes
