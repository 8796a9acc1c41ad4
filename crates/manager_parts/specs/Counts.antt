-- A table of the pieces that hold a part, beside what happened in a run.
use Rattle.std.specs.Prelude.{◌≡◌, ◌&&◌, ℕ, Bool, false, List, Option, Some, None, is_some, slice_get}
use Rattle.task_acts.specs.declared.work.Work.{Work}
use Rattle.task_acts.specs.Work.{is_piece}
use Rattle.manager_moves.specs.Parts.{has_part, lent}
use Rattle.manager_moves.specs.Runs.{Events, share}
use Rattle.held_parts.specs.declared.held.Held.{Held}
use Rattle.held_parts.specs.Held.{AreSingle, held_at, lent_in}

abbrev pub holds_of : Option Work → Events → (task number : ℕ) → Bool
holds_of None events task number = false
holds_of (Some w) events task number = is_piece w number && has_part w (share w task events) number

-- by what happened, that piece of that task holds a part
abbrev pub holds : List Work → Events → (task number : ℕ) → Bool
holds works events task number = holds_of (slice_get works task) events task number

-- the table says the same of every piece
abbrev pub AgreesWith : List Work → Events → List (Option Held) → Type 0
AgreesWith works events slots = (task number : ℕ) → is_some (held_at slots task number) ≡ holds works events task number

abbrev pub TablesCount : Type 0
TablesCount = (works : List Work) (events : Events) (slots : List (Option Held)) → AreSingle slots
    → AgreesWith works events slots → lent works events ≡ lent_in slots
