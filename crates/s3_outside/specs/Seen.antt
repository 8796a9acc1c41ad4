-- What is seen of an object after a call.
use Rattle.std.specs.Prelude.{◌≡◌, ◌⊎◌, ℕ, Option, None}
use Rattle.std.specs.Option.{option_map}
use Rattle.s3_model.specs.Counts.{Rose}

-- what the call makes of what was seen before; of an object whose memory ran out nothing is seen any more, and it
-- counts a fault
abbrev pub IsSeenAfter : {L : Type 0} → (L → L) → (old new : Option L) → (before after : ℕ) → Type 0
IsSeenAfter step old new before after = (new ≡ option_map step old) ⊎ ((new ≡ None) × Rose before after)
