-- The slots of the code, and what they are to the definitions.
use Rattle.std.specs.Prelude.{◌≡◌, map, ◌&&◌, ℕ, List, [], ◌∷◌, Option, Some, None, codes, option_map, if◌then◌else◌}
use Rattle.std.specs.Borrow.{Bor}
use Rattle.std.specs.Option.{option_or}
use Rattle.std.specs.Str.{bytes_eq}
use Rattle.aws_profile.specs.declared.kinds.Assignment.{Assignment}
use Rattle.aws_profile.specs.declared.slots.Place.{Place}
use Rattle.aws_profile.specs.declared.slots.Place.TheVariants as place
use Rattle.aws_profile.specs.declared.slots.Found.{Found}
use Rattle.aws_profile.specs.declared.slots.Slot.{Slot}
use Rattle.aws_profile.specs.Sections.{Reading, States, Value, same_place, is_stated, value_of, value_in}

abbrev pub slot_for : Place → Bor (List ℕ) → Slot
slot_for place name = record { place = place; name = name; found = None }

-- the slot after this setting, which fills it where it is for it
abbrev pub put : Place → ℕ → Assignment → Slot → Slot
put place line setting slot =
    if same_place place slot.place && bytes_eq setting.name.now slot.name.now
    then record { place = slot.place; name = slot.name; found = Some (record { line = line; text = setting.value }) }
    else slot

-- a slot without references
pub record Filled : Type 0 where
  pub place : Place
  pub name : List ℕ
  pub found : Option Value

abbrev pub found_shown : Found → Value
found_shown found = record { line = found.line; text = found.text.now }

abbrev pub slot_shown : Slot → Filled
slot_shown slot = record { place = slot.place; name = slot.name.now; found = option_map found_shown slot.found }

-- a slot in which no value is yet
abbrev pub empty_slot : Place → List ℕ → Filled
empty_slot place name = record { place = place; name = name; found = None }

-- the slots of a config section
abbrev pub config_slots : List Filled
config_slots =
    empty_slot place.Section (codes "region")
    ∷ empty_slot place.Section (codes "max_attempts")
    ∷ empty_slot place.S3 (codes "max_concurrent_requests")
    ∷ empty_slot place.S3 (codes "max_queue_size")
    ∷ empty_slot place.S3 (codes "multipart_threshold")
    ∷ empty_slot place.S3 (codes "multipart_chunksize")
    ∷ empty_slot place.S3 (codes "part_buffers")
    ∷ []

-- the slots of a credentials section
abbrev pub key_slots : List Filled
key_slots =
    empty_slot place.Section (codes "aws_access_key_id")
    ∷ empty_slot place.Section (codes "aws_secret_access_key")
    ∷ empty_slot place.Section (codes "aws_session_token")
    ∷ []

-- the slot after one line
abbrev pub taken : List ℕ → Reading → Filled → Filled
taken section (States stated) slot =
    if is_stated section slot.place slot.name stated
    then record { place = slot.place; name = slot.name; found = Some (value_of stated) } else slot
taken section other slot = slot

-- the slot after all lines
abbrev pub filled : List ℕ → List Reading → Filled → Filled
filled section found slot = record
    { place = slot.place; name = slot.name; found = option_or (value_in found section slot.place slot.name) slot.found }

-- the slots before and after one line
abbrev pub Takes : List ℕ → Reading → List Slot → List Slot → Type 0
Takes section reading before after = map slot_shown after ≡ map (taken section reading) (map slot_shown before)

-- the slots before and after these lines
abbrev pub Fills : List ℕ → List Reading → List Slot → List Slot → Type 0
Fills section found before after = map slot_shown after ≡ map (filled section found) (map slot_shown before)
