-- What a file says, line by line.
use Rattle.std.proofs.Common.{◌≡◌, ◌+◌, ◌||◌, ℕ, Bool, true, false, cond, List, [], ◌∷◌, Option, Some, None, map, refl, ap, option_map}
use Rattle.std.specs.Option.{option_or}
use Rattle.std.proofs.lemmas.Bool.{cond-true, cond-false}
use Rattle.aws_profile.specs.Lines.{kind_of}
use Rattle.aws_profile.specs.Sections.{Reading, Nothing, Wrong, States, Stated, Value, Above, above_next, first_wrong, has_section, is_section_line, is_stated, is_wrong, last_that, reading_of, readings_from, stated_in, value_of}
use Rattle.aws_profile.specs.Slots.{Filled, Takes, filled, slot_shown, taken}
use Rattle.aws_profile.specs.declared.slots.Slot.{Slot}
use Rattle.aws_profile.proofs.SlotLemmas.{map_same}
use Rattle.shared_lemmas.proofs.Options.{or_none}

-- a later value stands before an earlier one
last_or : (later : Option Stated) (stated : Stated) (before : Option Value) → option_or (option_map value_of (option_or later (Some stated))) before ≡ option_or (option_map value_of later) (Some (value_of stated))
last_or None stated before = refl
last_or (Some other) stated before = refl

abbrev last_for : List ℕ → List Reading → Filled → Option Stated
last_for section found slot = last_that (is_stated section slot.place slot.name) (stated_in found)

abbrev with_value : Filled → Value → Filled
with_value slot value = record { place = slot.place; name = slot.name; found = Some value }

filled_by : (section : List ℕ) (found : List Reading) (slot : Filled) (stated : Stated) (here : Bool)
    → record slot { found = option_or (option_map value_of (option_or (last_for section found slot) (cond here (Some stated) None))) slot.found } ≡ filled section found (cond here (with_value slot (value_of stated)) slot)
filled_by section found slot stated true = ap (λ value. record slot { found = value }) (last_or (last_for section found slot) stated slot.found)
filled_by section found slot stated false = ap (λ later. record slot { found = option_or (option_map value_of later) slot.found }) (or_none (last_for section found slot))

-- one line more in front
filled-more : (section : List ℕ) (reading : Reading) (found : List Reading) (slot : Filled) → filled section (reading ∷ found) slot ≡ filled section found (taken section reading slot)
filled-more section Nothing found slot = refl
filled-more section Wrong found slot = refl
filled-more section (States stated) found slot = filled_by section found slot stated (is_stated section slot.place slot.name stated)

map_twice : {X Y Z : Type 0} (f : X → Z) (g : Y → Z) (h : X → Y) → ((x : X) → f x ≡ g (h x)) → (xs : List X) → map f xs ≡ map g (map h xs)
map_twice f g h same [] = refl
map_twice f g h same (x ∷ xs) = let here = same x in let rest = map_twice f g h same xs in cc

or_assoc : (a b c : Bool) → (a || (b || c)) ≡ ((a || b) || c)
or_assoc true b c = refl
or_assoc false b c = refl

module _ (line : ℕ) (above next : Above) (text : List ℕ) (before after : List (List ℕ)) (more : before ≡ text ∷ after) where
  pub wrong_more : next ≡ above_next above (kind_of text) → is_wrong (reading_of line above (kind_of text)) ≡ false
      → first_wrong line (readings_from line above before) ≡ first_wrong (line + 1) (readings_from (line + 1) next after)
  wrong_more e right = rw (more, e) (cond-false _ _ _ right)

  pub wrong_here : is_wrong (reading_of line above (kind_of text)) ≡ true → first_wrong line (readings_from line above before) ≡ Some line
  wrong_here wrong = rw more (cond-true _ _ _ wrong)

  pub has_more : (section : List ℕ) (seen : Bool) → (seen || has_section section before) ≡ ((seen || is_section_line section (kind_of text)) || has_section section after)
  has_more section seen = rw more (or_assoc seen _ _)

  pub slots_more : (section : List ℕ) (old new : List Slot) → next ≡ above_next above (kind_of text) → Takes section (reading_of line above (kind_of text)) old new
      → map (filled section (readings_from line above before)) (map slot_shown old) ≡ map (filled section (readings_from (line + 1) next after)) (map slot_shown new)
  slots_more section old new e takes = rw (more, e, takes) (map_twice _ _ _ (filled-more section (reading_of line above (kind_of text)) (readings_from (line + 1) (above_next above (kind_of text)) after)) (map slot_shown old))

-- no line fills no slot
pub filled_none : (section : List ℕ) (slots : List Filled) → map (filled section []) slots ≡ slots
filled_none section slots = map_same (filled section []) (λ slot. refl) slots
