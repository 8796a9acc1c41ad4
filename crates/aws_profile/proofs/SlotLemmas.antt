-- What slots take from the lines of a file.
use Rattle.std.proofs.Common.{◌≡◌, ◌∙◌, ◌&&◌, Bool, true, false, cond, ℕ, List, [], ◌∷◌, map, refl, sym}
use Rattle.std.specs.Str.{bytes_eq}
use Rattle.std.proofs.lemmas.Bool.{and_left, cond-false}
use Rattle.aws_profile.specs.declared.kinds.Assignment as code
use Rattle.aws_profile.specs.declared.slots.Place.{Place}
use Rattle.aws_profile.specs.declared.slots.Slot.{Slot}
use Rattle.aws_profile.specs.Lines.{Assignment}
use Rattle.aws_profile.specs.Sections.{Reading, Nothing, states, same_place}
use Rattle.aws_profile.specs.Shown.{assignment_shown}
use Rattle.aws_profile.specs.Slots.{put, slot_shown, Filled, taken, Takes}

map_shown : {X Y : Type 0} (shown : X → Y) (f : X → X) (g : Y → Y) → ((x : X) → shown (f x) ≡ g (shown x)) → (xs : List X) → map shown (map f xs) ≡ map g (map shown xs)
map_shown shown f g same [] = refl
map_shown shown f g same (x ∷ xs) = let here = same x in let rest = map_shown shown f g same xs in cc

pub map_same : {X : Type 0} (f : X → X) → ((x : X) → f x ≡ x) → (xs : List X) → map f xs ≡ xs
map_same f same [] = refl
map_same f same (x ∷ xs) = let here = same x in let rest = map_same f same xs in cc

shown_cond : (t : Bool) (x y : Slot) → slot_shown (cond t x y) ≡ cond t (slot_shown x) (slot_shown y)
shown_cond true x y = refl
shown_cond false x y = refl

same_test : (inside right : Bool) (x y z : Bool) (a b : Filled) → inside ≡ true → cond (x && y) a b ≡ cond (inside && x && y) a b
same_test inside right x y z a b e = rw e refl

shown_put : (name section : List ℕ) (place : Place) (line : ℕ) (setting : code.Assignment) → bytes_eq section name ≡ true → (slot : Slot)
    → slot_shown (put place line setting slot) ≡ taken name (states line section place (assignment_shown setting)) (slot_shown slot)
shown_put name section place line setting e slot =
    shown_cond (same_place place slot.place && bytes_eq setting.name.now slot.name.now) _ slot ∙ rw e refl

-- a setting of the section is taken by the slots that are for it
pub Takes-put : (name section : List ℕ) (place : Place) (line : ℕ) (setting : code.Assignment) → bytes_eq section name ≡ true → (slots : List Slot)
    → Takes name (states line section place (assignment_shown setting)) slots (map (put place line setting) slots)
Takes-put name section place line setting e slots = map_shown slot_shown (put place line setting) _ (shown_put name section place line setting e) slots

-- a setting of another section is not
pub Takes-other : (name section : List ℕ) (place : Place) (line : ℕ) (assigned : Assignment) → bytes_eq section name ≡ false → (slots : List Slot)
    → Takes name (states line section place assigned) slots slots
Takes-other name section place line assigned e slots = sym (map_same (taken name (states line section place assigned)) (λ slot. cond-false _ _ _ (and_left _ _ (and_left _ _ e))) (map slot_shown slots))

-- nor does a line that says nothing change a slot
pub Takes-nothing : (name : List ℕ) (reading : Reading) (slots : List Slot) → reading ≡ Nothing → Takes name reading slots slots
Takes-nothing name reading slots e = rw e (sym (map_same (taken name Nothing) (λ slot. refl) (map slot_shown slots)))
