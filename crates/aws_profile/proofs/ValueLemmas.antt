-- The values that were read into slots.
use Rattle.std.proofs.Common.{◌≡◌, ◌∙◌, ℕ, Bool, List, Option, get_or, map, sym, ap}
use Rattle.std.proofs.Math.ListN.{get_or-map}
use Rattle.aws_profile.specs.declared.slots.Slot.{Slot}
use Rattle.aws_profile.specs.Answers.{ConfigValues, KeyValues, config_values, key_values}
use Rattle.aws_profile.specs.Sections.{Reading, Value}
use Rattle.aws_profile.specs.ShownValues.{config_shown, keys_shown, value_shown}
use Rattle.aws_profile.specs.Slots.{Filled, Fills, config_slots, filled, key_slots, slot_shown}
use Rattle.shared_lemmas.proofs.Options.{or_none}

-- what the slot of a place has, where these are the slots after all lines
slot_at : (after : List Slot) (slots : List Filled) (k : ℕ) (d : Slot) → map slot_shown after ≡ slots → value_shown (get_or after k d).found ≡ (get_or slots k (slot_shown d)).found
slot_at after slots k d e = ap (λ (f : Filled). f.found) (sym (get_or-map slot_shown after k d) ∙ ap (λ fs. get_or fs k (slot_shown d)) e)

abbrev keys_made : Option Value → Option Value → Option Value → KeyValues
keys_made id secret token = record { id = id; secret = secret; token = token }

same_keys : (a b : KeyValues) → a.id ≡ b.id → a.secret ≡ b.secret → a.token ≡ b.token → a ≡ b
same_keys a b id secret token =
    ap (λ v. keys_made v a.secret a.token) id ∙ ap (λ v. keys_made b.id v a.token) secret ∙ ap (λ v. keys_made b.id b.secret v) token

abbrev config_made : Option Value → Option Value → Option Value → Option Value → Option Value → Option Value → Option Value → ConfigValues
config_made region attempts lanes queue threshold chunk buffers = record {
  region = region;
  attempts = attempts;
  lanes = lanes;
  queue = queue;
  threshold = threshold;
  chunk = chunk;
  buffers = buffers;
}

same_config : (a b : ConfigValues) → a.region ≡ b.region → a.attempts ≡ b.attempts → a.lanes ≡ b.lanes → a.queue ≡ b.queue → a.threshold ≡ b.threshold → a.chunk ≡ b.chunk → a.buffers ≡ b.buffers → a ≡ b
same_config a b region attempts lanes queue threshold chunk buffers =
    ap (λ v. config_made v a.attempts a.lanes a.queue a.threshold a.chunk a.buffers) region
    ∙ ap (λ v. config_made b.region v a.lanes a.queue a.threshold a.chunk a.buffers) attempts
    ∙ ap (λ v. config_made b.region b.attempts v a.queue a.threshold a.chunk a.buffers) lanes
    ∙ ap (λ v. config_made b.region b.attempts b.lanes v a.threshold a.chunk a.buffers) queue
    ∙ ap (λ v. config_made b.region b.attempts b.lanes b.queue v a.chunk a.buffers) threshold
    ∙ ap (λ v. config_made b.region b.attempts b.lanes b.queue b.threshold v a.buffers) chunk
    ∙ ap (λ v. config_made b.region b.attempts b.lanes b.queue b.threshold b.chunk v) buffers

-- the values of the slots of a config section
pub config_read : (section : List ℕ) (found : List Reading) (has_section : Bool) (before after : List Slot) (d : Slot) → map slot_shown before ≡ config_slots → Fills section found before after
    → config_shown (record {
      has_section = has_section;
      region = (get_or after 0 d).found;
      attempts = (get_or after 1 d).found;
      lanes = (get_or after 2 d).found;
      queue = (get_or after 3 d).found;
      threshold = (get_or after 4 d).found;
      chunk = (get_or after 5 d).found;
      buffers = (get_or after 6 d).found;
    }) ≡ config_values found section
config_read section found has_section before after d none fills =
    let slots = map (filled section found) config_slots in
    let e : map slot_shown after ≡ slots = fills ∙ ap (map (filled section found)) none in
    same_config _ _ (slot_at after slots 0 d e ∙ or_none _) (slot_at after slots 1 d e ∙ or_none _) (slot_at after slots 2 d e ∙ or_none _)
    (slot_at after slots 3 d e ∙ or_none _) (slot_at after slots 4 d e ∙ or_none _) (slot_at after slots 5 d e ∙ or_none _) (slot_at after slots 6 d e ∙ or_none _)

-- the values of the slots of a credentials section
pub keys_read : (section : List ℕ) (found : List Reading) (has_section : Bool) (before after : List Slot) (d : Slot) → map slot_shown before ≡ key_slots → Fills section found before after
    → keys_shown (record {
      has_section = has_section;
      id = (get_or after 0 d).found;
      secret = (get_or after 1 d).found;
      token = (get_or after 2 d).found;
    }) ≡ key_values found section
keys_read section found has_section before after d none fills =
    let slots = map (filled section found) key_slots in
    let e : map slot_shown after ≡ slots = fills ∙ ap (map (filled section found)) none in
    same_keys _ _ (slot_at after slots 0 d e ∙ or_none _) (slot_at after slots 1 d e ∙ or_none _) (slot_at after slots 2 d e ∙ or_none _)
