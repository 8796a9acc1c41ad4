-- What the values of options have to be.
use Rattle.std.specs.Prelude.{◌&&◌, ◌||◌, ◌==◌, ℕ, Bool, true, false, not, List, Option, Some, None, is_some, length}
use Rattle.std.specs.Prelude.{nat_lt, nat_le, option_map, if◌then◌else◌}
use Rattle.std.specs.Char.{is_ascii_alphanumeric}
use Rattle.std.specs.List.{list_all}
use Rattle.std.specs.Str.{all_ascii_digits}
use Rattle.std.specs.Str.Parse.{digits_value}
use Rattle.s3_model.specs.declared.faults.WordFault.{WordFault}
use Rattle.s3_model.specs.declared.faults.WordFault.TheVariants.{BadValue, Endpoint}
use Rattle.s3_paths.specs.Endpoints.{endpoint_fault}
use Rattle.s3_words.specs.declared.options.ValueKind.{ValueKind}
use Rattle.s3_words.specs.declared.options.ValueKind.TheVariants.{NoValue, Url, RegionName, ProfileName, MediaType}
use Rattle.s3_words.specs.declared.options.ValueKind.TheVariants.{Seconds}

abbrev pub is_empty : List ℕ → Bool
is_empty text = length text == 0

-- letters, digits and `-`
abbrev pub is_region_byte : ℕ → Bool
is_region_byte byte = is_ascii_alphanumeric byte || byte == 45

abbrev pub is_region : List ℕ → Bool
is_region text = not (is_empty text) && list_all is_region_byte text

-- 0x20 to 0x7E
abbrev pub is_printable : ℕ → Bool
is_printable byte = nat_le 32 byte && nat_le byte 126

abbrev pub is_media_type : List ℕ → Bool
is_media_type text = not (is_empty text) && list_all is_printable text

-- decimal digits that write 1 to 604,800, which is a week; zeros may come first
abbrev pub seconds : List ℕ → Option ℕ
seconds text =
    if all_ascii_digits text && nat_lt 0 (digits_value 10 text) && nat_lt (digits_value 10 text) 604801
    then Some (digits_value 10 text) else None

abbrev pub bad_unless : Bool → ℕ → Option WordFault
bad_unless fits at = if fits then None else Some (BadValue at)

-- A flag takes no value, and a pattern is any text. A URL has faults of its own, which `value_fault` names.
abbrev pub fits : ValueKind → List ℕ → Bool
fits NoValue text = false
fits RegionName text = is_region text
fits ProfileName text = not (is_empty text)
fits MediaType text = is_media_type text
fits Seconds text = is_some (seconds text)
fits kind text = true

-- what is wrong with the value in the word at this index
abbrev pub value_fault : ValueKind → ℕ → List ℕ → Option WordFault
value_fault Url at text = option_map (Endpoint at) (endpoint_fault text)
value_fault kind at text = bad_unless (fits kind text) at
