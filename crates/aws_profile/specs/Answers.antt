-- The settings of a run, as a function of the environment's words and the two files.
use Rattle.std.specs.Prelude.{◌^◌, ◌==◌, ◌||◌, ◌++◌, ℕ, Bool, true, false, List, [], ◌∷◌, Option, Some, None, Result}
use Rattle.std.specs.Prelude.{Ok, Err, length, codes, nat_lt, fold, is_some, option_map, if◌then◌else◌}
use Rattle.std.specs.Option.{option_or}
use Rattle.std.specs.Str.{bytes_eq}
use Rattle.std.specs.Str.Lines.{lines}
use Rattle.s3_model.specs.declared.settings.Config.{Config}
use Rattle.s3_model.specs.declared.settings.EnvWords.{EnvWords}
use Rattle.s3_model.specs.declared.settings.Keys.{Keys}
use Rattle.s3_model.specs.declared.settings.Settings.{Settings}
use Rattle.s3_model.specs.declared.faults.ProfileFault.{ProfileFault}
use Rattle.s3_model.specs.declared.faults.ProfileFault.TheVariants.{NoKeys, NoRegion, NoProfile, BadLine, BadSetting}
use Rattle.aws_profile.specs.declared.amounts.Unit.{Unit}
use Rattle.aws_profile.specs.declared.amounts.Unit.TheVariants as unit
use Rattle.aws_profile.specs.declared.slots.Place.TheVariants as place
use Rattle.aws_profile.specs.Sections.{Reading, Value, readings, bad_line, has_section, value_in}
use Rattle.aws_profile.specs.Values.{usable, amount, amount_or}

-- an empty name counts as none
abbrev pub profile_named : Option (List ℕ) → List ℕ
profile_named None = codes "default"
profile_named (Some name) = if length name == 0 then codes "default" else name

abbrev pub profile_of : EnvWords → List ℕ
profile_of words = profile_named words.profile

-- the config file's section of a profile; the credentials file's has the profile's own name
abbrev pub config_section : List ℕ → List ℕ
config_section profile = if bytes_eq profile (codes "default") then profile else codes "profile " ++ profile

abbrev pub text_of : Option Value → Option (List ℕ)
text_of value = option_map (λ (v : Value). v.text) value

-- an amount that is out of its form, by its line and name
pub record Misread : Type 0 where
  pub line : ℕ
  pub name : List ℕ

abbrev pub misread_unless : Bool → ℕ → List ℕ → Option Misread
misread_unless true line name = None
misread_unless false line name = Some (record { line = line; name = name })

abbrev pub misread : List ℕ → Unit → ℕ → Option Value → Option Misread
misread name measure most None = None
misread name measure most (Some value) = misread_unless (is_some (amount measure most value.text)) value.line name

abbrev pub earlier : Option Misread → Option Misread → Option Misread
earlier None other = other
earlier (Some first) None = Some first
earlier (Some first) (Some other) = if nat_lt other.line first.line then Some other else Some first

-- the values of a section that make the configuration
pub record ConfigValues : Type 0 where
  pub region : Option Value
  pub attempts : Option Value
  pub lanes : Option Value
  pub queue : Option Value
  pub threshold : Option Value
  pub chunk : Option Value
  pub buffers : Option Value

abbrev pub config_values : List Reading → List ℕ → ConfigValues
config_values found section = record {
  region = value_in found section place.Section (codes "region");
  attempts = value_in found section place.Section (codes "max_attempts");
  lanes = value_in found section place.S3 (codes "max_concurrent_requests");
  queue = value_in found section place.S3 (codes "max_queue_size");
  threshold = value_in found section place.S3 (codes "multipart_threshold");
  chunk = value_in found section place.S3 (codes "multipart_chunksize");
  buffers = value_in found section place.S3 (codes "part_buffers");
}

-- sizes in bytes: 8 MiB for both where they are absent
abbrev pub config_of : ConfigValues → Config
config_of values = record {
  threshold = amount_or 8388608 unit.Bytes (2 ^ 30) values.threshold;
  chunk = amount_or 8388608 unit.Bytes (2 ^ 30) values.chunk;
  lanes = amount_or 10 unit.Count 1000 values.lanes;
  queue = amount_or 1000 unit.Count 100000 values.queue;
  buffers = amount_or 10 unit.Count 64 values.buffers;
  attempts = amount_or 3 unit.Count 10 values.attempts;
}

-- of the values that are out of their form, the one of the first line
abbrev pub first_misread : ConfigValues → Option Misread
first_misread values = fold earlier None (
    misread (codes "max_attempts") unit.Count 10 values.attempts
    ∷ misread (codes "max_concurrent_requests") unit.Count 1000 values.lanes
    ∷ misread (codes "max_queue_size") unit.Count 100000 values.queue
    ∷ misread (codes "multipart_threshold") unit.Bytes (2 ^ 30) values.threshold
    ∷ misread (codes "multipart_chunksize") unit.Bytes (2 ^ 30) values.chunk
    ∷ misread (codes "part_buffers") unit.Count 64 values.buffers
    ∷ [])

-- an access key: its id and secret, with a session token where there is one
pub record AccessKey : Type 0 where
  pub id : List ℕ
  pub secret : List ℕ
  pub token : Option (List ℕ)

abbrev pub access_key : Option (List ℕ) → Option (List ℕ) → Option (List ℕ) → Option AccessKey
access_key (Some id) (Some secret) token = Some (record { id = id; secret = secret; token = token })
access_key id secret token = None

-- the key of the variables, but where the command line named the profile
abbrev pub key_of_words : EnvWords → Option AccessKey
key_of_words words =
    if words.named then None else access_key (usable words.id) (usable words.secret) (usable words.token)

-- the values of a section that make an access key
pub record KeyValues : Type 0 where
  pub id : Option Value
  pub secret : Option Value
  pub token : Option Value

abbrev pub key_values : List Reading → List ℕ → KeyValues
key_values found section = record {
  id = value_in found section place.Section (codes "aws_access_key_id");
  secret = value_in found section place.Section (codes "aws_secret_access_key");
  token = value_in found section place.Section (codes "aws_session_token");
}

abbrev pub key_of_values : KeyValues → Option AccessKey
key_of_values values =
    access_key (usable (text_of values.id)) (usable (text_of values.secret)) (usable (text_of values.token))

-- the variables first, whole, then the file, whole
abbrev pub key_from : EnvWords → KeyValues → Option AccessKey
key_from words values = option_or (key_of_words words) (key_of_values values)

abbrev pub region_from : EnvWords → ConfigValues → Option (List ℕ)
region_from words values = option_or (usable words.region) (usable (text_of values.region))

abbrev pub line_fault : Bool → Option ℕ → Option ProfileFault
line_fault credentials line = option_map (BadLine credentials) line

-- another profile than `default` has to stand in one of the files
abbrev pub is_known_profile : List ℕ → List ℕ → List ℕ → Bool
is_known_profile profile config credentials =
    bytes_eq profile (codes "default") || has_section (config_section profile) (lines config)
    || has_section profile (lines credentials)

abbrev pub profile_fault : Bool → List ℕ → Option ProfileFault
profile_fault known profile = if known then None else Some (NoProfile profile)

abbrev pub setting_fault : Option Misread → Option ProfileFault
setting_fault None = None
setting_fault (Some bad) = Some (BadSetting bad.line bad.name)

abbrev pub keys_made : AccessKey → List ℕ → Keys
keys_made key region = record { id = key.id; secret = key.secret; token = key.token; region = region }

-- the settings, where nothing is missing
abbrev pub settings_by : Option AccessKey → Option (List ℕ) → Config → Result Settings ProfileFault
settings_by None region config = Err NoKeys
settings_by (Some key) None config = Err NoRegion
settings_by (Some key) (Some region) config = Ok (record { keys = keys_made key region; config = config })

abbrev pub unless : Option ProfileFault → Result Settings ProfileFault → Result Settings ProfileFault
unless None settings = settings
unless (Some fault) settings = Err fault

-- The first of the faults, in this order: a bad line of the config file, one of the credentials file, an unknown
-- profile, an amount out of its form, no key, no region. Without one, the settings.
abbrev pub answer_by : Option ℕ → Option ℕ → Bool → List ℕ → Option Misread → Option AccessKey → Option (List ℕ)
    → Config → Result Settings ProfileFault
answer_by bad_config bad_credentials known profile bad key region config =
    unless (line_fault false bad_config)
    (unless (line_fault true bad_credentials)
    (unless (profile_fault known profile)
    (unless (setting_fault bad)
    (settings_by key region config))))

-- the same, where these are the profile and its values
abbrev pub answer_of : EnvWords → List ℕ → List ℕ → List ℕ → ConfigValues → KeyValues → Result Settings ProfileFault
answer_of words config credentials profile values keys =
    answer_by (bad_line config) (bad_line credentials) (is_known_profile profile config credentials) profile
    (first_misread values) (key_from words keys) (region_from words values) (config_of values)

abbrev pub answer : EnvWords → List ℕ → List ℕ → Result Settings ProfileFault
answer words config credentials =
    answer_of words config credentials (profile_of words)
    (config_values (readings config) (config_section (profile_of words)))
    (key_values (readings credentials) (profile_of words))
