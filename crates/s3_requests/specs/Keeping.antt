-- Signing keys that are kept.
use Rattle.std.specs.Prelude.{◌≡◌, ℕ, List}
use Rattle.s3_model.specs.declared.settings.Keys.{Keys}
use Rattle.s3_requests.specs.declared.head.Key.{Key}
use Rattle.s3_signing.specs.Signing.{signing_key}
use Rattle.s3_model.specs.CivilTimes.{civil_day}
use Rattle.s3_signing.specs.Times.{basic_date, date_text}

-- the key is the signing key of the moment's date
abbrev pub IsKey : Key → Type 0
IsKey k = k.key.now ≡ signing_key k.keys.now.secret (basic_date k.moment) k.keys.now.region

-- the key is the signing key of a day, which is counted from 1 January 1970
abbrev pub IsDayKey : Keys → ℕ → List ℕ → Type 0
IsDayKey keys day key = key ≡ signing_key keys.secret (date_text (civil_day day)) keys.region
