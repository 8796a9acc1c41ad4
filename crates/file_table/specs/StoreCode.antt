-- Codes of files and maps, by which they can be what contracts see of a struct.
use Rattle.std.specs.Prelude.{ℕ, List, refl}
use Rattle.std.specs.Coded.{Coded, code_by, coded×, coded_ℕ, coded_list}
use Rattle.std.specs.FinMap.{code}
use Rattle.s3_model.specs.Files.{FileStore, HeldFile}
use Rattle.s3_model.specs.Maps.{MapOf}

abbrev pub text_code : Coded (List ℕ)
text_code = coded_list coded_ℕ

abbrev pub map_code : {V : Type 0} → Coded V → Coded (MapOf V)
map_code value = code text_code value

abbrev pub file_code : Coded HeldFile
file_code = code_by (List ℕ × ℕ) (coded× text_code coded_ℕ) (λ f. (f.bytes, f.micros))
    (λ p. record { bytes = p.0; micros = p.1 }) (λ _. refl)

abbrev pub store_code : Coded FileStore
store_code = code_by (MapOf HeldFile × (List (List ℕ) × (List (List ℕ) × MapOf ℕ)))
    (coded× (map_code file_code) (coded× (coded_list text_code) (coded× (coded_list text_code) (map_code coded_ℕ))))
    (λ s. (s.held, (s.empty_folders, (s.others, s.unnamed))))
    (λ p. record { held = p.0; empty_folders = p.1.0; others = p.1.1.0; unnamed = p.1.1.1 })
    (λ _. refl)
