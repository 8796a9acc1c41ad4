-- Codes of what a service holds, by which it can be what contracts see of a struct.
use Rattle.std.specs.Prelude.{◌≡◌, ℕ, List, Option, refl}
use Rattle.std.specs.Coded.{Coded, code_by, coded×, coded_ℕ, coded_list, coded_option}
use Rattle.std.specs.FinMap.{FinMap, code}
use Rattle.std.specs.Ordering.{nat_cmp}
use Rattle.s3_model.specs.Maps.{MapOf}
use Rattle.file_table.specs.StoreCode.{text_code, map_code}
use Rattle.s3_service.specs.ServiceState.{State, Object, StoredPart, Upload, Ended, CompletedBy, Aborted}
use Rattle.object_table.specs.Endings.{ended_of, etags_of}

abbrev pub object_code : Coded Object
object_code = code_by (List ℕ × (List ℕ × ℕ)) (coded× text_code (coded× text_code coded_ℕ))
    (λ o. (o.bytes, (o.etag, o.micros))) (λ p. record { bytes = p.0; etag = p.1.0; micros = p.1.1 }) (λ _. refl)

abbrev pub part_code : Coded StoredPart
part_code = code_by (List ℕ × List ℕ) (coded× text_code text_code)
    (λ o. (o.bytes, o.etag)) (λ p. record { bytes = p.0; etag = p.1 }) (λ _. refl)

abbrev pub parts_code : Coded (FinMap nat_cmp StoredPart)
parts_code = code coded_ℕ part_code

abbrev pub upload_code : Coded Upload
upload_code = code_by (List ℕ × (List ℕ × FinMap nat_cmp StoredPart)) (coded× text_code (coded× text_code parts_code))
    (λ u. (u.bucket, (u.key, u.parts))) (λ p. record { bucket = p.0; key = p.1.0; parts = p.1.1 }) (λ _. refl)

pub ended_again : (e : Ended) → ended_of (etags_of e) ≡ e
ended_again (CompletedBy etags) = refl
ended_again Aborted = refl

abbrev pub ended_code : Coded Ended
ended_code = code_by (Option (List (List ℕ))) (coded_option (coded_list text_code)) etags_of ended_of ended_again

abbrev pub state_code : Coded State
state_code = code_by (MapOf (MapOf Object) × (MapOf Upload × (MapOf Ended × MapOf (List ℕ))))
    (coded× (map_code (map_code object_code)) (coded× (map_code upload_code) (coded× (map_code ended_code)
    (map_code text_code))))
    (λ s. (s.objects, (s.uploads, (s.ended, s.tokens))))
    (λ p. record { objects = p.0; uploads = p.1.0; ended = p.1.1.0; tokens = p.1.1.1 })
    (λ _. refl)
