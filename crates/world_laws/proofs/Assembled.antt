-- An upload that has each part under its ETag can be completed.
use Rattle.std.proofs.Common.{◌≡◌, ◌∙◌, ◌+◌, ◌<◌, ◌≤◌, ℕ, suc, List, [], ◌∷◌, Some, refl, ap, subst, length, slice_get, arith}
use Rattle.std.specs.FinMap.{get}
use Rattle.s3_model.specs.declared.settings.Limits.{Limits}
use Rattle.s3_service.specs.ServiceState.{Upload, StoredPart}
use Rattle.s3_service.specs.Serves.{AllButLastHave, Assembles, Completes}
use Rattle.world_laws.proofs.Multipart.{ArePiecesFrom}

module _ (Is : ℕ → List ℕ → Type 0) (upload : Upload) where
  -- that part is there, under that ETag
  abbrev pub HasPartAt : ℕ → List ℕ → Type 0
  HasPartAt number etag = (part : StoredPart) × (get upload.parts number ≡ Some part) × (part.etag ≡ etag) × Is number part.bytes

  record IsAssembled (at : ℕ) (etags : List (List ℕ)) : Type 0 where
    pieces : List (List ℕ)
    assembles : Assembles upload at etags pieces
    counted : length pieces ≡ length etags
    are : ArePiecesFrom Is at pieces

  assembled : (at : ℕ) (etags : List (List ℕ)) → ((i : ℕ) (etag : List ℕ) → slice_get etags i ≡ Some etag → HasPartAt (at + i) etag) → IsAssembled at etags
  assembled at [] all = record { pieces = []; assembles = refl; counted = refl; are = tt }
  assembled at (etag ∷ etags) all =
      let none : at + 0 ≡ at = omega arith in
      let first : HasPartAt at etag = subst (λ (k : ℕ). HasPartAt k etag) none (all 0 etag refl) in
      let rest = assembled (at + 1) etags (λ i e is. let on : at + suc i ≡ at + 1 + i = omega arith in subst (λ (k : ℕ). HasPartAt k e) on (all (suc i) e is)) in
      record {
        pieces = first.0.bytes ∷ rest.pieces;
        assembles = (first.1 ∙ ap (λ (e : List ℕ). Some (record { bytes = first.0.bytes; etag = e })) first.2, rest.assembles);
        counted = ap suc rest.counted;
        are = (first.3, rest.are);
      }

-- each piece before the last one is long enough
abbrev pub IsLong : ℕ → ℕ → ℕ → List ℕ → Type 0
IsLong least count number bytes = 1 ≤ number → number < count → least ≤ length bytes

all_but_last : (least count at : ℕ) (pieces : List (List ℕ)) → 1 ≤ at → at + length pieces ≡ count + 1 → ArePiecesFrom (IsLong least count) at pieces → AllButLastHave least pieces
all_but_last least count at [] low up_to are = tt
all_but_last least count at (piece ∷ []) low up_to are = tt
all_but_last least count at (piece ∷ next ∷ pieces) low up_to are = (are.0 low (omega arith), all_but_last least count (at + 1) (next ∷ pieces) (omega arith) (omega arith) are.1)

pub completes_by : (limits : Limits) (count : ℕ) (upload : Upload) (etags : List (List ℕ)) → length etags ≡ count → 1 ≤ count
    → ((i : ℕ) (etag : List ℕ) → slice_get etags i ≡ Some etag → HasPartAt (IsLong limits.min_part count) upload (1 + i) etag) → (whole : List ℕ) × Completes limits upload etags whole
completes_by limits count upload etags counted some all =
    let made = assembled (IsLong limits.min_part count) upload 1 etags all in
    let many = made.counted in
    (_, (made.pieces, made.assembles, all_but_last limits.min_part count 1 made.pieces (omega arith) (omega arith) made.are, omega arith, refl))
