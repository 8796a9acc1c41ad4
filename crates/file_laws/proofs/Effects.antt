-- What a call on files does at one path.
use Rattle.std.proofs.Common.{◌≡◌, ◌∙◌, ◌⊎◌, ℕ, true, false, List, [], Some, None, Ok, Err, refl, ap, subst, inl, inr}
use Rattle.std.specs.Cmp.Lexicographic.{nat_list_cmp_total}
use Rattle.std.specs.FinMap.{get, insert, remove}
use Rattle.s3_model.specs.Files.{HeldFile}
use Rattle.s3_model.specs.Maps.{MapOf}
use Rattle.local_files.specs.Calls.{Call, DropTemp, IsTempFor, Leads, MakeTemp, Remove, Rename, Stamp, WriteAt, written_at}
use Rattle.shared_lemmas.proofs.Maps.{get-insert_other, get-insert_same, get-remove_other, get-remove_same, text_decided, text_exact}

-- the call neither makes nor changes the file there, nor is it a drop of it
abbrev pub Spares : List ℕ → Call → Type 0
Spares p (MakeTemp dest (Ok temp)) = temp ≡ p → ⊥
Spares p (WriteAt temp at bytes fine) = temp ≡ p → ⊥
Spares p (Rename temp dest None) = (temp ≡ p → ⊥) × (dest ≡ p → ⊥)
Spares p (DropTemp temp fine) = temp ≡ p → ⊥
Spares p (Remove path true) = path ≡ p → ⊥
Spares p (Stamp path micros true) = path ≡ p → ⊥
Spares p call = Unit {0}

pub data Effect (p : List ℕ) (call : Call) (old new : MapOf HeldFile) : Type 0 where
  stays : Spares p call → get new p ≡ get old p → Effect p call old new
  makes : (dest : List ℕ) → call ≡ MakeTemp dest (Ok p) → IsTempFor dest p → get old p ≡ None → (micros : ℕ) → get new p ≡ Some (record { bytes = []; micros = micros }) → Effect p call old new
  writes : (at : ℕ) (bytes : List ℕ) → call ≡ WriteAt p at bytes true → (file : HeldFile) → get old p ≡ Some file → (micros : ℕ)
      → get new p ≡ Some (record { bytes = written_at at bytes file.bytes; micros = micros }) → Effect p call old new
  spoils : (at : ℕ) (bytes : List ℕ) → call ≡ WriteAt p at bytes false → (get new p ≡ get old p) ⊎ ((file : HeldFile) × (get new p ≡ Some file)) → Effect p call old new
  goes : (dest : List ℕ) → call ≡ Rename p dest None → (dest ≡ p → ⊥) → get new p ≡ None → Effect p call old new
  arrives : (temp : List ℕ) → call ≡ Rename temp p None → (file : HeldFile) → get old temp ≡ Some file → get new p ≡ Some file → Effect p call old new
  drops : call ≡ DropTemp p true → get new p ≡ None → Effect p call old new
  leaves : call ≡ DropTemp p false → get new p ≡ get old p → Effect p call old new
  removes : call ≡ Remove p true → get new p ≡ None → Effect p call old new
  stamps : (micros : ℕ) → call ≡ Stamp p micros true → (file : HeldFile) → get old p ≡ Some file → get new p ≡ Some (record file { micros = micros }) → Effect p call old new

pub inserted : (p : List ℕ) (file : HeldFile) (old new : MapOf HeldFile) → new ≡ insert old p file → get new p ≡ Some file
inserted p file old new e = ap (λ (m : MapOf HeldFile). get m p) e ∙ get-insert_same nat_list_cmp_total text_exact old p file

beside : (q p : List ℕ) (file : HeldFile) (old new : MapOf HeldFile) → (q ≡ p → ⊥) → new ≡ insert old q file → get new p ≡ get old p
beside q p file old new other e = ap (λ (m : MapOf HeldFile). get m p) e ∙ get-insert_other nat_list_cmp_total text_exact old q file p (λ same. other (sym_of same))
  where
    sym_of : p ≡ q → q ≡ p
    sym_of e = cc

removed : (p : List ℕ) (old new : MapOf HeldFile) → new ≡ remove old p → get new p ≡ None
removed p old new e = ap (λ (m : MapOf HeldFile). get m p) e ∙ get-remove_same nat_list_cmp_total text_exact old p

apart : (q p : List ℕ) (old new : MapOf HeldFile) → (q ≡ p → ⊥) → new ≡ remove old q → get new p ≡ get old p
apart q p old new other e = ap (λ (m : MapOf HeldFile). get m p) e ∙ get-remove_other nat_list_cmp_total text_exact old q p (λ same. other (sym_of same))
  where
    sym_of : p ≡ q → q ≡ p
    sym_of e = cc

all_stays : (p : List ℕ) (old new : MapOf HeldFile) → new ≡ old → get new p ≡ get old p
all_stays p old new e = ap (λ (m : MapOf HeldFile). get m p) e

-- at a path that is the call's own
moved : (F : List ℕ → Call) (q p : List ℕ) (old new : MapOf HeldFile) → q ≡ p → Leads (F q) old new → Leads (F p) old new
moved F q p old new same h = subst (λ (r : List ℕ). Leads (F r) old new) same h

pub effect : (p : List ℕ) (call : Call) (old new : MapOf HeldFile) → Leads call old new → Effect p call old new
effect p (MakeTemp dest (Ok temp)) old new h = elim (text_decided temp p) [
  | inr other ↦ stays other (beside temp p (record { bytes = []; micros = h.2.0 }) old new other h.2.1)
  | inl same ↦
      let g = moved (λ q. MakeTemp dest (Ok q)) temp p old new same h in
      makes dest (ap (λ (q : List ℕ). MakeTemp dest (Ok q)) same) g.0 g.1 g.2.0 (inserted p (record { bytes = []; micros = g.2.0 }) old new g.2.1)
]
effect p (MakeTemp dest (Err fault)) old new h = stays tt (all_stays p old new h)
effect p (WriteAt temp at bytes true) old new h = elim (text_decided temp p) [
  | inr other ↦ stays other (beside temp p (record { bytes = written_at at bytes h.0.bytes; micros = h.2.0 }) old new other h.2.1)
  | inl same ↦
      let g = moved (λ q. WriteAt q at bytes true) temp p old new same h in
      writes at bytes (ap (λ (q : List ℕ). WriteAt q at bytes true) same) g.0 g.1 g.2.0 (inserted p (record { bytes = written_at at bytes g.0.bytes; micros = g.2.0 }) old new g.2.1)
]
effect p (WriteAt temp at bytes false) old new h = elim (text_decided temp p) [
  | inr other ↦ stays other (spared other h)
  | inl same ↦ spoils at bytes (ap (λ (q : List ℕ). WriteAt q at bytes false) same) (spoiled (moved (λ q. WriteAt q at bytes false) temp p old new same h))
]
  where
    spared : (temp ≡ p → ⊥) → Leads (WriteAt temp at bytes false) old new → get new p ≡ get old p
    spared other (inl e) = all_stays p old new e
    spared other (inr g) = beside temp p (record { bytes = g.1; micros = g.2.0 }) old new other g.2.1

    spoiled : Leads (WriteAt p at bytes false) old new → (get new p ≡ get old p) ⊎ ((file : HeldFile) × (get new p ≡ Some file))
    spoiled (inl e) = inl (all_stays p old new e)
    spoiled (inr g) = inr (record { bytes = g.1; micros = g.2.0 }, inserted p (record { bytes = g.1; micros = g.2.0 }) old new g.2.1)
effect p (Rename temp dest (Some fault)) old new h = stays tt (all_stays p old new h)
effect p (Rename temp dest None) old new h = elim (text_decided dest p) [
  | inl same ↦
      let g = moved (λ q. Rename temp q None) dest p old new same h in
      arrives temp (ap (λ (q : List ℕ). Rename temp q None) same) g.0 g.1 (inserted p g.0 (remove old temp) new g.2)
  | inr other ↦ elim (text_decided temp p) [
    | inl same ↦
        let g = moved (λ q. Rename q dest None) temp p old new same h in
        goes dest (ap (λ (q : List ℕ). Rename q dest None) same) other (beside dest p g.0 (remove old p) new other g.2 ∙ removed p old (remove old p) refl)
    | inr third ↦ stays (third, other) (beside dest p h.0 (remove old temp) new other h.2 ∙ apart temp p old (remove old temp) third refl)
  ]
]
effect p (DropTemp temp true) old new h = elim (text_decided temp p) [
  | inr other ↦ stays other (apart temp p old new other h)
  | inl same ↦ drops (ap (λ (q : List ℕ). DropTemp q true) same) (removed p old new (moved (λ q. DropTemp q true) temp p old new same h))
]
effect p (DropTemp temp false) old new h = elim (text_decided temp p) [
  | inr other ↦ stays other (all_stays p old new h)
  | inl same ↦ leaves (ap (λ (q : List ℕ). DropTemp q false) same) (all_stays p old new h)
]
effect p (Remove path true) old new h = elim (text_decided path p) [
  | inr other ↦ stays other (apart path p old new other h)
  | inl same ↦ removes (ap (λ (q : List ℕ). Remove q true) same) (removed p old new (moved (λ q. Remove q true) path p old new same h))
]
effect p (Remove path false) old new h = stays tt (all_stays p old new h)
effect p (Stamp path micros true) old new h = elim (text_decided path p) [
  | inr other ↦ stays other (beside path p (record h.0 { micros = micros }) old new other h.2)
  | inl same ↦
      let g = moved (λ q. Stamp q micros true) path p old new same h in
      stamps micros (ap (λ (q : List ℕ). Stamp q micros true) same) g.0 g.1 (inserted p (record g.0 { micros = micros }) old new g.2)
]
effect p (Stamp path micros false) old new h = stays tt (all_stays p old new h)
