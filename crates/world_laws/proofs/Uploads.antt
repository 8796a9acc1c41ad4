-- What one request leaves of the uploads: one of four changes, or none.
use Rattle.std.proofs.Common.{subst, ◌≡◌, ◌∙◌, ◌⊎◌, ℕ, Bool, List, [], ◌∷◌, Option, Some, None, refl, sym, ap, inl, inr}
use Rattle.std.specs.Cmp.Lexicographic.{nat_list_cmp_total}
use Rattle.std.specs.FinMap.{get, insert, remove}
use Rattle.s3_model.specs.declared.requests.Ask.{Ask}
use Rattle.s3_model.specs.declared.requests.Ask.TheVariants as ask
use Rattle.s3_model.specs.declared.answers.Reply.{Reply}
use Rattle.s3_model.specs.declared.answers.Reply.TheVariants as reply
use Rattle.s3_model.specs.declared.settings.Limits.{Limits}
use Rattle.s3_model.specs.Maps.{MapOf}
use Rattle.s3_service.specs.ServiceState.{State, Object, Upload, StoredPart, Ended, CompletedBy, Aborted}
use Rattle.s3_service.specs.Listing.{Name, Remembers}
use Rattle.s3_service.specs.Serves.{Succeeds, IsOpen, IsUnused, IsThere, bytes_within, ExternalWrite, Writes, Removes, after_external}
use Rattle.world_laws.specs.Uploads.{IsFree}
use Rattle.shared_lemmas.proofs.Clashes.{some_is}
use Rattle.shared_lemmas.proofs.Maps.{get-insert_other, get-insert_same, get-remove_other, get-remove_same, not_both, nothing_is, text_decided, text_exact}

-- the request stores these bytes as that part
abbrev pub StoresPart : Ask → List ℕ → State → List ℕ → List ℕ → List ℕ → ℕ → List ℕ → Type 0
StoresPart asked body old bucket key id number bytes =
    ((asked ≡ ask.Part bucket key id number) × (bytes ≡ body))
    ⊎ ((from_bucket : List ℕ) × (from_key : List ℕ) × (under : List ℕ) × (range : ℕ × ℕ) × (source : Object) × (asked ≡ ask.PartCopy bucket key id number from_bucket from_key under range)
    × IsThere old from_bucket from_key under source × (bytes ≡ bytes_within range source.bytes))

-- the request ends the upload in that way
abbrev pub EndsUpload : Ask → List ℕ → List ℕ → List ℕ → Ended → Type 0
EndsUpload asked bucket key id (CompletedBy etags) = (spare : ℕ) × (fresh : Bool) × (asked ≡ ask.Complete bucket key id (record { items = etags; spare = spare }) fresh)
EndsUpload asked bucket key id Aborted = asked ≡ ask.Abort bucket key id

pub data Change (asked : Ask) (body : List ℕ) (answered : Reply) (old new : State) : Type 0 where
  none : new.uploads ≡ old.uploads → new.ended ≡ old.ended → Change asked body answered old new
  created : (bucket key : List ℕ) (content : Option (List ℕ)) (id : List ℕ) (upload : Upload) → asked ≡ ask.Create bucket key content → answered ≡ reply.Created id → IsFree old id → IsUnused bucket key upload
      → new.uploads ≡ insert old.uploads id upload → new.ended ≡ old.ended → Change asked body answered old new
  stored : (bucket key id : List ℕ) (number : ℕ) (upload : Upload) (part : StoredPart) → StoresPart asked body old bucket key id number part.bytes → IsOpen old id bucket key upload
      → new.uploads ≡ insert old.uploads id (record upload { parts = insert upload.parts number part }) → new.ended ≡ old.ended → answered ≡ reply.PartStored part.etag → Change asked body answered old new
  closed : (bucket key id : List ℕ) (upload : Upload) (how : Ended) → EndsUpload asked bucket key id how → IsOpen old id bucket key upload
      → new.uploads ≡ remove old.uploads id → new.ended ≡ insert old.ended id how → Change asked body answered old new

same_state : (asked : Ask) (body : List ℕ) (answered : Reply) (old new : State) → new ≡ old → Change asked body answered old new
same_state asked body answered old new same = none (ap (λ (t : State). t.uploads) same) (ap (λ (t : State). t.ended) same)

listed : (asked : Ask) (body : List ℕ) (answered : Reply) (old : State) (page rest : List Name) (more : _) (token : Option (List ℕ)) (new : State) → Remembers old page rest more token new → Change asked body answered old new
listed asked body answered old page [] more token new h = same_state asked body answered old new h.1
listed asked body answered old page (next ∷ rest) more token new h = none (ap (λ (t : State). t.uploads) h.7) (ap (λ (t : State). t.ended) h.7)

pub success_changes : (limits : Limits) (old : State) (asked : Ask) (body : List ℕ) (answered : Reply) (bytes : List ℕ) (new : State)
    → Succeeds limits old asked body answered bytes new → Change asked body answered old new
success_changes limits old (ask.Head b k) body (reply.Found size etag micros) bytes new h = same_state _ _ _ old new h.4
success_changes limits old (ask.Get b k etag range) body (reply.Got status told size) bytes new h = same_state _ _ _ old new h.3
success_changes limits old (ask.Put b k content fresh) body reply.Stored bytes new h = none (ap (λ (t : State). t.uploads) h.2.2) (ap (λ (t : State). t.ended) h.2.2)
success_changes limits old (ask.Copy b k from_bucket from_key etag) body reply.Copied bytes new h = none (ap (λ (t : State). t.uploads) h.3.2) (ap (λ (t : State). t.ended) h.3.2)
success_changes limits old (ask.Delete b k) body reply.Gone bytes new h = none (ap (λ (t : State). t.uploads) h.1) (ap (λ (t : State). t.ended) h.1)
success_changes limits old (ask.Create b k content) body (reply.Created id) bytes new h =
    created b k content id h.3 refl refl (record { not_open = nothing_is (get old.uploads id) h.1; not_ended = nothing_is (get old.ended id) h.2 }) h.4 (ap (λ (t : State). t.uploads) h.5) (ap (λ (t : State). t.ended) h.5)
success_changes limits old (ask.Part b k id number) body (reply.PartStored etag) bytes new h =
    stored b k id number h.0 (record { bytes = body; etag = etag }) (inl (refl, refl)) h.1 (ap (λ (t : State). t.uploads) h.2) (ap (λ (t : State). t.ended) h.2) refl
success_changes limits old (ask.PartCopy b k id number from_bucket from_key under range) body (reply.PartStored etag) bytes new h =
    stored b k id number h.0 (record { bytes = bytes_within range h.1.bytes; etag = etag }) (inr (from_bucket, from_key, under, range, h.1, refl, h.3, refl)) h.2
    (ap (λ (t : State). t.uploads) h.5) (ap (λ (t : State). t.ended) h.5) refl
success_changes limits old (ask.Complete b k id etags fresh) body reply.Completed bytes new (inl h) =
    closed b k id h.0 (CompletedBy etags.items) (etags.spare, fresh, refl) h.3
    (ap (λ (t : State). t.uploads) h.7 ∙ ap (λ (t : State). remove t.uploads id) h.6.2)
    (ap (λ (t : State). t.ended) h.7 ∙ ap (λ (t : State). insert t.ended id (CompletedBy etags.items)) h.6.2)
success_changes limits old (ask.Complete b k id etags fresh) body reply.Completed bytes new (inr h) = same_state _ _ _ old new h.1
success_changes limits old (ask.Abort b k id) body reply.Gone bytes new h = closed b k id h.0 Aborted refl h.1 (ap (λ (t : State). t.uploads) h.2) (ap (λ (t : State). t.ended) h.2)
success_changes limits old (ask.List b prefix delimited token) body (reply.Listed page) bytes new h = listed _ _ _ old h.1.1 h.1.2 page.more page.token new h.1.8
success_changes limits old ask.Buckets body (reply.BucketList buckets) bytes new h = same_state _ _ _ old new h.1
success_changes limits old asked body answered bytes new h = absurd h

pub external_uploads : (write : ExternalWrite) (old : State) → (after_external write old).uploads ≡ old.uploads
external_uploads (Writes b k object) old = refl
external_uploads (Removes b k) old = refl

pub external_ended : (write : ExternalWrite) (old : State) → (after_external write old).ended ≡ old.ended
external_ended (Writes b k object) old = refl
external_ended (Removes b k) old = refl

-- ---- ids that are free

absent_before : {V : Type 0} (m : MapOf V) (k : List ℕ) (v : V) (q : List ℕ) → get (insert m k v) q ≡ None → (q ≡ k → ⊥) × (get m q ≡ None)
absent_before {V} m k v q e = (apart, sym (get-insert_other nat_list_cmp_total text_exact m k v q apart) ∙ e)
  where
    apart : q ≡ k → ⊥
    apart same = not_both (get (insert m k v) q) v e (ap (get (insert m k v)) same ∙ get-insert_same nat_list_cmp_total text_exact m k v)

-- an id that is free after a request was free before it
pub free_before : (asked : Ask) (body : List ℕ) (answered : Reply) (old new : State) (id : List ℕ) → Change asked body answered old new → IsFree new id → IsFree old id
free_before asked body answered old new id (none same_uploads same_ended) free =
    record { not_open = ap (λ uploads. get uploads id) (sym same_uploads) ∙ free.not_open; not_ended = ap (λ ended. get ended id) (sym same_ended) ∙ free.not_ended }
free_before asked body answered old new id (created bucket key content other upload is_create is_created was_free fresh is_uploads same_ended) free = record {
  not_open = (absent_before old.uploads other upload id (ap (λ uploads. get uploads id) (sym is_uploads) ∙ free.not_open)).1;
  not_ended = ap (λ ended. get ended id) (sym same_ended) ∙ free.not_ended;
}
free_before asked body answered old new id (stored bucket key other number upload part stores is_open is_uploads same_ended says) free = record {
  not_open = (absent_before old.uploads other _ id (ap (λ uploads. get uploads id) (sym is_uploads) ∙ free.not_open)).1;
  not_ended = ap (λ ended. get ended id) (sym same_ended) ∙ free.not_ended;
}
free_before asked body answered old new id (closed bucket key other upload how ends is_open is_uploads is_ended) free =
    let before = absent_before old.ended other how id (ap (λ ended. get ended id) (sym is_ended) ∙ free.not_ended) in
    record {
      not_open = sym (get-remove_other nat_list_cmp_total text_exact old.uploads other id before.0) ∙ ap (λ uploads. get uploads id) (sym is_uploads) ∙ free.not_open;
      not_ended = before.1;
    }

pub free_before_external : (write : ExternalWrite) (old : State) (id : List ℕ) → IsFree (after_external write old) id → IsFree old id
free_before_external write old id free = record {
  not_open = ap (λ uploads. get uploads id) (sym (external_uploads write old)) ∙ free.not_open;
  not_ended = ap (λ ended. get ended id) (sym (external_ended write old)) ∙ free.not_ended;
}

-- ---- ids that have ended

-- the upload ended in that way and is open no more
pub record HasEnded (t : State) (id : List ℕ) (how : Ended) : Type 0 where
  pub not_open : get t.uploads id ≡ None
  pub is_ended : get t.ended id ≡ Some how

-- what has ended is ended in that way for good
pub ended_stays : (asked : Ask) (body : List ℕ) (answered : Reply) (old new : State) (id : List ℕ) (how : Ended) → Change asked body answered old new → HasEnded old id how → HasEnded new id how
ended_stays asked body answered old new id how (none same_uploads same_ended) ended =
    record { not_open = ap (λ uploads. get uploads id) same_uploads ∙ ended.not_open; is_ended = ap (λ all. get all id) same_ended ∙ ended.is_ended }
ended_stays asked body answered old new id how (created bucket key content other upload is_create is_created was_free fresh is_uploads same_ended) ended = record {
  not_open = ap (λ uploads. get uploads id) is_uploads ∙ get-insert_other nat_list_cmp_total text_exact old.uploads other upload id
      (λ same. not_both (get old.ended other) how was_free.not_ended (ap (get old.ended) (sym same) ∙ ended.is_ended)) ∙ ended.not_open;
  is_ended = ap (λ all. get all id) same_ended ∙ ended.is_ended;
}
ended_stays asked body answered old new id how (stored bucket key other number upload part stores is_open is_uploads same_ended says) ended = record {
  not_open = ap (λ uploads. get uploads id) is_uploads ∙ get-insert_other nat_list_cmp_total text_exact old.uploads other _ id
      (λ same. not_both (get old.uploads id) upload ended.not_open (ap (get old.uploads) same ∙ is_open.held)) ∙ ended.not_open;
  is_ended = ap (λ all. get all id) same_ended ∙ ended.is_ended;
}
ended_stays asked body answered old new id how (closed bucket key other upload other_how ends is_open is_uploads is_ended) ended =
    let apart : id ≡ other → ⊥ = λ same. not_both (get old.uploads id) upload ended.not_open (ap (get old.uploads) same ∙ is_open.held) in
    record {
      not_open = ap (λ uploads. get uploads id) is_uploads ∙ get-remove_other nat_list_cmp_total text_exact old.uploads other id apart ∙ ended.not_open;
      is_ended = ap (λ all. get all id) is_ended ∙ get-insert_other nat_list_cmp_total text_exact old.ended other other_how id apart ∙ ended.is_ended;
    }

pub ended_stays_external : (write : ExternalWrite) (old : State) (id : List ℕ) (how : Ended) → HasEnded old id how → HasEnded (after_external write old) id how
ended_stays_external write old id how ended =
    record { not_open = ap (λ uploads. get uploads id) (external_uploads write old) ∙ ended.not_open; is_ended = ap (λ all. get all id) (external_ended write old) ∙ ended.is_ended }

-- an upload that a request closes has ended after it
pub closed_has_ended : (old new : State) (id : List ℕ) (how : Ended) → new.uploads ≡ remove old.uploads id → new.ended ≡ insert old.ended id how → HasEnded new id how
closed_has_ended old new id how is_uploads is_ended = record {
  not_open = ap (λ uploads. get uploads id) is_uploads ∙ get-remove_same nat_list_cmp_total text_exact old.uploads id;
  is_ended = ap (λ all. get all id) is_ended ∙ get-insert_same nat_list_cmp_total text_exact old.ended id how;
}

pub not_aborted : (etags : List (List ℕ)) → ◌≡◌ {A = Option Ended} (Some Aborted) (Some (CompletedBy etags)) → ⊥
not_aborted etags e = cc

-- ---- an upload that is open

-- what a change makes of it: it stays, it gains a part, or it is closed
pub data Afterwards (asked : Ask) (body : List ℕ) (answered : Reply) (old new : State) (id bucket key : List ℕ) (upload : Upload) : Type 0 where
  stays : IsOpen new id bucket key upload → get new.ended id ≡ get old.ended id → Afterwards asked body answered old new id bucket key upload
  gains : (number : ℕ) (part : StoredPart) → StoresPart asked body old bucket key id number part.bytes → answered ≡ reply.PartStored part.etag
      → IsOpen new id bucket key (record upload { parts = insert upload.parts number part }) → get new.ended id ≡ get old.ended id → Afterwards asked body answered old new id bucket key upload
  ends : (how : Ended) → EndsUpload asked bucket key id how → HasEnded new id how → Afterwards asked body answered old new id bucket key upload

open_same : (old new : State) (id bucket key : List ℕ) (upload : Upload) → get new.uploads id ≡ get old.uploads id → IsOpen old id bucket key upload → IsOpen new id bucket key upload
open_same old new id bucket key upload same is_open = record { held = same ∙ is_open.held; bucket = is_open.bucket; key = is_open.key }

pub open_afterwards : (asked : Ask) (body : List ℕ) (answered : Reply) (old new : State) (id bucket key : List ℕ) (upload : Upload) → Change asked body answered old new → IsOpen old id bucket key upload
    → Afterwards asked body answered old new id bucket key upload
open_afterwards asked body answered old new id bucket key upload (none same_uploads same_ended) is_open =
    stays (open_same old new id bucket key upload (ap (λ uploads. get uploads id) same_uploads) is_open) (ap (λ all. get all id) same_ended)
open_afterwards asked body answered old new id bucket key upload (created b k content other made is_create is_created was_free is_fresh is_uploads same_ended) is_open =
    let apart : id ≡ other → ⊥ = λ same. not_both (get old.uploads id) upload (ap (get old.uploads) same ∙ was_free.not_open) is_open.held in
    stays (open_same old new id bucket key upload (ap (λ uploads. get uploads id) is_uploads ∙ get-insert_other nat_list_cmp_total text_exact old.uploads other made id apart) is_open) (ap (λ all. get all id) same_ended)
open_afterwards asked body answered old new id bucket key upload (stored b k other number was part stores was_open is_uploads same_ended says) is_open =
    let changed : Upload = record was { parts = insert was.parts number part } in
    elim (text_decided id other) [
      | inr apart ↦ stays
          (open_same old new id bucket key upload (ap (λ uploads. get uploads id) is_uploads ∙ get-insert_other nat_list_cmp_total text_exact old.uploads other changed id apart) is_open)
          (ap (λ all. get all id) same_ended)
      | inl same ↦
          let here : was ≡ upload = some_is was upload (sym was_open.held ∙ ap (get old.uploads) (sym same) ∙ is_open.held) in
          let here_bucket : b ≡ bucket = sym was_open.bucket ∙ ap (λ (u : Upload). u.bucket) here ∙ is_open.bucket in
          let here_key : k ≡ key = sym was_open.key ∙ ap (λ (u : Upload). u.key) here ∙ is_open.key in
          let stores_here : StoresPart asked body old bucket key id number part.bytes = subst (λ (x : List ℕ). StoresPart asked body old bucket key x number part.bytes) (sym same)
          (subst (λ (x : List ℕ). StoresPart asked body old bucket x other number part.bytes) here_key (subst (λ (x : List ℕ). StoresPart asked body old x k other number part.bytes) here_bucket stores)) in
          let held : get new.uploads id ≡ Some changed =
          ap (λ uploads. get uploads id) is_uploads ∙ ap (get (insert old.uploads other changed)) same ∙ get-insert_same nat_list_cmp_total text_exact old.uploads other changed in
          gains number part stores_here says
          (record { held = held ∙ ap (λ (u : Upload). Some (record u { parts = insert u.parts number part })) here; bucket = is_open.bucket; key = is_open.key }) (ap (λ all. get all id) same_ended)
    ]
open_afterwards asked body answered old new id bucket key upload (closed b k other was how closes was_open is_uploads is_ended) is_open = elim (text_decided id other) [
  | inr apart ↦ stays
      (open_same old new id bucket key upload (ap (λ uploads. get uploads id) is_uploads ∙ get-remove_other nat_list_cmp_total text_exact old.uploads other id apart) is_open)
      (ap (λ all. get all id) is_ended ∙ get-insert_other nat_list_cmp_total text_exact old.ended other how id apart)
  | inl same ↦
      let here : was ≡ upload = some_is was upload (sym was_open.held ∙ ap (get old.uploads) (sym same) ∙ is_open.held) in
      let here_bucket : b ≡ bucket = sym was_open.bucket ∙ ap (λ (u : Upload). u.bucket) here ∙ is_open.bucket in
      let here_key : k ≡ key = sym was_open.key ∙ ap (λ (u : Upload). u.key) here ∙ is_open.key in
      ends how
      (subst (λ (x : List ℕ). EndsUpload asked bucket key x how) (sym same) (subst (λ (x : List ℕ). EndsUpload asked bucket x other how) here_key (subst (λ (x : List ℕ). EndsUpload asked x k other how) here_bucket closes)))
      (subst (λ (x : List ℕ). HasEnded new x how) (sym same) (closed_has_ended old new other how is_uploads is_ended))
]
