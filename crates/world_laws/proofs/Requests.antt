-- What one request or one external write leaves at an object.
use Rattle.std.proofs.Common.{◌≡◌, ◌∙◌, ◌⊎◌, ℕ, Bool, List, [], ◌∷◌, Option, ap, inl, inr}
use Rattle.s3_model.specs.declared.requests.Ask.{Ask}
use Rattle.s3_model.specs.declared.requests.Ask.TheVariants as ask
use Rattle.s3_model.specs.declared.answers.Reply.{Reply}
use Rattle.s3_model.specs.declared.answers.Reply.TheVariants as reply
use Rattle.s3_model.specs.declared.settings.Limits.{Limits}
use Rattle.s3_service.specs.ServiceState.{State, object_at, with_object, without_object}
use Rattle.s3_service.specs.Listing.{Name, Remembers}
use Rattle.s3_service.specs.Serves.{Succeeds, MayChange, StoresObject, ExternalWrite, Writes, Removes, after_external}
use Rattle.world_laws.proofs.Objects.{object_at-with_object_other, object_at-without_object_other, place_decided}

-- an external write is of this place
abbrev pub IsWriteOf : ExternalWrite → List ℕ → List ℕ → Type 0
IsWriteOf (Writes b k object) bucket key = (b ≡ bucket) × (k ≡ key)
IsWriteOf (Removes b k) bucket key = (b ≡ bucket) × (k ≡ key)

module _ (bucket key : List ℕ) where
  pub may_change_decided : (asked : Ask) → MayChange asked bucket key ⊎ (MayChange asked bucket key → ⊥)
  may_change_decided (ask.Put b k content fresh) = place_decided b k bucket key
  may_change_decided (ask.Copy b k from_bucket from_key etag) = place_decided b k bucket key
  may_change_decided (ask.Delete b k) = place_decided b k bucket key
  may_change_decided (ask.Complete b k id etags fresh) = place_decided b k bucket key
  may_change_decided asked = inr (λ may. may)

  pub write_decided : (write : ExternalWrite) → IsWriteOf write bucket key ⊎ (IsWriteOf write bucket key → ⊥)
  write_decided (Writes b k object) = place_decided b k bucket key
  write_decided (Removes b k) = place_decided b k bucket key

  pub external_elsewhere : (old : State) (write : ExternalWrite) → (IsWriteOf write bucket key → ⊥) → object_at (after_external write old) bucket key ≡ object_at old bucket key
  external_elsewhere old (Writes b k object) apart = object_at-with_object_other old b k object bucket key apart
  external_elsewhere old (Removes b k) apart = object_at-without_object_other old b k bucket key apart

  unchanged : (old new : State) → new ≡ old → object_at new bucket key ≡ object_at old bucket key
  unchanged old new same = ap (λ (t : State). object_at t bucket key) same

  gained_elsewhere : (old : State) (b k bytes : List ℕ) (new : State) → StoresObject old b k bytes new → ((b ≡ bucket) × (k ≡ key) → ⊥) → object_at new bucket key ≡ object_at old bucket key
  gained_elsewhere old b k bytes new gains apart = unchanged (with_object old b k gains.0) new gains.2 ∙ object_at-with_object_other old b k gains.0 bucket key apart

  listing_leaves : (old : State) (page rest : List Name) (more : Bool) (token : Option (List ℕ)) (new : State) → Remembers old page rest more token new → object_at new bucket key ≡ object_at old bucket key
  listing_leaves old page [] more token new h = unchanged old new h.1
  listing_leaves old page (next ∷ rest) more token new h = ap (λ (t : State). object_at t bucket key) h.7

  -- A request leaves every object but the one that it may change.
  pub success_elsewhere : (limits : Limits) (old : State) (asked : Ask) (body : List ℕ) (answered : Reply) (bytes : List ℕ) (new : State)
      → Succeeds limits old asked body answered bytes new → (MayChange asked bucket key → ⊥) → object_at new bucket key ≡ object_at old bucket key
  success_elsewhere limits old (ask.Head b k) body (reply.Found size etag micros) bytes new h apart = unchanged old new h.4
  success_elsewhere limits old (ask.Get b k etag range) body (reply.Got status told size) bytes new h apart = unchanged old new h.3
  success_elsewhere limits old (ask.Put b k content fresh) body reply.Stored bytes new h apart = gained_elsewhere old b k body new h.2 apart
  success_elsewhere limits old (ask.Copy b k from_bucket from_key etag) body reply.Copied bytes new h apart = gained_elsewhere old b k h.0.bytes new h.3 apart
  success_elsewhere limits old (ask.Delete b k) body reply.Gone bytes new h apart = unchanged (without_object old b k) new h.1 ∙ object_at-without_object_other old b k bucket key apart
  success_elsewhere limits old (ask.Create b k content) body (reply.Created id) bytes new h apart = ap (λ (t : State). object_at t bucket key) h.5
  success_elsewhere limits old (ask.Part b k id number) body (reply.PartStored etag) bytes new h apart = ap (λ (t : State). object_at t bucket key) h.2
  success_elsewhere limits old (ask.PartCopy b k id number from_bucket from_key etag range) body (reply.PartStored stored) bytes new h apart = ap (λ (t : State). object_at t bucket key) h.5
  success_elsewhere limits old (ask.Complete b k id etags fresh) body reply.Completed bytes new (inl h) apart =
      ap (λ (t : State). object_at t bucket key) h.7 ∙ gained_elsewhere old b k h.1 h.2 h.6 apart
  success_elsewhere limits old (ask.Complete b k id etags fresh) body reply.Completed bytes new (inr h) apart = unchanged old new h.1
  success_elsewhere limits old (ask.Abort b k id) body reply.Gone bytes new h apart = ap (λ (t : State). object_at t bucket key) h.2
  success_elsewhere limits old (ask.List b prefix delimited token) body (reply.Listed page) bytes new h apart = listing_leaves old h.1.1 h.1.2 page.more page.token new h.1.8
  success_elsewhere limits old ask.Buckets body (reply.BucketList buckets) bytes new h apart = unchanged old new h.1
  success_elsewhere limits old asked body answered bytes new h apart = absurd h
