-- Which requests can succeed at a state.
use Rattle.std.proofs.Common.{◌≡◌, ℕ, Bool, List, [], Option, refl, inl, subst}
use Rattle.std.specs.FinMap.{empty}
use Rattle.s3_model.specs.declared.requests.Ask.{Ask}
use Rattle.s3_model.specs.declared.requests.Ask.TheVariants as ask
use Rattle.s3_model.specs.declared.answers.Reply.{Reply}
use Rattle.s3_model.specs.declared.answers.Reply.TheVariants as reply
use Rattle.s3_model.specs.declared.settings.Limits.{Limits}
use Rattle.s3_model.specs.Lists.{Reserved}
use Rattle.s3_service.specs.ServiceState.{State, Object, Upload, Aborted, CompletedBy, HasBucket, with_ended, with_object, with_part, with_upload, without_object}
use Rattle.s3_service.specs.Serves.{Completes, IsOpen, IsThere, IsVacant, LiesWithin, Succeeds, bytes_within}
use Rattle.world_laws.proofs.FreshIds.{fresh_id}

-- no success is possible
abbrev pub IsInVain : Limits → State → Ask → List ℕ → Type 0
IsInVain limits t asked body = (answered : Reply) (bytes : List ℕ) (new : State) → ¬ (Succeeds limits t asked body answered bytes new)

abbrev pub object_with : List ℕ → Object
object_with content = record { bytes = content; etag = []; micros = 0 }

module _ (limits : Limits) (t : State) (asked : Ask) (body : List ℕ) where
  pub put_possible : (bucket key : List ℕ) (content : Option (List ℕ)) (fresh : Bool) → asked ≡ ask.Put bucket key content fresh → HasBucket t bucket → IsVacant fresh t bucket key → IsInVain limits t asked body → ⊥
  put_possible bucket key content fresh is there vacant vain =
      let new = with_object t bucket key (object_with body) in
      subst (λ (a : Ask). IsInVain limits t a body) is vain reply.Stored [] new (there, vacant, (object_with body, refl, refl))

  pub copy_possible : (bucket key from_bucket from_key etag : List ℕ) (source : Object) → asked ≡ ask.Copy bucket key from_bucket from_key etag → HasBucket t bucket → IsThere t from_bucket from_key etag source
      → IsInVain limits t asked body → ⊥
  copy_possible bucket key from_bucket from_key etag source is there held vain =
      let new = with_object t bucket key (object_with source.bytes) in
      subst (λ (a : Ask). IsInVain limits t a body) is vain reply.Copied [] new (source, held, there, (object_with source.bytes, refl, refl))

  pub delete_possible : (bucket key : List ℕ) → asked ≡ ask.Delete bucket key → HasBucket t bucket → IsInVain limits t asked body → ⊥
  delete_possible bucket key is there vain =
      subst (λ (a : Ask). IsInVain limits t a body) is vain reply.Gone [] (without_object t bucket key) (there, refl)

  pub create_possible : (bucket key : List ℕ) (content : Option (List ℕ)) → asked ≡ ask.Create bucket key content → HasBucket t bucket → IsInVain limits t asked body → ⊥
  create_possible bucket key content is there vain =
      let fresh = fresh_id t in
      let upload : Upload = record { bucket = bucket; key = key; parts = empty } in
      subst (λ (a : Ask). IsInVain limits t a body) is vain (reply.Created fresh.0) [] (with_upload t fresh.0 upload)
      (there, fresh.1, fresh.2, upload, record { bucket = refl; key = refl; parts = refl }, refl)

  pub part_possible : (bucket key id : List ℕ) (number : ℕ) (upload : Upload) → asked ≡ ask.Part bucket key id number → IsOpen t id bucket key upload → IsInVain limits t asked body → ⊥
  part_possible bucket key id number upload is is_open vain =
      subst (λ (a : Ask). IsInVain limits t a body) is vain (reply.PartStored []) [] (with_part t id upload number (record { bytes = body; etag = [] })) (upload, is_open, refl)

  pub part_copy_possible : (bucket key id : List ℕ) (number : ℕ) (from_bucket from_key under : List ℕ) (range : ℕ × ℕ) (upload : Upload) (source : Object)
      → asked ≡ ask.PartCopy bucket key id number from_bucket from_key under range → IsOpen t id bucket key upload → IsThere t from_bucket from_key under source → LiesWithin range source.bytes → IsInVain limits t asked body → ⊥
  part_copy_possible bucket key id number from_bucket from_key under range upload source is is_open held lies vain =
      subst (λ (a : Ask). IsInVain limits t a body) is vain (reply.PartStored []) [] (with_part t id upload number (record { bytes = bytes_within range source.bytes; etag = [] }))
      (upload, source, is_open, held, lies, refl)

  pub complete_possible : (bucket key id : List ℕ) (etags : Reserved (List ℕ)) (fresh : Bool) (upload : Upload) (whole : List ℕ) → asked ≡ ask.Complete bucket key id etags fresh
      → IsOpen t id bucket key upload → IsVacant fresh t bucket key → Completes limits upload etags.items whole → IsInVain limits t asked body → ⊥
  complete_possible bucket key id etags fresh upload whole is is_open vacant joins vain =
      let mid = with_object t bucket key (object_with whole) in
      subst (λ (a : Ask). IsInVain limits t a body) is vain reply.Completed [] (with_ended mid id (CompletedBy etags.items))
      (inl (upload, whole, mid, is_open, vacant, joins, (object_with whole, refl, refl), refl))

  pub abort_possible : (bucket key id : List ℕ) (upload : Upload) → asked ≡ ask.Abort bucket key id → IsOpen t id bucket key upload → IsInVain limits t asked body → ⊥
  abort_possible bucket key id upload is is_open vain = subst (λ (a : Ask). IsInVain limits t a body) is vain reply.Gone [] (with_ended t id Aborted) (upload, is_open, refl)
