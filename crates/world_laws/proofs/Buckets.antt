-- A bucket that is there stays: no request and no external write removes one.
use Rattle.std.proofs.Common.{◌≡◌, ◌∙◌, ℕ, Bool, List, [], ◌∷◌, Option, refl, ap, inl, inr}
use Rattle.std.specs.Prelude.{is_some}
use Rattle.std.specs.Cmp.Lexicographic.{nat_list_cmp_total}
use Rattle.std.specs.FinMap.{get, insert, remove}
use Rattle.s3_model.specs.declared.requests.Ask.{Ask}
use Rattle.s3_model.specs.declared.requests.Ask.TheVariants as ask
use Rattle.s3_model.specs.declared.answers.Reply.{Reply}
use Rattle.s3_model.specs.declared.answers.Reply.TheVariants as reply
use Rattle.s3_model.specs.declared.settings.Limits.{Limits}
use Rattle.s3_model.specs.Maps.{MapOf}
use Rattle.s3_service.specs.ServiceState.{State, Object, HasBucket, objects_in}
use Rattle.s3_service.specs.Listing.{Name, Remembers}
use Rattle.s3_service.specs.Serves.{Succeeds, StoresObject, ExternalWrite, Writes, Removes, after_external}
use Rattle.shared_lemmas.proofs.Maps.{get-insert_other, get-insert_same, text_decided, text_exact}
use Rattle.world_laws.proofs.Traces.{IsStable}

module _ (bucket : List ℕ) where
  same_buckets : (old new : State) → new.objects ≡ old.objects → HasBucket old bucket → HasBucket new bucket
  same_buckets old new same there = ap (λ (objects : MapOf (MapOf Object)). is_some (get objects bucket)) same ∙ there

  -- the objects of one bucket were given anew
  one_anew : (old new : State) (b : List ℕ) (inner : MapOf Object) → new.objects ≡ insert old.objects b inner → HasBucket old bucket → HasBucket new bucket
  one_anew old new b inner anew there =
      ap (λ (objects : MapOf (MapOf Object)). is_some (get objects bucket)) anew
      ∙ elim (text_decided bucket b) [
        | inl same ↦ ap (λ (found : Option (MapOf Object)). is_some found) (ap (get (insert old.objects b inner)) same ∙ get-insert_same nat_list_cmp_total text_exact old.objects b inner)
        | inr other ↦ ap (λ (found : Option (MapOf Object)). is_some found) (get-insert_other nat_list_cmp_total text_exact old.objects b inner bucket other) ∙ there
      ]

  gained : (old : State) (b k bytes : List ℕ) (new : State) → StoresObject old b k bytes new → HasBucket old bucket → HasBucket new bucket
  gained old b k bytes new gains there = one_anew old new b (insert (objects_in old b) k gains.0) (ap (λ (t : State). t.objects) gains.2) there

  listed : (old : State) (page rest : List Name) (more : Bool) (token : Option (List ℕ)) (new : State) → Remembers old page rest more token new → HasBucket old bucket → HasBucket new bucket
  listed old page [] more token new h there = same_buckets old new (ap (λ (t : State). t.objects) h.1) there
  listed old page (next ∷ rest) more token new h there = same_buckets old new (ap (λ (t : State). t.objects) h.7) there

  served : (limits : Limits) (old : State) (asked : Ask) (body : List ℕ) (answered : Reply) (bytes : List ℕ) (new : State)
      → Succeeds limits old asked body answered bytes new → HasBucket old bucket → HasBucket new bucket
  served limits old (ask.Head b k) body (reply.Found size etag micros) bytes new h there = same_buckets old new (ap (λ (t : State). t.objects) h.4) there
  served limits old (ask.Get b k etag range) body (reply.Got status told size) bytes new h there = same_buckets old new (ap (λ (t : State). t.objects) h.3) there
  served limits old (ask.Put b k content fresh) body reply.Stored bytes new h there = gained old b k body new h.2 there
  served limits old (ask.Copy b k from_bucket from_key etag) body reply.Copied bytes new h there = gained old b k h.0.bytes new h.3 there
  served limits old (ask.Delete b k) body reply.Gone bytes new h there = one_anew old new b (remove (objects_in old b) k) (ap (λ (t : State). t.objects) h.1) there
  served limits old (ask.Create b k content) body (reply.Created id) bytes new h there = same_buckets old new (ap (λ (t : State). t.objects) h.5) there
  served limits old (ask.Part b k id number) body (reply.PartStored etag) bytes new h there = same_buckets old new (ap (λ (t : State). t.objects) h.2) there
  served limits old (ask.PartCopy b k id number from_bucket from_key etag range) body (reply.PartStored stored) bytes new h there = same_buckets old new (ap (λ (t : State). t.objects) h.5) there
  served limits old (ask.Complete b k id etags fresh) body reply.Completed bytes new (inl h) there =
      same_buckets h.2 new (ap (λ (t : State). t.objects) h.7) (gained old b k h.1 h.2 h.6 there)
  served limits old (ask.Complete b k id etags fresh) body reply.Completed bytes new (inr h) there = same_buckets old new (ap (λ (t : State). t.objects) h.1) there
  served limits old (ask.Abort b k id) body reply.Gone bytes new h there = same_buckets old new (ap (λ (t : State). t.objects) h.2) there
  served limits old (ask.List b prefix delimited token) body (reply.Listed page) bytes new h there = listed old h.1.1 h.1.2 page.more page.token new h.1.8 there
  served limits old ask.Buckets body (reply.BucketList buckets) bytes new h there = same_buckets old new (ap (λ (t : State). t.objects) h.1) there
  served limits old asked body answered bytes new h there = absurd h

  written : (write : ExternalWrite) (old : State) → HasBucket old bucket → HasBucket (after_external write old) bucket
  written (Writes b k object) old there = one_anew old (after_external (Writes b k object) old) b (insert (objects_in old b) k object) refl there
  written (Removes b k) old there = one_anew old (after_external (Removes b k) old) b (remove (objects_in old b) k) refl there

  pub bucket_is_stable : (limits : Limits) → IsStable limits (λ (t : State). HasBucket t bucket)
  bucket_is_stable limits = record {
    served = λ old asked body answered bytes new succeeds there. served limits old asked body answered bytes new succeeds there;
    written = λ write old there. written write old there;
  }
