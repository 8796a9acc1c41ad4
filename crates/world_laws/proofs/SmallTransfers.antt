-- Destinations that a run makes new by one request: a small upload, a small copy, a removal.
use Rattle.std.proofs.Common.{◌≡◌, ℕ, Bool, List, Option, Some, None, refl, subst, filter_map}
use Rattle.s3_model.specs.declared.requests.Ask.{Ask}
use Rattle.s3_model.specs.declared.requests.Ask.TheVariants as ask
use Rattle.s3_model.specs.declared.answers.Reply.{Reply}
use Rattle.s3_model.specs.declared.answers.Reply.TheVariants as reply
use Rattle.s3_model.specs.declared.answers.Class.{Class}
use Rattle.s3_model.specs.declared.outcomes.Event.{Event}
use Rattle.s3_model.specs.declared.settings.Limits.{Limits}
use Rattle.s3_model.specs.Talks.{Talk}
use Rattle.s3_service.specs.ServiceState.{State, Object, object_at, HasBytes}
use Rattle.s3_service.specs.Serves.{Succeeds, IsThere}
use Rattle.job_terms.specs.Dispatches.{Dispatched}
use Rattle.run_promise.specs.Traces.{Step, event_of, events_of, states}
use Rattle.world_laws.specs.Premises.{HasCome, HasSuccess, IsPlace}
use Rattle.run_promise.specs.Runs.{moments}
use Rattle.world_laws.specs.Destinations.{AllThatChange, Making, Requests, IsNewOnceCome, IsNewAfterSuccess, IsOldOrNew, IsOldAfterRefusals}
use Rattle.world_laws.specs.SmallTransfers.{AsksPut, AsksCopy, AsksDelete, AreAll, HadContent, IsStored, IsCopied, IsRemoved, UploadStores, UploadIsWhole, CopyStores, CopyIsWhole, DeleteRemoves, DeleteIsWhole}
use Rattle.shared_lemmas.proofs.Members.{contains_of}
use Rattle.world_laws.proofs.Objects.{object_at-with_object, object_at-without_object}
use Rattle.world_laws.proofs.Fitting.{IsServed, come_by}
use Rattle.world_laws.proofs.Kept.{unwritten}
use Rattle.world_laws.proofs.Destinations as dest

-- ---- one request

-- a Put that succeeds stores its body
pub put_stores : (limits : Limits) (old : State) (bucket key : List ℕ) (content : Option (List ℕ)) (fresh : Bool) (body : List ℕ) (answered : Reply) (bytes : List ℕ) (new : State)
    → Succeeds limits old (ask.Put bucket key content fresh) body answered bytes new → HasBytes new bucket key body
put_stores limits old bucket key content fresh body reply.Stored bytes new h = (h.2.0, rw h.2.2 (object_at-with_object old bucket key h.2.0), h.2.1)
put_stores limits old bucket key content fresh body answered bytes new h = absurd h

-- a Copy stores what its source has under the ETag
pub copy_stores : (limits : Limits) (old : State) (bucket key from_bucket from_key etag : List ℕ) (body : List ℕ) (answered : Reply) (bytes : List ℕ) (new : State)
    → Succeeds limits old (ask.Copy bucket key from_bucket from_key etag) body answered bytes new → (source : Object) × IsThere old from_bucket from_key etag source × HasBytes new bucket key source.bytes
copy_stores limits old bucket key from_bucket from_key etag body reply.Copied bytes new h = (h.0, h.1, (h.3.0, rw h.3.2 (object_at-with_object old bucket key h.3.0), h.3.1))
copy_stores limits old bucket key from_bucket from_key etag body answered bytes new h = absurd h

pub delete_removes : (limits : Limits) (old : State) (bucket key : List ℕ) (body : List ℕ) (answered : Reply) (bytes : List ℕ) (new : State)
    → Succeeds limits old (ask.Delete bucket key) body answered bytes new → object_at new bucket key ≡ None
delete_removes limits old bucket key body reply.Gone bytes new h = rw h.1 (object_at-without_object old bucket key)
delete_removes limits old bucket key body answered bytes new h = absurd h

-- ---- whole traces

-- a success that has come in one journal, and in another
pub come_in : (Shows : Ask → ℕ → Talk → Class → List ℕ → Type 0) (journal other : List Event) (dispatched : List Dispatched) (bucket key : List ℕ) (success : HasSuccess Shows journal dispatched bucket key) → HasCome other success.request
    → HasSuccess Shows other dispatched bucket key
come_in Shows journal other dispatched bucket key success come =
    record { request = success.request; known = success.known; may = success.may; come = come; succeeded = success.succeeded }

module _ (Shows : Ask → ℕ → Talk → Class → List ℕ → Type 0) where
  -- what has come by the end is a success that has come
  pub after_success : (bucket key : List ℕ) (AreOurs : Requests) (IsNew : Making) → IsNewOnceCome Shows bucket key AreOurs IsNew → IsNewAfterSuccess Shows bucket key AreOurs IsNew
  after_success bucket key AreOurs IsNew once limits run part fitting ours whole success =
      once limits run part fitting ours (whole.0, whole.1) (come_in Shows run.journal (filter_map event_of (events_of part)) run.dispatched bucket key success (come_by run.journal run.trace part whole success.request success.come))

  -- a destination that each request for it makes new
  module _ (bucket key : List ℕ) (IsSuch : Dispatched → Type 0) (IsNew : List State → Option Object → Type 0)
      (makes_new : (limits : Limits) (start : State) (trace : List Step) (dispatched : List Dispatched) (c : Dispatched) (old : State) (answered : Reply) (bytes : List ℕ) (new : State)
      → IsServed Shows limits start trace dispatched c old answered bytes new → IsSuch c → IsNew (states start trace) (object_at new bucket key)) where
    pub new_once_come : IsNewOnceCome Shows bucket key (λ journal dispatched. AllThatChange bucket key IsSuch dispatched) (λ moments t. IsNew moments (object_at t bucket key))
    new_once_come limits run part fitting ours begins success =
        dest.success_makes_new Shows limits run.start run.trace run.dispatched run.journal fitting.runs fitting.fits bucket key (IsNew (moments run))
        (λ d old answered bytes new served may. makes_new limits run.start run.trace run.dispatched d old answered bytes new served (ours d served.known may))
        (dest.unwritten_is_new Shows limits run.start run.trace run.dispatched run.journal fitting.runs fitting.fits bucket key (IsNew (moments run)) (unwritten run.start run.trace (IsPlace bucket key) fitting.honest bucket key (refl, refl)))
        part begins.0 begins.1 success.request success.known success.may success.come success.succeeded

    pub old_or_new : IsOldOrNew Shows bucket key (λ journal dispatched. AllThatChange bucket key IsSuch dispatched) (λ moments t. IsNew moments (object_at t bucket key))
    old_or_new limits run part fitting ours begins =
        dest.old_or_new Shows limits run.start run.trace run.dispatched run.journal fitting.runs fitting.fits bucket key (IsNew (moments run))
        (λ d old answered bytes new served may. makes_new limits run.start run.trace run.dispatched d old answered bytes new served (ours d served.known may))
        (dest.unwritten_is_new Shows limits run.start run.trace run.dispatched run.journal fitting.runs fitting.fits bucket key (IsNew (moments run)) (unwritten run.start run.trace (IsPlace bucket key) fitting.honest bucket key (refl, refl)))
        part begins.0 begins.1

  pub old_after_refusals : IsOldAfterRefusals Shows
  old_after_refusals limits run part bucket key fitting refused begins =
      dest.refused_stays Shows limits run.start run.trace run.dispatched run.journal fitting.runs fitting.fits bucket key (unwritten run.start run.trace (IsPlace bucket key) fitting.honest bucket key (refl, refl)) refused
      part begins.0 begins.1

  -- ---- uploads

  abbrev pub IsBody : List ℕ → List State → Option Object → Type 0
  IsBody body moments found = (object : Object) × (found ≡ Some object) × (object.bytes ≡ body)

  pub stores : (bucket key body : List ℕ) (limits : Limits) (start : State) (trace : List Step) (dispatched : List Dispatched) (c : Dispatched) (old : State) (answered : Reply) (bytes : List ℕ) (new : State)
      → IsServed Shows limits start trace dispatched c old answered bytes new → AsksPut bucket key body c → IsBody body (states start trace) (object_at new bucket key)
  stores bucket key body limits start trace dispatched c old answered bytes new served puts =
      let succeeds = subst (λ (asked : Ask). Succeeds limits old asked c.body answered bytes new) puts.2 served.succeeds in
      subst (λ (b : List ℕ). HasBytes new bucket key b) puts.3 (put_stores limits old bucket key puts.0 puts.1 c.body answered bytes new succeeds)

  pub upload_once_come : (bucket key body : List ℕ) → IsNewOnceCome Shows bucket key (AreAll bucket key (AsksPut bucket key body)) (IsStored bucket key body)
  upload_once_come bucket key body = new_once_come bucket key (AsksPut bucket key body) (IsBody body) (stores bucket key body)

  pub upload_stores : UploadStores Shows
  upload_stores bucket key body = after_success bucket key (AreAll bucket key (AsksPut bucket key body)) (IsStored bucket key body) (upload_once_come bucket key body)

  pub upload_is_whole : UploadIsWhole Shows
  upload_is_whole bucket key body = old_or_new bucket key (AsksPut bucket key body) (IsBody body) (stores bucket key body)

  -- ---- copies

  module _ (bucket key from_bucket from_key etag : List ℕ) where
    abbrev pub IsContent : List State → Option Object → Type 0
    IsContent moments found = (bytes : List ℕ) × HadContent moments from_bucket from_key etag bytes × ((object : Object) × (found ≡ Some object) × (object.bytes ≡ bytes))

    pub copies : (limits : Limits) (start : State) (trace : List Step) (dispatched : List Dispatched) (c : Dispatched) (old : State) (answered : Reply) (bytes : List ℕ) (new : State)
        → IsServed Shows limits start trace dispatched c old answered bytes new → AsksCopy bucket key from_bucket from_key etag c → IsContent (states start trace) (object_at new bucket key)
    copies limits start trace dispatched c old answered bytes new served is_copy =
        let succeeds = subst (λ (asked : Ask). Succeeds limits old asked c.body answered bytes new) is_copy served.succeeds in
        let stored = copy_stores limits old bucket key from_bucket from_key etag c.body answered bytes new succeeds in
        (stored.0.bytes, (old, stored.0, contains_of (states start trace) old served.among, stored.1, refl), stored.2)

  pub copy_once_come : (bucket key from_bucket from_key etag : List ℕ)
      → IsNewOnceCome Shows bucket key (AreAll bucket key (AsksCopy bucket key from_bucket from_key etag)) (IsCopied bucket key from_bucket from_key etag)
  copy_once_come bucket key from_bucket from_key etag =
      new_once_come bucket key (AsksCopy bucket key from_bucket from_key etag) (IsContent bucket key from_bucket from_key etag) (copies bucket key from_bucket from_key etag)

  pub copy_stores_content : CopyStores Shows
  copy_stores_content bucket key from_bucket from_key etag =
      after_success bucket key (AreAll bucket key (AsksCopy bucket key from_bucket from_key etag)) (IsCopied bucket key from_bucket from_key etag) (copy_once_come bucket key from_bucket from_key etag)

  pub copy_is_whole : CopyIsWhole Shows
  copy_is_whole bucket key from_bucket from_key etag =
      old_or_new bucket key (AsksCopy bucket key from_bucket from_key etag) (IsContent bucket key from_bucket from_key etag) (copies bucket key from_bucket from_key etag)

  -- ---- removals

  abbrev pub IsAbsent : List State → Option Object → Type 0
  IsAbsent moments found = found ≡ None

  pub removes : (bucket key : List ℕ) (limits : Limits) (start : State) (trace : List Step) (dispatched : List Dispatched) (c : Dispatched) (old : State) (answered : Reply) (bytes : List ℕ) (new : State)
      → IsServed Shows limits start trace dispatched c old answered bytes new → AsksDelete bucket key c → IsAbsent (states start trace) (object_at new bucket key)
  removes bucket key limits start trace dispatched c old answered bytes new served is_delete =
      delete_removes limits old bucket key c.body answered bytes new (subst (λ (asked : Ask). Succeeds limits old asked c.body answered bytes new) is_delete served.succeeds)

  pub delete_once_come : (bucket key : List ℕ) → IsNewOnceCome Shows bucket key (AreAll bucket key (AsksDelete bucket key)) (IsRemoved bucket key)
  delete_once_come bucket key = new_once_come bucket key (AsksDelete bucket key) IsAbsent (removes bucket key)

  pub delete_removes_object : DeleteRemoves Shows
  delete_removes_object bucket key = after_success bucket key (AreAll bucket key (AsksDelete bucket key)) (IsRemoved bucket key) (delete_once_come bucket key)

  pub delete_is_whole : DeleteIsWhole Shows
  delete_is_whole bucket key = old_or_new bucket key (AsksDelete bucket key) IsAbsent (removes bucket key)
