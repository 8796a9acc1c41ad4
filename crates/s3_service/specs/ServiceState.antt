-- The state of an S3 service: objects, open uploads, how uploads ended, and listing tokens (Amazon S3 API reference).
use Rattle.std.specs.Prelude.{◌≡◌, ℕ, List, Option, Some, unwrap_or, IsSome}
use Rattle.std.specs.Ordering.{nat_cmp}
use Rattle.std.specs.FinMap.{FinMap, get, insert, remove, empty}
use Rattle.s3_model.specs.Maps.{MapOf}

pub record Object : Type 0 where
  pub bytes : List ℕ
  pub etag : List ℕ
  pub micros : ℕ

pub record StoredPart : Type 0 where
  pub bytes : List ℕ
  pub etag : List ℕ

pub record Upload : Type 0 where
  pub bucket : List ℕ
  pub key : List ℕ
  pub parts : FinMap nat_cmp StoredPart

-- how an upload ended
pub data Ended : Type 0 where
  CompletedBy : (etags : List (List ℕ)) → Ended
  Aborted : Ended

pub record State : Type 0 where
  -- by bucket, then by key
  pub objects : MapOf (MapOf Object)
  -- by upload id
  pub uploads : MapOf Upload
  pub ended : MapOf Ended
  -- the name after which a listing goes on, by its token
  pub tokens : MapOf (List ℕ)

-- the objects of a bucket, none where it is not there
abbrev pub objects_in : State → List ℕ → MapOf Object
objects_in t bucket = unwrap_or (get t.objects bucket) empty

abbrev pub object_at : State → List ℕ → List ℕ → Option Object
object_at t bucket key = get (objects_in t bucket) key

abbrev pub HasBucket : State → List ℕ → Type 0
HasBucket t bucket = IsSome (get t.objects bucket)

-- the object there has these bytes
abbrev pub HasBytes : State → List ℕ → List ℕ → List ℕ → Type 0
HasBytes t bucket key bytes = (object : Object) × (object_at t bucket key ≡ Some object) × (object.bytes ≡ bytes)

-- the state with this object in place of what was there
abbrev pub with_object : State → List ℕ → List ℕ → Object → State
with_object t bucket key object =
    record t { objects = insert t.objects bucket (insert (objects_in t bucket) key object) }

abbrev pub without_object : State → List ℕ → List ℕ → State
without_object t bucket key =
    record t { objects = insert t.objects bucket (remove (objects_in t bucket) key) }

abbrev pub with_upload : State → List ℕ → Upload → State
with_upload t id upload = record t { uploads = insert t.uploads id upload }

abbrev pub with_part : State → List ℕ → Upload → ℕ → StoredPart → State
with_part t id upload number part =
    with_upload t id (record upload { parts = insert upload.parts number part })

-- the upload goes from those that are open to those that ended
abbrev pub with_ended : State → List ℕ → Ended → State
with_ended t id how = record t { uploads = remove t.uploads id; ended = insert t.ended id how }

abbrev pub with_token : State → List ℕ → List ℕ → State
with_token t token after = record t { tokens = insert t.tokens token after }
