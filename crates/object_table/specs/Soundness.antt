-- What is true of every state that a service comes to.
use Rattle.std.specs.Prelude.{◌≡◌, ℕ, List, Some, IsNone, IsSome}
use Rattle.std.specs.FinMap.{get}
use Rattle.s3_model.specs.Maps.{MapOf}
use Rattle.s3_service.specs.ServiceState.{Object, Upload, Ended}

-- Each open upload has its bucket, and its id is none that ended.
abbrev pub AreSound : MapOf (MapOf Object) → MapOf Upload → MapOf Ended → Type 0
AreSound objects uploads ended =
    (id : List ℕ) (upload : Upload) → get uploads id ≡ Some upload
    → IsSome (get objects upload.bucket) × IsNone (get ended id)
