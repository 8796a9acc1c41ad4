-- Tasks of runs that show that the laws can be met.
use Rattle.std.specs.Prelude.{ℕ, Bool, true, false, List, [], Some, None}
use Rattle.s3_model.specs.declared.places.Place.TheVariants as place
use Rattle.s3_model.specs.declared.tasks.Kind.TheVariants as kind
use Rattle.s3_model.specs.declared.tasks.Task.{Task}

-- a file to an object
abbrev pub upload : (bucket key path : List ℕ) → (size : ℕ) → (fresh : Bool) → Task
upload bucket key path size fresh = record {
  kind = kind.Upload;
  moves = false;
  source = Some (place.File path);
  dest = place.Object bucket key;
  size = size;
  etag = [];
  micros = 0;
  content = None;
  fresh = fresh;
}

-- an object to another, which is then deleted
abbrev pub moved_copy : (bucket key from_bucket from_key etag : List ℕ) → (size : ℕ) → Task
moved_copy bucket key from_bucket from_key etag size = record {
  kind = kind.Copy;
  moves = true;
  source = Some (place.Object from_bucket from_key);
  dest = place.Object bucket key;
  size = size;
  etag = etag;
  micros = 0;
  content = None;
  fresh = false;
}

abbrev pub removal : (bucket key : List ℕ) → Task
removal bucket key = record {
  kind = kind.RemoveObject;
  moves = false;
  source = None;
  dest = place.Object bucket key;
  size = 0;
  etag = [];
  micros = 0;
  content = None;
  fresh = false;
}
