-- The paths of requests, path style (Amazon S3 User Guide, "Path-style requests").
use Rattle.std.specs.Prelude.{◌++◌, ℕ, List, codes}

-- the path of a bucket, and of an object in it
abbrev pub bucket_path : List ℕ → List ℕ
bucket_path bucket = codes "/" ++ bucket

abbrev pub object_path : List ℕ → List ℕ → List ℕ
object_path bucket key = bucket_path bucket ++ codes "/" ++ key
