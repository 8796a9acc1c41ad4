-- Services for examples: a bucket that is empty, and objects whose ETag is their content.
use Rattle.std.specs.Prelude.{ℕ, List}
use Rattle.std.specs.FinMap.{insert, empty}
use Rattle.s3_service.specs.ServiceState.{State, Object}

-- the object with these bytes, under themselves
abbrev pub object_of : List ℕ → Object
object_of bytes = record { bytes = bytes; etag = bytes; micros = 0 }

-- a service with one bucket, which is empty
abbrev pub one_bucket : List ℕ → State
one_bucket bucket = record { objects = insert empty bucket empty; uploads = empty; ended = empty; tokens = empty }
