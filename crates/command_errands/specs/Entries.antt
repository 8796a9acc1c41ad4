-- The entry of a single object or file.
use Rattle.std.specs.Prelude.{ℕ, List, [], Some}
use Rattle.s3_model.specs.ContentTypes.{last_name}
use Rattle.s3_model.specs.Places.{key_at}
use Rattle.s3_model.specs.declared.places.Entry.{Entry}
use Rattle.s3_model.specs.declared.places.Place.{Place}

abbrev pub object_entry : Place → (size : ℕ) → (etag : List ℕ) → (micros : ℕ) → Entry
object_entry from size etag micros = record { key = key_at (Some from); size = size; etag = etag; micros = micros }

-- one that is removed by its key alone
abbrev pub removal_entry : Place → Entry
removal_entry from = object_entry from 0 [] 0

abbrev pub file_entry : (path : List ℕ) → (size micros : ℕ) → Entry
file_entry path size micros = record { key = last_name path; size = size; etag = []; micros = micros }
