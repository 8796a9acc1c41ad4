-- What a command is to transfer or remove, and the names of its two sides.
use Rattle.std.specs.Prelude.{◌≡◌, ◌≤◌, ◌==◌, ◌&&◌, ◌||◌, ◌++◌, ⊤, ℕ, Bool, false, not, List, [], Option, Some, None}
use Rattle.std.specs.Prelude.{length, drop, map, filter, codes, nat_eq, if◌then◌else◌}
use Rattle.std.specs.List.{ends_with, starts_with}
use Rattle.std.specs.Str.{bytes_eq}
use Rattle.s3_model.specs.ContentTypes.{last_name}
use Rattle.s3_model.specs.declared.faults.KeySkip.{KeySkip}
use Rattle.s3_model.specs.declared.places.Entry.{Entry}
use Rattle.s3_model.specs.declared.places.Place.{Place}
use Rattle.s3_model.specs.declared.places.Place.TheVariants as place
use Rattle.s3_model.specs.declared.tasks.Kind.{Kind}
use Rattle.s3_model.specs.declared.tasks.Kind.TheVariants as kind
use Rattle.s3_paths.specs.Names.{key_skip, local_path, name_skip}
use Rattle.list_walk.specs.Pages.{AllBeginWith}
use Rattle.s3_model.specs.Entries.{IsAscending, keys_of}

-- ---- places and names

abbrev pub text_of : Place → List ℕ
text_of (place.Object bucket key) = key
text_of (place.File path) = path

-- what stands below a prefix or a folder at a relative path
abbrev pub place_at : Place → (path : List ℕ) → Place
place_at (place.Object bucket key) path = place.Object bucket (key ++ path)
place_at (place.File root) path = place.File (local_path root path)

-- what follows a prefix in a key that begins with it
unfoldable pub behind_prefix : (prefix key : List ℕ) → List ℕ
behind_prefix prefix key = if starts_with nat_eq key prefix then drop (length prefix) key else []

-- what follows a place in a key listed below it; files are listed by their relative paths
abbrev pub behind : Place → (key : List ℕ) → List ℕ
behind (place.Object bucket prefix) key = behind_prefix prefix key
behind (place.File root) key = key

-- the relative path of an entry: where there may be many, what follows the place, else the base name of the place
abbrev pub relative : Place → (many : Bool) → Entry → List ℕ
relative of_place many entry = if many then behind of_place entry.key else last_name (text_of of_place)

-- a folder marker: an entry whose key ends in `/`, with size 0
abbrev pub is_marker : Entry → Bool
is_marker entry = ends_with nat_eq entry.key (codes "/") && entry.size == 0

abbrev pub named : Place → (many : Bool) → Entry → List ℕ × Entry
named of_place many entry = (relative of_place many entry, entry)

-- the names of one side, without folder markers
unfoldable pub names_of : Place → (many : Bool) → List Entry → List (List ℕ × Entry)
names_of of_place many entries = map (named of_place many) (filter (λ entry. not (is_marker entry)) entries)

-- ---- where a name comes from and goes to

abbrev pub source_at : (from : Place) → (many : Bool) → (path : List ℕ) → Place
source_at from many path = if many then place_at from path else from

-- a bucket's whole, a prefix or a folder, which gets the base name of a single source
abbrev pub takes_name : Place → Bool
takes_name (place.Object bucket key) = length key == 0 || ends_with nat_eq key (codes "/")
takes_name (place.File path) = ends_with nat_eq path (codes "/")

abbrev pub is_joined : (to : Place) → (many : Bool) → Bool
is_joined to many = many || takes_name to

abbrev pub dest_at : (to : Place) → (many : Bool) → (path : List ℕ) → Place
dest_at to many path = if is_joined to many then place_at to path else to

-- Why a name is left out: its key would be empty or too long, or a file must not get its name. A file whose whole path
-- is given may have any name.
abbrev pub skip_by : (to : Place) → (joined : Bool) → (path : List ℕ) → Option KeySkip
skip_by (place.Object bucket key) joined path = key_skip (if joined then key ++ path else key)
skip_by (place.File root) joined path = if joined then name_skip path else None

abbrev pub skip_of : (to : Place) → (many : Bool) → (path : List ℕ) → Option KeySkip
skip_of to many path = skip_by to (is_joined to many) path

-- ---- what a call may be given

-- the kinds of place that each kind of transfer reads and writes
abbrev pub TransfersBetween : Kind → (from : Place) → (to : Option Place) → Type 0
TransfersBetween kind.Upload (place.File path) (Some (place.Object bucket key)) = ⊤
TransfersBetween kind.Download (place.Object bucket key) (Some (place.File path)) = ⊤
TransfersBetween kind.Copy (place.Object b k) (Some (place.Object bucket key)) = ⊤
TransfersBetween of_kind from to = ⊥

-- the kind of place that each kind of removal takes away, and no other place
abbrev pub RemovesFrom : Kind → (from : Place) → (to : Option Place) → Type 0
RemovesFrom kind.RemoveObject (place.Object bucket key) None = ⊤
RemovesFrom kind.RemoveFile (place.File path) None = ⊤
RemovesFrom of_kind from to = ⊥

-- listed keys begin with the key that they are listed by
abbrev pub AreBelow : Place → List Entry → Type 0
AreBelow (place.Object bucket key) entries = AllBeginWith key (keys_of entries)
AreBelow (place.File path) entries = ⊤

-- a list of entries of a place: in byte order, each name once; where there is not to be more than one, there is not
pub record AreEntries (of_place : Place) (many : Bool) (entries : List Entry) : Type 0 where
  pub ascending : IsAscending (keys_of entries)
  pub below : AreBelow of_place entries
  pub single : many ≡ false → length entries ≤ 1

abbrev pub AreEntriesAt : (to : Option Place) → (many : Bool) → (entries : List Entry) → Type 0
AreEntriesAt None many entries = ⊤
AreEntriesAt (Some to) many entries = AreEntries to many entries

-- objects are read in the bucket in which they are written
abbrev pub is_one_bucket : (from to : Place) → Bool
is_one_bucket (place.Object bucket key) (place.Object other k) = bytes_eq bucket other
is_one_bucket from to = false
