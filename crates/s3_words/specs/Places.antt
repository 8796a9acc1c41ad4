-- The paths of a command: what a path is, how many a command wants, and which of them fit it.
use Rattle.std.specs.Prelude.{◌&&◌, ◌||◌, ◌==◌, ℕ, Bool, true, false, not, List, [], ◌∷◌, is_none, map, codes, nat_eq}
use Rattle.std.specs.Prelude.{nat_le, if◌then◌else◌}
use Rattle.std.specs.List.{list_any, list_all, starts_with, ends_with}
use Rattle.std.specs.Str.{bytes_eq}
use Rattle.s3_model.specs.declared.places.Place.{Place}
use Rattle.s3_model.specs.declared.places.Place.TheVariants.{Object, File}
use Rattle.s3_paths.specs.Uris.{bucket_in, key_in, uri_fault}
use Rattle.s3_words.specs.declared.commands.Verb.{Verb}
use Rattle.s3_words.specs.declared.commands.Verb.TheVariants.{Sync, Rm, Ls, Presign}
use Rattle.s3_words.specs.Options.{transfers}
use Rattle.s3_words.specs.Roles.{Role}
use Rattle.s3_words.specs.Given.{paths_in}
use Rattle.s3_words.specs.Values.{is_empty}

-- a path begins with `s3://` and is an S3 URI, or is local
abbrev pub is_s3 : List ℕ → Bool
is_s3 text = starts_with nat_eq text (codes "s3://")

abbrev pub is_path : List ℕ → Bool
is_path text = if is_s3 text then is_none (uri_fault text) else not (is_empty text) && not (bytes_eq text (codes "-"))

abbrev pub place_of : List ℕ → Place
place_of text = if is_s3 text then Object (bucket_in text) (key_in text) else File text

abbrev pub places_in : List Role → List Place
places_in roles = map place_of (paths_in roles)

-- how many paths a command wants, or for `ls` how many at most
abbrev pub wanted : Verb → ℕ
wanted verb = if transfers verb then 2 else 1

abbrev pub is_right_count : Verb → ℕ → Bool
is_right_count Ls found = nat_le found 1
is_right_count verb found = found == wanted verb

abbrev pub is_object : Place → Bool
is_object (Object bucket key) = true
is_object (File path) = false

-- not a whole bucket
abbrev pub has_key : Place → Bool
has_key (Object bucket key) = not (is_empty key)
has_key (File path) = false

-- a local path, or a key that names one object
abbrev pub is_single_source : Place → Bool
is_single_source (Object bucket key) = not (is_empty key) && not (ends_with nat_eq key (codes "/"))
is_single_source (File path) = true

abbrev pub first_is_single_source : List Place → Bool
first_is_single_source [] = true
first_is_single_source (place ∷ places) = is_single_source place

-- the places fit the command, where they are as many as it wants
abbrev pub is_pair : Verb → Bool → List Place → Bool
is_pair Ls recursive places = list_all is_object places
is_pair Presign recursive places = list_all has_key places
is_pair Rm recursive places = list_all is_object places && (recursive || list_all has_key places)
is_pair Sync recursive places = list_any is_object places
is_pair verb recursive places = list_any is_object places && (recursive || first_is_single_source places)
