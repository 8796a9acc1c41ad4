-- The content type that a file's name stands for.
use Rattle.std.specs.Prelude.{◌==◌, ℕ, List, [], ◌∷◌, Option, Some, None, codes, if◌then◌else◌}
use Rattle.std.specs.List.{after_last, list_any}
use Rattle.std.specs.Option.{option_and_then}
use Rattle.std.specs.Map.{lookup}
use Rattle.std.specs.Str.{bytes_eq, str_to_ascii_lowercase}

-- extensions with their types
unfoldable pub content_types : List (List ℕ × List ℕ)
content_types =
    (codes "txt", codes "text/plain") ∷ (codes "html", codes "text/html") ∷ (codes "htm", codes "text/html")
    ∷ (codes "css", codes "text/css")
    ∷ (codes "csv", codes "text/csv") ∷ (codes "js", codes "text/javascript")
    ∷ (codes "json", codes "application/json") ∷ (codes "xml", codes "text/xml")
    ∷ (codes "pdf", codes "application/pdf") ∷ (codes "png", codes "image/png")
    ∷ (codes "jpg", codes "image/jpeg") ∷ (codes "jpeg", codes "image/jpeg")
    ∷ (codes "gif", codes "image/gif") ∷ (codes "svg", codes "image/svg+xml") ∷ (codes "mp4", codes "video/mp4")
    ∷ (codes "mp3", codes "audio/mpeg") ∷ []

-- what follows the last `/`, or all of the path
abbrev pub last_name : List ℕ → List ℕ
last_name path = after_last (λ byte. byte == 47) path

-- what follows the last `.` of the last name
abbrev pub extension_of : List ℕ → Option (List ℕ)
extension_of path = if list_any (λ byte. byte == 46) (last_name path)
    then Some (after_last (λ byte. byte == 46) (last_name path)) else None

-- the type of an extension, whatever the case of its ASCII letters
unfoldable pub type_of_extension : List ℕ → Option (List ℕ)
type_of_extension extension = lookup (bytes_eq (str_to_ascii_lowercase extension)) content_types

abbrev pub content_type_of : List ℕ → Option (List ℕ)
content_type_of path = option_and_then type_of_extension (extension_of path)
