-- What the local source of an upload comes to (AWS CLI Command Reference, `s3 cp` and `s3 sync`).
use Rattle.std.specs.Prelude.{◌≡◌, ◌≢◌, ℕ, Bool, true, false, List, if◌then◌else◌}
use Rattle.s3_model.specs.declared.faults.PlanFault.TheVariants as plan
use Rattle.s3_outside.specs.declared.files.Shape.{Shape}
use Rattle.s3_outside.specs.declared.files.Shape.TheVariants as shape
use Rattle.command_errands.specs.Entries.{file_entry}
use Rattle.command_errands.specs.declared.sources.LocalSource.{LocalSource}
use Rattle.command_errands.specs.declared.sources.LocalSource.TheVariants as source

-- one file
abbrev pub single_source : (path : List ℕ) → Shape → LocalSource
single_source path shape.Absent = source.Refused (plan.NoSource path)
single_source path shape.Folder = source.Refused (plan.IsFolder path)
single_source path shape.Other = source.NotAFile path
single_source path (shape.File size micros) = source.File (file_entry path size micros)

-- all files below a folder
abbrev pub folder_source : (path : List ℕ) → Shape → LocalSource
folder_source path shape.Absent = source.Refused (plan.NoSource path)
folder_source path shape.Folder = source.Folder
folder_source path stands = source.Refused (plan.NotFolder path)

abbrev pub local_source : (many : Bool) → (path : List ℕ) → Shape → LocalSource
local_source many path stands = if many then folder_source path stands else single_source path stands

-- what stands at the path, where it comes to this
abbrev pub HasCause : (many : Bool) → (path : List ℕ) → Shape → LocalSource → Type 0
HasCause many path stands (source.Refused (plan.NoSource named)) = (named ≡ path) × (stands ≡ shape.Absent)
HasCause many path stands (source.Refused (plan.IsFolder named)) =
    (named ≡ path) × (many ≡ false) × (stands ≡ shape.Folder)
HasCause many path stands (source.Refused (plan.NotFolder named)) =
    (named ≡ path) × (many ≡ true) × (stands ≢ shape.Absent) × (stands ≢ shape.Folder)
HasCause many path stands (source.Refused fault) = ⊥
HasCause many path stands (source.NotAFile named) = (named ≡ path) × (many ≡ false) × (stands ≡ shape.Other)
HasCause many path stands (source.File entry) = (many ≡ false) × (stands ≡ shape.File entry.size entry.micros)
HasCause many path stands source.Folder = (many ≡ true) × (stands ≡ shape.Folder)
