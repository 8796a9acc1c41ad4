-- What is seen of files in memory.
use Rattle.std.specs.Prelude.{Bool, List, Option, Some, None, if◌then◌else◌}
use Rattle.s3_model.specs.Files.{FileStore}
use Rattle.s3_outside.specs.Files.{SeenFiles}
use Rattle.s3_outside.specs.declared.files.FileNote.{FileNote}

abbrev pub seen_files : Bool → FileStore → List FileNote → Option SeenFiles
seen_files is_seen store calls = if is_seen then Some (record { store = store; calls = calls }) else None
