-- The lines of warnings.
use Rattle.std.specs.Prelude.{◌++◌, ℕ, List, [], codes, decimal}
use Rattle.s3_model.specs.declared.faults.KeySkip.{KeySkip}
use Rattle.s3_model.specs.declared.faults.KeySkip.TheVariants as skip
use Rattle.s3_model.specs.declared.tasks.Warning.{Warning}
use Rattle.s3_model.specs.declared.tasks.Warning.TheVariants as warning
use Rattle.result_lines.specs.Tasks.{place_text}

-- why a name is left out; want of memory is never such a reason
abbrev pub skip_text : KeySkip → List ℕ
skip_text skip.EmptyName = codes "empty name"
skip_text skip.Dots = codes "dot name"
skip_text skip.TempLike = codes "temporary name"
skip_text (skip.LongKey length) = codes "key too long"
skip_text skip.Memory = []

abbrev pub warning_text : Warning → List ℕ
warning_text (warning.Skipped place why) = codes "Skipping " ++ place_text place ++ codes ": " ++ skip_text why
warning_text (warning.Unnamed count) = codes "Skipping " ++ decimal count ++ codes " names that are not UTF-8"
warning_text (warning.NotAFile path) = codes "Skipping " ++ path ++ codes ": not a file"
warning_text (warning.TimeNotSet path) = codes "The time of " ++ path ++ codes " could not be set"
warning_text (warning.TempLeft path) = codes "The temporary file " ++ path ++ codes " could not be removed"

abbrev pub warning_line : Warning → List ℕ
warning_line warned = codes "warning: " ++ warning_text warned ++ codes "\n"

abbrev pub IsShown : Warning → Type 0
IsShown (warning.Skipped place skip.Memory) = ⊥
IsShown other = Unit {0}
