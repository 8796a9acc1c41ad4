-- The contexts of the code, and what they are to the definitions.
use Rattle.std.specs.Prelude.{◌++◌, ℕ, Bool, false, List, Option, Some, None}
use Rattle.std.specs.Option.{option_copied}
use Rattle.std.specs.Str.{bytes_eq}
use Rattle.aws_profile.specs.declared.context.Context.{Context}
use Rattle.aws_profile.specs.declared.context.Sought.{Sought}
use Rattle.aws_profile.specs.Sections.{Above}

abbrev pub section_name : Sought → List ℕ
section_name sought = sought.front.now ++ sought.profile.now

abbrev pub above : Context → Above
above context = record { section = option_copied context.section; parent = option_copied context.parent }

-- the section is this one
abbrev pub is_inside : List ℕ → Option (List ℕ) → Bool
is_inside name None = false
is_inside name (Some section) = bytes_eq section name
