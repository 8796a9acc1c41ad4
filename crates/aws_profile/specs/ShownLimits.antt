-- What the numbers of the code are to the definitions.
use Rattle.std.specs.Prelude.{ℕ, List, Option, option_map}
use Rattle.aws_profile.specs.declared.limits.Limit.{Limit}
use Rattle.aws_profile.specs.declared.limits.Misread as code
use Rattle.aws_profile.specs.Answers.{Misread}

abbrev pub misread_shown : code.Misread → Misread
misread_shown bad = record { line = bad.line; name = bad.name.now }

abbrev pub misread_at : List ℕ → ℕ → Misread
misread_at name line = record { line = line; name = name }

abbrev pub misread_in : Limit → Option Misread
misread_in limit = option_map (misread_at limit.name.now) limit.bad_line
