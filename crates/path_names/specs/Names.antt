-- What stands before a `/` at the end.
use Rattle.std.specs.Prelude.{◌-◌, ℕ, List, codes, length, nat_eq, take, if◌then◌else◌}
use Rattle.std.specs.List.{ends_with}

-- without the `/` at its end, if it has one there
abbrev pub without_slash : List ℕ → List ℕ
without_slash path = if ends_with nat_eq path (codes "/") then take (length path - 1) path else path
