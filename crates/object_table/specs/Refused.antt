-- Answers that are no refusal.
use Rattle.std.specs.Prelude.{Result, Ok, Err}
use Rattle.object_table.specs.declared.fault.TableFault.{TableFault}
use Rattle.object_table.specs.declared.fault.TableFault.TheVariants.{Refused, Memory}

-- It was served, or memory ran out.
abbrev pub IsNotRefused : {A : Type 0} → Result A TableFault → Type 0
IsNotRefused (Ok value) = Unit {0}
IsNotRefused (Err (Refused why)) = ⊥
IsNotRefused (Err Memory) = Unit {0}
