use Rattle.std.proofs.Common.{rules}
use Rattle.outside_memory.proofs.script_wire.ScriptWire.count_opening.Goals as goal

pub returns-then-not-is_last_service-clause-opened : goal.returns-then-not-is_last_service-clause-opened
returns-then-not-is_last_service-clause-opened c = search rules

pub returns-else-begun-clause-opened : goal.returns-else-begun-clause-opened
returns-else-begun-clause-opened c = search rules
