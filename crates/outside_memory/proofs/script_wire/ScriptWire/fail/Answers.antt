use Rattle.std.proofs.Common.{rules}
use Rattle.outside_memory.proofs.script_wire.ScriptWire.fail.Goals as goal

pub returns-clause-alive : goal.returns-clause-alive
returns-clause-alive c = search rules
