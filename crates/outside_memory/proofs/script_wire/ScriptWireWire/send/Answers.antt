use Rattle.std.proofs.lemmas.Grind.{common_steps}
use Rattle.std.proofs.Common.{rules, arith}
use Rattle.outside_memory.proofs.script_wire.ScriptWireWire.send.Goals as goal

pub returns-clause-log : goal.returns-clause-log
returns-clause-log c = search rules

pub returns-clause-progress : goal.returns-clause-progress
returns-clause-progress c = grind (arith, common_steps)
