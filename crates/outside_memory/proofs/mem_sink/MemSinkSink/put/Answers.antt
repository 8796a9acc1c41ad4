use Rattle.std.proofs.lemmas.Grind.{common_steps}
use Rattle.std.proofs.Common.{rules, arith}
use Rattle.outside_memory.proofs.mem_sink.MemSinkSink.put.Goals as goal

pub returns-clause-got : goal.returns-clause-got
returns-clause-got c = search rules

pub returns-clause-progress : goal.returns-clause-progress
returns-clause-progress c = grind (arith, common_steps)
