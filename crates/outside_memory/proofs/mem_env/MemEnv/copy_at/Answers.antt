use Rattle.std.proofs.Common.{rules}
use Rattle.outside_memory.proofs.mem_env.MemEnv.copy_at.Goals as goal

pub returns-in-Ok-clause-bound : goal.returns-in-Ok-clause-bound
returns-in-Ok-clause-bound c = search rules

pub returns-in-None-clause-value : goal.returns-in-None-clause-value
returns-in-None-clause-value c = search rules
