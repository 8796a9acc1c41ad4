use Rattle.rare_runs.proofs.PartBuffers.{buffers_are_met, buffers_are_refused}
use Rattle.rare_runs.proofs.neighbours.buffers.Goals as goal

pub returns-clause-met : goal.returns-clause-met
returns-clause-met c = buffers_are_met

pub returns-clause-refused : goal.returns-clause-refused
returns-clause-refused c = buffers_are_refused
