use Rattle.manager_moves.proofs.ExampleRuns as runs
use Rattle.manager_moves.proofs.examples.buffers.Goals as goal

pub returns-clause-met : goal.returns-clause-met
returns-clause-met c for cell part = runs.downloads_are_a_run for cell part
