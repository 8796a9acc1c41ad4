use Rattle.manager_moves.proofs.ExampleRuns as runs
use Rattle.manager_moves.proofs.examples.uploads.Goals as goal

pub returns-clause-met : goal.returns-clause-met
returns-clause-met c for cell part = runs.uploads_are_runs for cell part
