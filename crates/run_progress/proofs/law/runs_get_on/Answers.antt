use Rattle.run_progress.proofs.OutJobs.{out_is_in_lanes}
use Rattle.run_progress.proofs.Progress.{runs_end_whole, tasks_have_ended, waits_are_for_jobs}
use Rattle.run_progress.proofs.law.runs_get_on.Goals as goal

pub returns : goal.returns
returns c = record { ends = runs_end_whole; outcomes = tasks_have_ended; waits = waits_are_for_jobs; out = out_is_in_lanes }
