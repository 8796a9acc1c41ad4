-- Room for what a run keeps.
use Rattle.std.specs.Prelude.{◌≡◌, ◌≤◌, []}
use Rattle.run_task.specs.declared.task.Lists.{Lists}

-- the lists of a run are empty, with room for one task, its outcome, and the two events of its job
pub record HasRoom (lists : Lists) : Type 0 where
  pub no_task : lists.tasks.items ≡ []
  pub for_task : 1 ≤ lists.tasks.spare
  pub no_outcome : lists.outcomes.items ≡ []
  pub for_outcome : 1 ≤ lists.outcomes.spare
  pub no_job : lists.journal.items ≡ []
  pub for_job : 2 ≤ lists.journal.spare
