use Rattle.std.proofs.Common.{refl, rules}
use Rattle.step_jobs.proofs.step_jobs.StepJobs.form.Goals as goal

pub returns-clause-formed : goal.returns-clause-formed
returns-clause-formed c = record {
  id = refl;
  for = (search rules, search rules, refl, refl);
  part = refl;
  has_cell = search rules;
  cell = search rules;
  first = refl;
}

pub invariant_of-result : goal.invariant_of-result
invariant_of-result c = record {
  asks = search rules;
  has_range = search rules;
  has_part = search rules;
  hashed = search rules;
  had_few = search rules;
}
