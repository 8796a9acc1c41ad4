use Rattle.run_rows.proofs.RunLemmas.{is_due}
use Rattle.run_rows.proofs.runs.conductor.Conductor.finish.Goals as goal

pub finish-plan-requires : goal.finish-plan-requires
finish-plan-requires c = is_due c.requires
