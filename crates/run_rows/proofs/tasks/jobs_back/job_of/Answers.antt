use Rattle.std.proofs.Common.{arith}
use Rattle.std.specs.Arc.{arc_value}
use Rattle.run_rows.proofs.JobLemmas.{asks, some_bytes}
use Rattle.run_rows.proofs.tasks.jobs_back.job_of.Goals as goal

pub invariant_of-result : goal.invariant_of-result
invariant_of-result c = record {
  asks = asks (arc_value c.args.task) (0, 1) c.upload_id-upload.result c.make-etags.result c.args.id.number c.args.id.op c.requires.step c.requires.task;
  has_range = some_bytes c.args.id.op c.args.id.number;
  has_part = c.requires.part;
  hashed = tt;
  had_few = omega arith;
}
