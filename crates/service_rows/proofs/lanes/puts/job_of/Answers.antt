use Rattle.std.proofs.Common.{refl, arith}
use Rattle.std.specs.Arc.{arc_value}
use Rattle.small_uploads.proofs.JobLemmas.{put_asks}
use Rattle.service_rows.proofs.lanes.puts.job_of.Goals as goal

pub invariant_of-result : goal.invariant_of-result
invariant_of-result c = record {
  asks = put_asks (arc_value c.args.task) c.requires (0, c.args.size);
  has_range = tt;
  has_part = refl;
  hashed = tt;
  had_few = omega arith;
}
