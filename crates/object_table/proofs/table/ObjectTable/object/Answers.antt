use Rattle.std.proofs.Common.{ap}
use Rattle.s3_service.specs.ServiceState.{State}
use Rattle.object_table.proofs.Swaps.{no_bucket}
use Rattle.object_table.proofs.table.ObjectTable.object.Goals as goal

pub returns-in-None : goal.returns-in-None
returns-in-None c = no_bucket c.args.self.now c.self.inside.objects c.args.bucket.now c.args.key.now (ap (λ (t : State). t.objects) c.self.view_is) c.in-None.ensures
