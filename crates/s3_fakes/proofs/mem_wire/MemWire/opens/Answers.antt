use Rattle.std.proofs.Common.{rules}
use Rattle.s3_fakes.proofs.mem_wire.MemWire.opens.Goals as goal

pub returns : goal.returns
returns g c = search rules
