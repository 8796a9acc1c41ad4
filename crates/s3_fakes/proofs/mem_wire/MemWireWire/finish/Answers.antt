use Rattle.std.proofs.Common.{rules}
use Rattle.s3_fakes.proofs.mem_wire.MemWireWire.finish.Goals as goal

pub returns-clause-alive : goal.returns-clause-alive
returns-clause-alive g c = search rules
