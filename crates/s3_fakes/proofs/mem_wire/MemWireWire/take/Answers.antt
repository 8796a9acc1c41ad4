use Rattle.std.proofs.Common.{rules}
use Rattle.s3_fakes.proofs.mem_wire.MemWireWire.take.Goals as goal

pub returns-clause-log : goal.returns-clause-log
returns-clause-log g c = search rules
