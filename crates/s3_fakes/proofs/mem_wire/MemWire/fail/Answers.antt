use Rattle.std.proofs.Common.{rules}
use Rattle.s3_fakes.proofs.mem_wire.MemWire.fail.Goals as goal

pub returns-clause-counted : goal.returns-clause-counted
returns-clause-counted g c = search rules
