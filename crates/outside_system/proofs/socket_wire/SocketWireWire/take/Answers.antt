use Rattle.std.proofs.Common.{rules}
use Rattle.outside_system.proofs.socket_wire.SocketWireWire.take.Goals as goal

pub returns-in-Err-clause-cause : goal.returns-in-Err-clause-cause
returns-in-Err-clause-cause g c = search rules
