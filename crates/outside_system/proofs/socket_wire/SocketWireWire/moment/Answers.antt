use Rattle.std.proofs.Common.{rules}
use Rattle.outside_system.proofs.socket_wire.SocketWireWire.moment.Goals as goal

pub returns-clause-bound : goal.returns-clause-bound
returns-clause-bound g c = search rules
