use Rattle.std.proofs.Common.{rules}
use Rattle.s3_fakes.proofs.gate_wire.GateWireWire.take.Goals as goal

pub returns-then-not-is_open-clause-log : goal.returns-then-not-is_open-clause-log
returns-then-not-is_open-clause-log g c = search rules

pub returns-then-not-is_open-clause-alive : goal.returns-then-not-is_open-clause-alive
returns-then-not-is_open-clause-alive g c = search rules

pub returns-then-not-is_open-clause-cause : goal.returns-then-not-is_open-clause-cause
returns-then-not-is_open-clause-cause g c = search rules
