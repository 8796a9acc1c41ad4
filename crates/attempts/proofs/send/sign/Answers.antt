use Rattle.std.proofs.Common.{rules}
use Rattle.attempts.proofs.send.sign.Goals as goal

pub returns-clause-signed : goal.returns-clause-signed
returns-clause-signed g c = search rules
