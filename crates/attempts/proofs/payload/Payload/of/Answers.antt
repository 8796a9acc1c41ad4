use Rattle.std.proofs.Common.{rules}
use Rattle.attempts.proofs.payload.Payload.of.Goals as goal

pub returns-in_ok-document-in_default : goal.returns-in_ok-document-in_default
returns-in_ok-document-in_default c = search rules
