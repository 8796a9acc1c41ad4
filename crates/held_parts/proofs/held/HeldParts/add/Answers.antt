use Rattle.std.proofs.Common.{rules}
use Rattle.held_parts.proofs.held.HeldParts.add.Goals as goal

pub returns-clause-held : goal.returns-clause-held
returns-clause-held c = search rules
