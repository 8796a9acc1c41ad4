use Rattle.std.proofs.Common.{rules}
use Rattle.held_parts.proofs.held.HeldParts.has_free.Goals as goal

pub returns-clause-free : goal.returns-clause-free
returns-clause-free c = search rules
