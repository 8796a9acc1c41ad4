use Rattle.std.proofs.Common.{rules}
use Rattle.kept_jobs.proofs.kept.piece_slot.Goals as goal

pub returns-else-number-first : goal.returns-else-number-first
returns-else-number-first c = search rules
