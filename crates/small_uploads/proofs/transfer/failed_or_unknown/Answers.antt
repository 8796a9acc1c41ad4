use Rattle.std.proofs.Common.{rules}
use Rattle.small_uploads.proofs.transfer.failed_or_unknown.Goals as goal

pub returns-then-is_open : goal.returns-then-is_open
returns-then-is_open c = search rules
