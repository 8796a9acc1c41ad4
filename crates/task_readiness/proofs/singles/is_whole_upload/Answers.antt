use Rattle.std.proofs.Common.{rules}
use Rattle.task_readiness.proofs.singles.is_whole_upload.Goals as goal

pub returns-then-has_done : goal.returns-then-has_done
returns-then-has_done c = search rules
