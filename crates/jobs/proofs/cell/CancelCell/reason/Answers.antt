use Rattle.std.proofs.Common.{rules}
use Rattle.jobs.proofs.cell.CancelCell.reason.Goals as goal

pub returns : goal.returns
returns c = search rules
