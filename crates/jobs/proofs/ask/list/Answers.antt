use Rattle.std.proofs.Common.{rules}
use Rattle.jobs.proofs.ask.list.Goals as goal

pub returns : goal.returns
returns c = search rules
