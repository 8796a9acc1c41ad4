use Rattle.std.proofs.Common.{rules}
use Rattle.jobs.proofs.ask.content_of.Goals as goal

pub returns-in-Copy : goal.returns-in-Copy
returns-in-Copy c = search rules
