use Rattle.std.proofs.Common.{rules}
use Rattle.s3_requests.proofs.own.write_values.Goals as goal

pub returns-clause-range : goal.returns-clause-range
returns-clause-range c = search rules
