use Rattle.std.proofs.Common.{rules}
use Rattle.s3_requests.proofs.description.query_of.Goals as goal

pub returns-in-List : goal.returns-in-List
returns-in-List c = search rules
