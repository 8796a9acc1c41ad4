use Rattle.std.proofs.Common.{rules}
use Rattle.service_answers.proofs.replies.got.Goals as goal

pub returns-clause-body : goal.returns-clause-body
returns-clause-body c = search rules
