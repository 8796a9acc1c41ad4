use Rattle.std.proofs.Common.{rules}
use Rattle.service_answers.proofs.answer.Answer.without_body.Goals as goal

pub returns-clause-length : goal.returns-clause-length
returns-clause-length c = search rules
