use Rattle.std.proofs.Common.{rules}
use Rattle.service_answers.proofs.replies.answer_of.Goals as goal

pub returns-in-Gone-clause-status : goal.returns-in-Gone-clause-status
returns-in-Gone-clause-status c = search rules

pub returns-in-PartStored-clause-body : goal.returns-in-PartStored-clause-body
returns-in-PartStored-clause-body c = search rules
