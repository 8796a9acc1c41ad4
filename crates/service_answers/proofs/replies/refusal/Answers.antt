use Rattle.std.proofs.Common.{rules}
use Rattle.service_answers.proofs.replies.refusal.Goals as goal

pub returns : goal.returns
returns c = search rules
