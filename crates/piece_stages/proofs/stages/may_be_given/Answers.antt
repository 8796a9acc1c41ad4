use Rattle.std.proofs.Common.{rules}
use Rattle.piece_stages.proofs.stages.may_be_given.Goals as goal

pub returns-in-Waiting : goal.returns-in-Waiting
returns-in-Waiting c = search rules
