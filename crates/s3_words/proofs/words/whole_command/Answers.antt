use Rattle.std.proofs.Common.{rules}
use Rattle.s3_words.proofs.words.whole_command.Goals as goal

pub returns-in-Some-take-clause-fault : goal.returns-in-Some-take-clause-fault
returns-in-Some-take-clause-fault c = search rules
