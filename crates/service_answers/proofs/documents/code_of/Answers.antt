use Rattle.std.proofs.Common.{rules}
use Rattle.service_answers.proofs.documents.code_of.Goals as goal

pub returns-in-NoSuchKey : goal.returns-in-NoSuchKey
returns-in-NoSuchKey c = search rules
