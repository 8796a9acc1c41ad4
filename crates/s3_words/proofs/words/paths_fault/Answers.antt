use Rattle.std.proofs.Common.{rules}
use Rattle.s3_words.proofs.words.paths_fault.Goals as goal

pub returns : goal.returns
returns c = search rules
