use Rattle.std.proofs.Common.{rules}
use Rattle.s3_words.proofs.given.times_of.Goals as goal

pub returns-then-is_given-2 : goal.returns-then-is_given-2
returns-then-is_given-2 c = search rules
