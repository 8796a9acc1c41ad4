use Rattle.std.proofs.Common.{arith}
use Rattle.std.proofs.lemmas.Grind.{common_steps}
use Rattle.s3_words.proofs.reader.Reader.next_index.Goals as goal

pub returns : goal.returns
returns c = grind (arith, common_steps)
