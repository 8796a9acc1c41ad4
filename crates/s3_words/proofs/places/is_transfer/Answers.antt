use Rattle.std.proofs.Common.{rules}
use Rattle.s3_words.proofs.places.is_transfer.Goals as goal

pub returns-then-recursive : goal.returns-then-recursive
returns-then-recursive c = search rules
