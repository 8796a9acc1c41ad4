use Rattle.std.proofs.Common.{rules}
use Rattle.s3_words.proofs.places.is_right_count.Goals as goal

pub returns-in-Ls : goal.returns-in-Ls
returns-in-Ls c = search rules
