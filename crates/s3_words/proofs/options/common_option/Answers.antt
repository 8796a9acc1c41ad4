use Rattle.std.proofs.Common.{rules}
use Rattle.s3_words.proofs.options.common_option.Goals as goal

pub returns-in-text-2 : goal.returns-in-text-2
returns-in-text-2 c = search rules
