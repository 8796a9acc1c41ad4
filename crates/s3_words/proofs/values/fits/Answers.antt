use Rattle.std.proofs.Common.{rules}
use Rattle.s3_words.proofs.values.fits.Goals as goal

pub returns-in-NoValue : goal.returns-in-NoValue
returns-in-NoValue c = search rules
