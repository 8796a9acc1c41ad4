use Rattle.std.proofs.Common.{rules}
use Rattle.s3_paths.proofs.UriLemmas.{IsUri-read, printed_read}
use Rattle.s3_paths.proofs.uris.S3Uri.read.Goals as goal

pub returns-in-Ok-Ok-clause-uri : goal.returns-in-Ok-Ok-clause-uri
returns-in-Ok-Ok-clause-uri c = IsUri-read _ _ _ (search rules) (search rules) (search rules)

pub returns-in-Ok-Ok-clause-printed : goal.returns-in-Ok-Ok-clause-printed
returns-in-Ok-Ok-clause-printed c = printed_read _ _ _ (search rules) (search rules) (search rules)
