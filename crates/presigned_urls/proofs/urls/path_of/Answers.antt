use Rattle.std.proofs.Common.{rules}
use Rattle.presigned_urls.proofs.urls.path_of.Goals as goal

pub returns : goal.returns
returns c = search rules
