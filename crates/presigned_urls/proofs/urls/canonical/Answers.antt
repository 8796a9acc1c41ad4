use Rattle.std.proofs.Common.{rules}
use Rattle.presigned_urls.proofs.urls.canonical.Goals as goal

pub returns : goal.returns
returns c = search rules
