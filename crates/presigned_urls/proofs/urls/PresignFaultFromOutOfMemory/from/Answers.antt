use Rattle.std.proofs.Common.{rules}
use Rattle.presigned_urls.proofs.urls.PresignFaultFromOutOfMemory.from.Goals as goal

pub returns : goal.returns
returns c = search rules
