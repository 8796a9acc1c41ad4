use Rattle.std.proofs.Common.{rules}
use Rattle.reply_xml.proofs.leaves.has_form.Goals as goal

pub returns-in-UploadId : goal.returns-in-UploadId
returns-in-UploadId c = search rules
