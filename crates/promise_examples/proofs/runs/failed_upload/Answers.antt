use Rattle.promise_examples.proofs.FailedUpload.{failed_upload_is_met}
use Rattle.promise_examples.proofs.runs.failed_upload.Goals as goal

pub returns : goal.returns
returns c = failed_upload_is_met
