use Rattle.s3_replies.specs.ErrorCodes.{code_names}
use Rattle.s3_replies.proofs.codes.code_at.Goals as goal

pub returns : goal.returns
unfolding code_names
returns c = c.code_in.ensures
