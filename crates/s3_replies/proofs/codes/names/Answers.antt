use Rattle.std.proofs.Common.{refl}
use Rattle.s3_replies.specs.ErrorCodes.{code_names}
use Rattle.s3_replies.proofs.codes.names.Goals as goal

pub returns : goal.returns
unfolding code_names
returns c = refl
