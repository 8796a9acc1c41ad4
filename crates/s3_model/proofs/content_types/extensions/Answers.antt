use Rattle.std.proofs.Common.{refl}
use Rattle.s3_model.specs.ContentTypes.{content_types}
use Rattle.s3_model.proofs.content_types.extensions.Goals as goal

pub returns : goal.returns
unfolding content_types
returns c = refl
