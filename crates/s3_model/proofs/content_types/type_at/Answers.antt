use Rattle.s3_model.specs.ContentTypes.{content_types}
use Rattle.s3_model.proofs.content_types.type_at.Goals as goal

pub returns : goal.returns
unfolding content_types
returns c = c.name_of_row.ensures
