use Rattle.chunk_plan.proofs.Pieces.{pieces_cover}
use Rattle.chunk_plan.proofs.cover.pieces_cover_the_object.Goals as goal

pub returns-clause-cover : goal.returns-clause-cover
returns-clause-cover c = pieces_cover
