use Rattle.world_laws.proofs.UploadIds as ids
use Rattle.world_laws.proofs.PartsWitness.{other_upload_is_met}
use Rattle.world_laws.proofs.laws.other_uploads.Goals as goal

pub returns-clause-stay : goal.returns-clause-stay
returns-clause-stay g c = ids.other_uploads_stay g.R.Reading.shows

pub returns-clause-once : goal.returns-clause-once
returns-clause-once g c = ids.ids_are_created_once

pub returns-clause-met : goal.returns-clause-met
returns-clause-met g c = other_upload_is_met
