use Rattle.s3_model.proofs.Rows.{row_name}
use Rattle.s3_model.proofs.content_types.name_of_row.Goals as goal

pub returns : goal.returns
returns c = row_name c.args.names.now c.args.row _ c.requires
