use Rattle.file_table.proofs.NameLemmas.{first_none, first_some}
use Rattle.file_table.proofs.names.first_part.Goals as goal

pub returns-in-Some : goal.returns-in-Some
returns-in-Some c = first_some c.args.path.now c.in-Some.name.now c.in-Some.field-0-1.now c.in-Some.ensures.cases

pub returns-in-None : goal.returns-in-None
returns-in-None c = first_none c.args.path.now c.in-None.ensures.cases
