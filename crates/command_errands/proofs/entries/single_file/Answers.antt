use Rattle.command_errands.proofs.EntryLemmas.{files_are}
use Rattle.command_errands.proofs.entries.single_file.Goals as goal

pub returns-clause-entries : goal.returns-clause-entries
returns-clause-entries c = files_are c.one_entry.result c.args.entry c.one_entry.ensures
