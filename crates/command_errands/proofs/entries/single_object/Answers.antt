use Rattle.command_errands.proofs.EntryLemmas.{objects_are}
use Rattle.command_errands.proofs.entries.single_object.Goals as goal

pub returns-in-Ok-clause-entries : goal.returns-in-Ok-clause-entries
returns-in-Ok-clause-entries c = objects_are c.one_entry.result c.args.from.now _ c.requires.object c.in-Ok.ensures c.one_entry.ensures
