use Rattle.file_table.proofs.NameLemmas.{on_ok}
use Rattle.file_table.proofs.Stores.{placed}
use Rattle.file_table.proofs.table.make_place.Goals as goal

pub returns-clause-made : goal.returns-clause-made
returns-clause-made c = on_ok c.insert.result (λ put. placed c.args.held.now c.insert.new.self c.args.path.now c.empty.result put) c.insert.ensures.put
