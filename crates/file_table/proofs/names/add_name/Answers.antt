use Rattle.std.proofs.Common.{List, ℕ}
use Rattle.file_table.specs.Names.{IsNamedIn}
use Rattle.file_table.proofs.NameLemmas.{name_added, name_not_added, on_ok, one_name}
use Rattle.file_table.proofs.names.add_name.Goals as goal

pub returns-in-Some : goal.returns-in-Some
returns-in-Some c = record {
  added = on_ok c.insert.result (λ put. name_added (λ (q : List ℕ). IsNamedIn c.args.folder.now q c.args.path.now) c.in-Some.name.now c.args.found.now c.insert.new.self tt put c.in-Some.ensures.named
      (λ q other. one_name c.args.folder.now c.args.path.now q c.in-Some.name.now other c.in-Some.ensures.named)) c.insert.ensures.put;
}

pub returns-in-None : goal.returns-in-None
returns-in-None c = record { added = name_not_added (λ (q : List ℕ). IsNamedIn c.args.folder.now q c.args.path.now) c.args.found.now c.in-None.ensures.none }
