use Rattle.std.proofs.Common.{◌≡◌, ◌++◌, List, ℕ}
use Rattle.local_files.specs.Names.{IsName}
use Rattle.s3_model.specs.Files.{folder_path}
use Rattle.file_table.proofs.NameLemmas.{name_added, on_ok, one_direct}
use Rattle.file_table.proofs.names.add_last.Goals as goal

pub returns-in-Some : goal.returns-in-Some
returns-in-Some c = record {
  added = on_ok c.insert.result (λ put. name_added (λ (q : List ℕ). IsName q × (c.args.path.now ≡ folder_path c.args.folder.now ++ q)) c.in-Some.name.now c.args.found.now c.insert.new.self tt put c.in-Some.ensures.named
      (λ q other. one_direct c.args.folder.now c.args.path.now c.in-Some.name.now q c.in-Some.ensures.named.1 other)) c.insert.ensures.put;
}
