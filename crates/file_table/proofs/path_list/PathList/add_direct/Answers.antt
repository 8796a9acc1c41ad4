use Rattle.std.proofs.Common.{◌∙◌, ◌++◌, List, ℕ, IsSome, ap}
use Rattle.std.specs.FinMap.{get}
use Rattle.local_files.specs.Names.{IsName}
use Rattle.s3_model.specs.Files.{folder_path, is_listed}
use Rattle.file_table.proofs.NameLemmas.{listed_name, on_ok}
use Rattle.file_table.proofs.path_list.PathList.add_direct.Goals as goal

pub returns : goal.returns
returns c = record {
  added = on_ok c.add_direct.result (λ all name.
      listed_name c.self.inside.index c.args.self.now (folder_path c.args.folder.now ++ name) (IsName name) (IsSome (get c.args.found.now name)) (IsSome (get c.add_direct.new.found name))
      (c.self.invariant (folder_path c.args.folder.now ++ name) ∙ ap (λ (ps : List (List ℕ)). is_listed ps (folder_path c.args.folder.now ++ name)) c.self.view_is) (all name)) c.add_direct.ensures.added;
}
