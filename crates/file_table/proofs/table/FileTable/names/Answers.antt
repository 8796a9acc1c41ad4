use Rattle.std.proofs.Common.{ℕ, List, sym, subst}
use Rattle.std.specs.FinMap.{keys}
use Rattle.s3_model.specs.Files.{FileStore}
use Rattle.local_files.specs.Names.{AreNames}
use Rattle.file_table.proofs.NameLemmas.{if_ok, names_of}
use Rattle.file_table.proofs.table.FileTable.names.Goals as goal

pub returns : goal.returns
returns c =
    if_ok c.texts.result (λ texts is. subst (λ (ks : List (List ℕ)). AreNames c.args.self.now c.args.folder.now ks) (sym is)
    (subst (λ (s : FileStore). AreNames s c.args.folder.now (keys c.add_direct-2.new.found)) c.self.view_is
    (names_of (record { held = c.self.inside.held; empty_folders = c.self.inside.empty_folders; others = c.self.inside.others; unnamed = c.self.inside.unnamed }) c.args.folder.now c.make-found.result c.add_names.new.found c.add_direct.new.found c.add_direct-2.new.found c.make-found.ensures
    c.in_ok-add_names.ensures.added c.in_ok-add_direct.ensures.added c.in_ok-add_direct-2.ensures.added))) c.texts.ensures
