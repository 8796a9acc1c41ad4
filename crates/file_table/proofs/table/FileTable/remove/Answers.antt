use Rattle.std.proofs.Common.{sym, subst, true, ◌∙◌}
use Rattle.s3_model.specs.Files.{FileStore}
use Rattle.local_files.specs.Calls.{DropTemp, Remove}
use Rattle.file_table.specs.Table.{AreAlike}
use Rattle.local_files.specs.Changes.{Changes}
use Rattle.file_table.proofs.Stores.{alike, dropped_to, ok_from, removed_to}
use Rattle.file_table.proofs.table.FileTable.remove.Goals as goal

pub returns-then-is_err-clause-same : goal.returns-then-is_err-clause-same
returns-then-is_err-clause-same c =
    subst (λ (s : FileStore). AreAlike s (record (record { held = c.self.inside.held; empty_folders = c.self.inside.empty_folders; others = c.self.inside.others; unnamed = c.self.inside.unnamed }) { empty_folders = c.add_folders.new.folders })) c.self.view_is
    (alike (record { held = c.self.inside.held; empty_folders = c.self.inside.empty_folders; others = c.self.inside.others; unnamed = c.self.inside.unnamed }) c.args.path.now c.add_folders.new.folders (sym c.has.ensures ∙ c.if-not-has.false) c.add_folders.ensures.only.only c.add_folders.ensures.only.kept)

pub returns-clause-removed : goal.returns-clause-removed
returns-clause-removed c =
    subst (λ (s : FileStore). Changes (Remove c.args.path.now true) s (record (record { held = c.self.inside.held; empty_folders = c.self.inside.empty_folders; others = c.self.inside.others; unnamed = c.self.inside.unnamed }) { held = c.remove.new.self; empty_folders = c.add_folders.new.folders })) c.self.view_is
    (removed_to (record { held = c.self.inside.held; empty_folders = c.self.inside.empty_folders; others = c.self.inside.others; unnamed = c.self.inside.unnamed }) c.args.path.now c.remove.new.self c.add_folders.new.folders (sym c.has.ensures ∙ c.if-not-has.false)
    (ok_from c.add_folders.result (sym c.is_err.ensures.value ∙ c.if-is_err.false) c.add_folders.ensures.added) c.remove.ensures.removed)

pub returns-clause-dropped : goal.returns-clause-dropped
returns-clause-dropped c =
    subst (λ (s : FileStore). Changes (DropTemp c.args.path.now true) s (record (record { held = c.self.inside.held; empty_folders = c.self.inside.empty_folders; others = c.self.inside.others; unnamed = c.self.inside.unnamed }) { held = c.remove.new.self; empty_folders = c.add_folders.new.folders })) c.self.view_is
    (dropped_to (record { held = c.self.inside.held; empty_folders = c.self.inside.empty_folders; others = c.self.inside.others; unnamed = c.self.inside.unnamed }) c.args.path.now c.remove.new.self c.add_folders.new.folders (sym c.has.ensures ∙ c.if-not-has.false)
    (ok_from c.add_folders.result (sym c.is_err.ensures.value ∙ c.if-is_err.false) c.add_folders.ensures.added) c.remove.ensures.removed)
