use Rattle.std.proofs.Common.{sym, subst, None, ◌∙◌}
use Rattle.std.proofs.lemmas.Slice.Eq.{bytes_eq-Decides}
use Rattle.s3_model.specs.Files.{FileStore}
use Rattle.local_files.specs.Calls.{Rename}
use Rattle.file_table.specs.Table.{AreAlike}
use Rattle.local_files.specs.Changes.{Changes}
use Rattle.file_table.proofs.Stores.{alike, err_from, ok_from, renamed_on, renamed_to, still_alike}
use Rattle.file_table.proofs.table.FileTable.rename.Goals as goal

pub returns-then-eq-clause-renamed : goal.returns-then-eq-clause-renamed
returns-then-eq-clause-renamed c =
    subst (λ (s : FileStore). Changes (Rename c.args.temp.now c.args.dest.now None) s s) c.self.view_is
    (renamed_on (record { held = c.self.inside.held; empty_folders = c.self.inside.empty_folders; others = c.self.inside.others; unnamed = c.self.inside.unnamed }) c.args.temp.now c.args.dest.now ((bytes_eq-Decides c.args.temp.now c.args.dest.now).0 (sym c.eq.ensures ∙ c.if-eq.true)) (sym c.has.ensures ∙ c.if-not-has.false))

pub returns-then-is_err-clause-same : goal.returns-then-is_err-clause-same
returns-then-is_err-clause-same c =
    subst (λ (s : FileStore). AreAlike s (record (record { held = c.self.inside.held; empty_folders = c.self.inside.empty_folders; others = c.self.inside.others; unnamed = c.self.inside.unnamed }) { empty_folders = c.add_folders.new.folders })) c.self.view_is
    (alike (record { held = c.self.inside.held; empty_folders = c.self.inside.empty_folders; others = c.self.inside.others; unnamed = c.self.inside.unnamed }) c.args.temp.now c.add_folders.new.folders (sym c.has.ensures ∙ c.if-not-has.false) c.add_folders.ensures.only.only c.add_folders.ensures.only.kept)

pub returns-then-is_err-2-clause-same : goal.returns-then-is_err-2-clause-same
returns-then-is_err-2-clause-same c =
    subst (λ (s : FileStore). AreAlike s (record (record { held = c.self.inside.held; empty_folders = c.self.inside.empty_folders; others = c.self.inside.others; unnamed = c.self.inside.unnamed }) { held = c.move_file.new.held; empty_folders = c.add_folders.new.folders })) c.self.view_is
    (still_alike (record { held = c.self.inside.held; empty_folders = c.self.inside.empty_folders; others = c.self.inside.others; unnamed = c.self.inside.unnamed }) c.self.inside.held c.move_file.new.held c.add_folders.new.folders c.self.inside.others c.self.inside.unnamed
    (err_from c.move_file.result (sym c.is_err-2.ensures.value ∙ c.if-is_err-2.true) c.move_file.ensures.same)
    (alike (record { held = c.self.inside.held; empty_folders = c.self.inside.empty_folders; others = c.self.inside.others; unnamed = c.self.inside.unnamed }) c.args.temp.now c.add_folders.new.folders (sym c.has.ensures ∙ c.if-not-has.false) c.add_folders.ensures.only.only c.add_folders.ensures.only.kept))

pub returns-clause-renamed : goal.returns-clause-renamed
returns-clause-renamed c =
    subst (λ (s : FileStore). Changes (Rename c.args.temp.now c.args.dest.now None) s (record (record { held = c.self.inside.held; empty_folders = c.self.inside.empty_folders; others = c.self.inside.others; unnamed = c.self.inside.unnamed }) { held = c.move_file.new.held; empty_folders = c.add_folders.new.folders })) c.self.view_is
    (renamed_to (record { held = c.self.inside.held; empty_folders = c.self.inside.empty_folders; others = c.self.inside.others; unnamed = c.self.inside.unnamed }) c.args.temp.now c.args.dest.now c.move_file.new.held c.add_folders.new.folders
    (ok_from c.move_file.result (sym c.is_err-2.ensures.value ∙ c.if-is_err-2.false) c.move_file.ensures.moved)
    (ok_from c.add_folders.result (sym c.is_err.ensures.value ∙ c.if-is_err.false) c.add_folders.ensures.added))
