use Rattle.std.proofs.Common.{sym, subst, true, ◌∙◌}
use Rattle.s3_model.specs.Files.{FileStore}
use Rattle.local_files.specs.Calls.{Stamp}
use Rattle.local_files.specs.Changes.{Changes}
use Rattle.file_table.proofs.Stores.{put_second, stamped_to}
use Rattle.file_table.proofs.table.FileTable.stamp.Goals as goal

pub returns-clause-stamped : goal.returns-clause-stamped
returns-clause-stamped c =
    subst (λ (s : FileStore). Changes (Stamp c.args.path.now c.args.micros true) s (record (record { held = c.self.inside.held; empty_folders = c.self.inside.empty_folders; others = c.self.inside.others; unnamed = c.self.inside.unnamed }) { held = c.replace-2.new.self })) c.self.view_is
    (stamped_to (record { held = c.self.inside.held; empty_folders = c.self.inside.empty_folders; others = c.self.inside.others; unnamed = c.self.inside.unnamed }) c.args.path.now c.args.micros c.in-Some.file c.with_micros.result c.replace-2.new.self (sym c.replace.ensures.old ∙ c.in-Some.is) c.with_micros.ensures
    (put_second c.self.inside.held c.replace.new.self c.replace-2.new.self c.args.path.now c.empty.result c.with_micros.result c.replace-2.result c.in-Some.ensures.put c.replace-2.ensures.old c.replace-2.ensures.put))
