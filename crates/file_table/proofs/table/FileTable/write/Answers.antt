use Rattle.std.proofs.Common.{ap, sym, subst, true, ◌∙◌}
use Rattle.std.specs.FinMap.{insert}
use Rattle.s3_model.specs.Files.{FileStore, HeldFile}
use Rattle.s3_model.specs.Maps.{MapOf}
use Rattle.local_files.specs.Calls.{WriteAt}
use Rattle.local_files.specs.Changes.{Changes}
use Rattle.file_table.proofs.Stores.{put_back, put_second, written_to}
use Rattle.file_table.proofs.table.FileTable.write.Goals as goal

pub returns-in-Ok-clause-written : goal.returns-in-Ok-clause-written
returns-in-Ok-clause-written c =
    subst (λ (s : FileStore). Changes (WriteAt c.args.path.now c.args.at c.args.bytes.now true) s (record (record { held = c.self.inside.held; empty_folders = c.self.inside.empty_folders; others = c.self.inside.others; unnamed = c.self.inside.unnamed }) { held = c.replace-in-Ok.new.self })) c.self.view_is
    (written_to (record { held = c.self.inside.held; empty_folders = c.self.inside.empty_folders; others = c.self.inside.others; unnamed = c.self.inside.unnamed }) c.args.path.now c.args.at c.args.bytes.now c.in-Some.file c.write.new.self c.replace-in-Ok.new.self (sym c.replace.ensures.old ∙ c.in-Some.is) c.in-Ok.ensures.written
    (put_second c.self.inside.held c.replace.new.self c.replace-in-Ok.new.self c.args.path.now c.empty.result c.write.new.self c.replace-in-Ok.result c.in-Some.ensures.put c.replace-in-Ok.ensures.old c.replace-in-Ok.ensures.put))

pub returns-in-Err-clause-same : goal.returns-in-Err-clause-same
returns-in-Err-clause-same c =
    ap (λ (m : MapOf HeldFile). record (record { held = c.self.inside.held; empty_folders = c.self.inside.empty_folders; others = c.self.inside.others; unnamed = c.self.inside.unnamed }) { held = m })
    (put_back c.self.inside.held c.replace-in-Err.new.self c.args.path.now c.in-Some.file (sym c.replace.ensures.old ∙ c.in-Some.is)
    (put_second c.self.inside.held c.replace.new.self c.replace-in-Err.new.self c.args.path.now c.empty.result c.write.new.self c.replace-in-Err.result c.in-Some.ensures.put c.replace-in-Err.ensures.old c.replace-in-Err.ensures.put
    ∙ ap (insert c.self.inside.held c.args.path.now) c.in-Err.ensures.same))
    ∙ c.self.view_is
