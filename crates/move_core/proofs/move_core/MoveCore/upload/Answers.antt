use Rattle.std.proofs.Common.{◌∙◌, ap}
use Rattle.move_laws.proofs.Lent.{its_upload, slot_is}
use Rattle.move_laws.specs.Lending.{slot_upload}
use Rattle.move_core.proofs.move_core.MoveCore.upload.Goals as goal

pub returns-clause-follows : goal.returns-clause-follows
returns-clause-follows c s events w follows going =
    c.upload.ensures
    ∙ ap slot_upload
    (slot_is c.args.self.now _ c.args.task c.index.result.now c.self.view_is c.index.ensures c.requires)
    ∙ its_upload s events c.args.self.now c.args.task w follows going
