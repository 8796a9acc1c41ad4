use Rattle.std.proofs.Common.{◌∙◌, Bool, ap}
use Rattle.std.specs.List.{position}
use Rattle.act_queues.specs.Sorts.{may_give}
use Rattle.move_laws.specs.Kept.{SeenMoves, giver}
use Rattle.move_core.proofs.move_core.MoveCore.first_giver.Goals as goal

pub returns : goal.returns
returns c =
    c.first_giving.ensures
    ∙ ap (λ (room : Bool). position (may_give room c.args.free) c.self.inside.acts) c.has_room-room.ensures
    ∙ ap (λ (m : SeenMoves). giver m c.args.lane c.args.free) c.self.view_is
