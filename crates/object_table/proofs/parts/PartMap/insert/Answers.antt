use Rattle.std.proofs.Common.{ap, ◌∙◌}
use Rattle.std.specs.FinMap.{insert}
use Rattle.object_table.proofs.PartMaps.{part_map-insert}
use Rattle.object_table.proofs.parts.PartMap.insert.Goals as goal

pub returns-in-Ok-clause-put : goal.returns-in-Ok-clause-put
returns-in-Ok-clause-put c =
    part_map-insert c.self.inside.inner c.insert.new.self c.args.number c.args.part c.in-Ok.ensures.updates
    ∙ ap (λ m. insert m c.args.number c.args.part) c.self.view_is
