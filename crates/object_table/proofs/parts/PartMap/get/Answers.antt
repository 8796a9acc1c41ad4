use Rattle.std.proofs.Common.{sym, ap, ◌∙◌}
use Rattle.std.specs.FinMap.{get}
use Rattle.object_table.proofs.PartMaps.{get-part_map}
use Rattle.object_table.proofs.parts.PartMap.get.Goals as goal

pub returns : goal.returns
returns c = c.get.ensures.value ∙ sym (get-part_map c.self.inside.inner c.args.number) ∙ ap (λ m. get m c.args.number) c.self.view_is
