use Rattle.std.proofs.Common.{sym, ap, ◌∙◌}
use Rattle.std.specs.FinMap.{get}
use Rattle.text_maps.proofs.TextMaps.{get-text_map}
use Rattle.text_maps.proofs.text_map.TextMap.get.Goals as goal

pub returns : goal.returns
returns g c = c.get.ensures.value ∙ sym (get-text_map c.self.inside.inner c.args.key.now) ∙ ap (λ m. get m c.args.key.now) c.self.view_is
