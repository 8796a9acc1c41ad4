use Rattle.std.proofs.Common.{sym, ap, ◌∙◌}
use Rattle.std.specs.FinMap.{get, remove}
use Rattle.text_maps.proofs.TextMaps.{get-text_map, text_map-remove}
use Rattle.text_maps.proofs.text_map.TextMap.remove.Goals as goal

pub returns-clause-taken : goal.returns-clause-taken
returns-clause-taken g c = c.remove.ensures.value ∙ sym (get-text_map c.self.inside.inner c.args.key.now) ∙ ap (λ m. get m c.args.key.now) c.self.view_is

pub returns-clause-removed : goal.returns-clause-removed
returns-clause-removed g c =
    text_map-remove c.self.inside.inner c.remove.new.self c.args.key.now c.remove.ensures.updates
    ∙ ap (λ m. remove m c.args.key.now) c.self.view_is
