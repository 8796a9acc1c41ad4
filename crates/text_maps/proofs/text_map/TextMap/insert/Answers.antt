use Rattle.std.proofs.Common.{string_bytes, ap, ◌∙◌}
use Rattle.std.specs.FinMap.{insert}
use Rattle.text_maps.proofs.TextMaps.{text_map-insert}
use Rattle.text_maps.proofs.text_map.TextMap.insert.Goals as goal

pub returns-in-Ok-insert-clause-put : goal.returns-in-Ok-insert-clause-put
returns-in-Ok-insert-clause-put g c =
    text_map-insert c.self.inside.inner c.insert.new.self c.in-Ok.owned c.args.value c.in-Ok-insert.ensures.updates
    ∙ ap (λ m. insert m (string_bytes c.in-Ok.owned) c.args.value) c.self.view_is
    ∙ ap (λ key. insert c.args.self.now key c.args.value) c.in-Ok.ensures.ok
