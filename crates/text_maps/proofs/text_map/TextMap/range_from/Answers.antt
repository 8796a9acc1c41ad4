use Rattle.std.proofs.Common.{ap, ◌∙◌}
use Rattle.std.specs.List.{filter}
use Rattle.std.specs.FinMap.{entries}
use Rattle.std.specs.Prelude.{string_bytes}
use Rattle.text_maps.specs.TextMap.{is_from}
use Rattle.text_maps.proofs.TextMaps.{entries_from_text}
use Rattle.text_maps.proofs.text_map.TextMap.range_from.Goals as goal

pub returns : goal.returns
returns g c =
    entries_from_text c.self.inside.inner c.args.start.now _ c.range.ensures.ordered (c.range.ensures.between tt)
    ∙ ap (λ m. filter (λ e. is_from (string_bytes c.args.start.now) e.0) (entries m)) c.self.view_is
