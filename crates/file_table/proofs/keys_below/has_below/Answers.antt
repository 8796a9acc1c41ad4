use Rattle.std.proofs.Common.{ap, ◌∙◌}
use Rattle.std.specs.List.{list_any}
use Rattle.std.specs.FinMap.{keys}
use Rattle.s3_model.specs.Files.{is_below}
use Rattle.text_maps.proofs.TextMaps.{any_key}
use Rattle.file_table.proofs.keys_below.has_below.Goals as goal

pub returns-in-Ok : goal.returns-in-Ok
returns-in-Ok g c =
    c.has_between.ensures.below
    ∙ any_key c.tree.result.now (is_below c.args.folder.now) c.has_between.ensures.ordered
    ∙ ap (λ m. list_any (is_below c.args.folder.now) (keys m)) c.tree.ensures

pub returns-in-Err : goal.returns-in-Err
returns-in-Err g c =
    c.any_below.ensures.below
    ∙ any_key c.tree-in-Err.result.now (is_below c.args.folder.now) c.any_below.ensures.ordered
    ∙ ap (λ m. list_any (is_below c.args.folder.now) (keys m)) c.tree-in-Err.ensures
