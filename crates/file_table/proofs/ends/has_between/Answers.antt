use Rattle.std.proofs.Common.{◌∙◌}
use Rattle.file_table.proofs.Between.{ends_forward, first_between}
use Rattle.file_table.proofs.ends.has_between.Goals as goal

pub range-requires : goal.range-requires
range-requires g c = ends_forward c.args.folder.now c.args.ends.now.first c.args.ends.now.last c.requires

pub returns-clause-below : goal.returns-clause-below
returns-clause-below g c =
    c.is_some.ensures ∙ first_between c.args.folder.now c.args.ends.now.first c.args.ends.now.last c.requires c.args.map.now (λ x. (x.0.now, x.1.now)) c.range.result c.next.new.self c.next.result (c.range.ensures.between tt) c.next.ensures.steps
