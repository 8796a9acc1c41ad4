use Rattle.std.proofs.Common.{ap, sym, ◌∙◌}
use Rattle.std.specs.FinMap.{insert}
use Rattle.object_table.proofs.Changes.{part_put}
use Rattle.object_table.proofs.Swaps.{restored, swapped}
use Rattle.object_table.proofs.uploads.put_part.Goals as goal

pub returns-in-Ok-clause-put : goal.returns-in-Ok-clause-put
returns-in-Ok-clause-put c = λ upload there.
    swapped c.args.uploads.now c.replace.new.self c.replace-in-Ok.new.self c.args.id.now c.empty.result c.put_part.new.self c.replace-in-Ok.result c.in-Some.ensures.put c.replace-in-Ok.ensures.old c.replace-in-Ok.ensures.put
    ∙ ap (insert c.args.uploads.now c.args.id.now) (part_put c.args.uploads.now c.args.id.now c.in-Some.upload upload c.put_part.new.self c.args.number c.args.part (sym c.replace.ensures.old ∙ c.in-Some.is) c.in-Ok.ensures.put there)

pub returns-in-Err-clause-same : goal.returns-in-Err-clause-same
returns-in-Err-clause-same c =
    restored c.args.uploads.now c.replace-in-Err.new.self c.args.id.now c.in-Some.upload (sym c.replace.ensures.old ∙ c.in-Some.is)
    (swapped c.args.uploads.now c.replace.new.self c.replace-in-Err.new.self c.args.id.now c.empty.result c.put_part.new.self c.replace-in-Err.result c.in-Some.ensures.put c.replace-in-Err.ensures.old c.replace-in-Err.ensures.put
    ∙ ap (insert c.args.uploads.now c.args.id.now) c.in-Err.ensures.same)
