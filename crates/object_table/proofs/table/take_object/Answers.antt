use Rattle.std.proofs.Common.{ap, sym, ◌∙◌}
use Rattle.std.specs.FinMap.{empty, insert, remove}
use Rattle.s3_model.specs.Maps.{MapOf}
use Rattle.s3_service.specs.ServiceState.{Object}
use Rattle.object_table.proofs.Swaps.{swapped, unwrapped}
use Rattle.object_table.proofs.table.take_object.Goals as goal

pub returns : goal.returns
returns c =
    swapped c.args.objects.now c.replace.new.self c.replace-2.new.self c.args.bucket.now c.make.result c.remove.new.self c.replace-2.result c.in-Some.ensures.put c.replace-2.ensures.old c.replace-2.ensures.put
    ∙ ap (insert c.args.objects.now c.args.bucket.now) (c.remove.ensures.removed
    ∙ ap (λ (m : MapOf Object). remove m c.args.key.now) (unwrapped _ empty c.in-Some.held (sym c.replace.ensures.old ∙ c.in-Some.is)))
