use Rattle.std.proofs.Common.{ap, sym, ◌∙◌}
use Rattle.std.specs.FinMap.{empty, insert}
use Rattle.s3_model.specs.Maps.{MapOf}
use Rattle.s3_service.specs.ServiceState.{Object}
use Rattle.object_table.proofs.Swaps.{restored, swapped, unwrapped}
use Rattle.object_table.proofs.table.put_object.Goals as goal

pub returns-in-Ok-clause-put : goal.returns-in-Ok-clause-put
returns-in-Ok-clause-put c =
    swapped c.args.objects.now c.replace.new.self c.replace-in-Ok.new.self c.args.bucket.now c.make.result c.insert.new.self c.replace-in-Ok.result c.in-Some.ensures.put c.replace-in-Ok.ensures.old c.replace-in-Ok.ensures.put
    ∙ ap (insert c.args.objects.now c.args.bucket.now) (c.in-Ok.ensures.put
    ∙ ap (λ (m : MapOf Object). insert m c.args.key.now c.args.object) (unwrapped _ empty c.in-Some.held (sym c.replace.ensures.old ∙ c.in-Some.is)))

pub returns-in-Err-clause-same : goal.returns-in-Err-clause-same
returns-in-Err-clause-same c =
    restored c.args.objects.now c.replace-in-Err.new.self c.args.bucket.now c.in-Some.held (sym c.replace.ensures.old ∙ c.in-Some.is)
    (swapped c.args.objects.now c.replace.new.self c.replace-in-Err.new.self c.args.bucket.now c.make.result c.insert.new.self c.replace-in-Err.result c.in-Some.ensures.put c.replace-in-Err.ensures.old c.replace-in-Err.ensures.put
    ∙ ap (insert c.args.objects.now c.args.bucket.now) c.in-Err.ensures.same)
