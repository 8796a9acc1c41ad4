use Rattle.service_plans.proofs.PlanLemmas.{both_plan, dest_ends}
use Rattle.service_plans.proofs.planned.plan_served.Goals as goal

pub returns-in-Ok-clause-planned : goal.returns-in-Ok-clause-planned
returns-in-Ok-clause-planned g c =
    both_plan c.args.command.now c.args.limits.now _ _ _ _ _ _ (g.F.Files.seen c.args.files.now) (g.F.Files.seen c.find_side.new.files) (g.F.Files.seen c.find_dest.new.files) (g.F.Files.faults c.args.files.now)
    (g.F.Files.faults c.find_side.new.files) (g.F.Files.faults c.find_dest.new.files) c.find_dest.ensures.kept c.find_side.ensures.later c.find_side.result c.in_ok-source.source c.find_dest.result c.in_ok-source.was
    c.find_side.ensures.asked c.find_dest.ensures.asked c.in-Ok.dest c.plan_found.result c.in-Ok.is c.plan_found.ensures.plans

pub returns-in-Err-clause-planned : goal.returns-in-Err-clause-planned
returns-in-Err-clause-planned g c =
    dest_ends c.args.command.now c.args.limits.now _ _ _ _ _ _ (g.F.Files.seen c.args.files.now) (g.F.Files.seen c.find_side.new.files) (g.F.Files.seen c.find_dest.new.files) (g.F.Files.faults c.args.files.now)
    (g.F.Files.faults c.find_side.new.files) (g.F.Files.faults c.find_dest.new.files) c.find_dest.ensures.kept c.find_side.ensures.later c.find_side.result c.in_ok-source.source c.find_dest.result c.in_ok-source.was
    c.find_side.ensures.asked c.find_dest.ensures.asked _ c.in-Err.is
