use Rattle.std.proofs.Common.{arith}
use Rattle.sync_plan.proofs.names.last_name.Goals as goal
use Rattle.shared_lemmas.proofs.AfterLast.{last_in, none_in}

pub returns-in-Some : goal.returns-in-Some
returns-in-Some c = last_in 47 (omega arith) c.args.path.now c.in-Some.field-0-0.now c.in-Some.name.now c.in-Some.ensures.cases

pub returns-in-None : goal.returns-in-None
returns-in-None c = none_in 47 (omega arith) c.args.path.now c.in-None.ensures.cases
