use Rattle.sync_plan.proofs.PrefixLemmas.{behind_found, behind_none}
use Rattle.sync_plan.proofs.names.behind_prefix.Goals as goal

pub returns-in-Some : goal.returns-in-Some
returns-in-Some c = behind_found c.args.prefix.now c.args.key.now c.in-Some.rest.now c.in-Some.ensures.cases

pub returns-in-None : goal.returns-in-None
returns-in-None c = behind_none c.args.prefix.now c.args.key.now c.in-None.ensures.cases
