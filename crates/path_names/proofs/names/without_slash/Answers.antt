use Rattle.path_names.proofs.NameLemmas.{none_cut, one_cut}
use Rattle.path_names.proofs.names.without_slash.Goals as goal

pub returns-in-Some : goal.returns-in-Some
returns-in-Some c = record { front = one_cut c.args.path.now c.in-Some.front.now c.in-Some.ensures.cases }

pub returns-in-None : goal.returns-in-None
returns-in-None c = record { front = none_cut c.args.path.now c.in-None.ensures.cases }
