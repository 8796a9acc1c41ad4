use Rattle.promise_examples.proofs.GivenAgain as given_again
use Rattle.promise_examples.proofs.BusyPut.{busy_is_given_again}
use Rattle.promise_examples.proofs.runs.given_again.Goals as goal

pub returns-clause-for_good : goal.returns-clause-for_good
returns-clause-for_good g c = given_again.refused_for_good g.R.Reading.shows g.R.Reading.plans

pub returns-clause-denied : goal.returns-clause-denied
returns-clause-denied g c = given_again.denied_is_not_given_again g.R.Reading.shows g.R.Reading.plans

pub returns-clause-busy : goal.returns-clause-busy
returns-clause-busy g c = busy_is_given_again
