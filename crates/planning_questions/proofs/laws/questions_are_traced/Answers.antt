use Rattle.planning_questions.proofs.TraceLemmas.{listings_are_traced, questions_are_traced}
use Rattle.planning_questions.proofs.laws.questions_are_traced.Goals as goal

pub returns-clause-asked : goal.returns-clause-asked
returns-clause-asked c = questions_are_traced

pub returns-clause-listed : goal.returns-clause-listed
returns-clause-listed c = listings_are_traced
