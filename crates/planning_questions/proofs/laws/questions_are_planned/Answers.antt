use Rattle.answer_classes.specs.Showing.{Shows}
use Rattle.planning_questions.proofs.PlanLemmas.{listings_are_planned, questions_are_planned}
use Rattle.planning_questions.proofs.laws.questions_are_planned.Goals as goal

pub returns-clause-asked : goal.returns-clause-asked
returns-clause-asked c = questions_are_planned Shows

pub returns-clause-listed : goal.returns-clause-listed
returns-clause-listed c = listings_are_planned Shows
