use Rattle.std.proofs.Common.{◌∙◌, ◌++◌, ◌∷◌, [], List, ap}
use Rattle.s3_model.specs.declared.outcomes.Event.{Event}
use Rattle.s3_model.specs.declared.outcomes.Event.TheVariants as entry
use Rattle.planning_questions.proofs.AskLemmas.{asked_one}
use Rattle.planning_questions.proofs.single.ask.Goals as goal

pub returns-clause-asked : goal.returns-clause-asked
returns-clause-asked g c =
    asked_one _ _ _ _ _ _ _ _ _ _ _ _ c.requires.idle c.question-job.ensures c.give.ensures.gave
    (c.give.ensures.noted ∙ ap (λ (all : List Event). all ++ entry.Given c.question-job.result.id 0 ∷ []) c.reserve.ensures.items) c.give.ensures.pending c.take.ensures.heard
