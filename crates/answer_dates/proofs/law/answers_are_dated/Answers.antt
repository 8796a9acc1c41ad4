use Rattle.answer_dates.proofs.ListedLemmas as law
use Rattle.answer_dates.proofs.law.answers_are_dated.Goals as goal

pub returns : goal.returns
returns c = law.answers_are_dated
