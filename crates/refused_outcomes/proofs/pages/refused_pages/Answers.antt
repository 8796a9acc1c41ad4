use Rattle.refused_outcomes.proofs.RefusedPages.{pages_are_refused}
use Rattle.refused_outcomes.proofs.pages.refused_pages.Goals as goal

pub returns : goal.returns
returns c = pages_are_refused
