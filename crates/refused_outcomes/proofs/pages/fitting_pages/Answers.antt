use Rattle.refused_outcomes.proofs.FittingPages.{other_pages_are_unfit, refused_page_fits}
use Rattle.refused_outcomes.proofs.pages.fitting_pages.Goals as goal

pub returns-clause-met : goal.returns-clause-met
returns-clause-met c = refused_page_fits

pub returns-clause-refused : goal.returns-clause-refused
returns-clause-refused c = other_pages_are_unfit
