use Rattle.planning_questions.proofs.PageLemmas.{next_came, next_failed}
use Rattle.planning_questions.proofs.listing.next_page.Goals as goal

pub returns-in-Ok-clause-next : goal.returns-in-Ok-clause-next
returns-in-Ok-clause-next g c =
    next_came _ _ _ _ c.args.pages.now _ _ c.in_ok-asked.ensures _ _ _ _ c.in-Ok.is c.page_of-page.ensures c.take_page-taken.ensures.takes c.ask.ensures.asked

pub returns-in-Err-clause-next : goal.returns-in-Err-clause-next
returns-in-Err-clause-next g c = next_failed _ _ _ _ c.args.pages.now _ _ c.in_ok-asked.ensures _ _ c.in-Err.is c.ask.ensures.asked
