use Rattle.list_walk.proofs.PageLemmas.{nothing_is_sound}
use Rattle.list_walk.proofs.pages.Pages.make.Goals as goal

pub invariant_of-result : goal.invariant_of-result
invariant_of-result c = rw (c.make.ensures, c.make-2.ensures) (nothing_is_sound c.in_ok-of-2.field-0)
