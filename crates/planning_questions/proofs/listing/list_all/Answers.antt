use Rattle.std.proofs.Common.{◌≡◌, ◌∙◌, Bool, true, ap, arith, refl, subst, sym}
use Rattle.std.specs.Prelude.{IfOk, Result, Ok}
use Rattle.list_walk.specs.Pages.{IsSound, Walk}
use Rattle.list_walk.proofs.PageLemmas.{nothing_is_sound}
use Rattle.planning_questions.specs.Listings.{TookPage}
use Rattle.planning_questions.specs.declared.halt.Halt.{Halt}
use Rattle.planning_questions.proofs.PageLemmas.{at_first, ends, fails, goes_on}
use Rattle.planning_questions.proofs.WalkLemmas.{still_bound, still_open, still_sound}
use Rattle.planning_questions.proofs.listing.list_all.Goals as goal

pub loop-init : goal.loop-init
loop-init g c = record {
  underway = at_first _ _ _ _ c.in_ok-pages.ensures;
  goes_on = ap (λ (w : Walk). w.over) c.in_ok-pages.ensures;
  sound = subst (λ (w : Walk). IsSound w.prefix w.gathered) (sym c.in_ok-pages.ensures) (nothing_is_sound c.args.prefix.now);
  bound = omega arith;
  few = omega arith;
  idle = c.requires.idle;
  same_desk = record { depth = refl; workers = refl; lanes = refl };
  pending = refl;
}

pub returns-in-Ok-false-clause-listed : goal.returns-in-Ok-false-clause-listed
returns-in-Ok-false-clause-listed g c =
    let is = c.in-Ok-false.is ∙ ap (λ (more : Bool). Ok more) c.in-Ok-false.field-0-test in
    ends _ _ _ _ _ _ c.loop.invariant.underway _ _ _ _ is c.next_page.ensures.next

pub returns-in-Err-clause-listed : goal.returns-in-Err-clause-listed
returns-in-Err-clause-listed g c = fails _ _ _ _ _ _ c.loop.invariant.underway _ _ _ _ _ c.in-Err.is c.next_page.ensures.next

pub loop-preserved : goal.loop-preserved
loop-preserved g c =
    let is : c.next_page.result ≡ Ok true = c.in-Ok-true.is ∙ ap (λ (more : Bool). Ok more) c.in-Ok-true.field-0-test in
    let before = c.loop.pages in
    let after = c.next_page.new.pages in
    let was = c.loop.invariant in
    let (page, fit, is_with, more) = subst (λ (r : Result Bool Halt). IfOk r (TookPage before after)) is c.next_page.ensures.took in
    record {
      underway = goes_on _ _ _ _ _ _ was.underway _ _ _ _ is c.next_page.ensures.next;
      goes_on = still_open before after page is_with was.goes_on more;
      sound = still_sound before after page is_with was.sound fit;
      bound = still_bound before after page is_with c.loop.counter was.sound.few_empty was.bound;
      few = omega (arith, was.few, c.next_page.ensures.few);
      idle = c.next_page.ensures.idle;
      same_desk = record {
        depth = c.next_page.ensures.same_desk.depth ∙ was.same_desk.depth;
        workers = c.next_page.ensures.same_desk.workers ∙ was.same_desk.workers;
        lanes = c.next_page.ensures.same_desk.lanes ∙ was.same_desk.lanes;
      };
      pending = c.next_page.ensures.pending ∙ was.pending;
    }
