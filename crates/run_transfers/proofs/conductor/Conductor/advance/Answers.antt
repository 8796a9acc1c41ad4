use Rattle.std.proofs.Common.{sym, subst}
use Rattle.run_transfers.specs.Conducting.{IsConducting, IsFree, SeenConductor}
use Rattle.run_transfers.proofs.StepLemmas.{conducts_both, map_none, map_some, stays, stays_on, stops_after}
use Rattle.run_transfers.proofs.conductor.Conductor.advance.Goals as goal

pub answer-requires-after_bounds : goal.answer-requires-after_bounds
answer-requires-after_bounds g c κs within =
    let r = subst (λ (x : SeenConductor). IsFree x c.args.desk.now) (sym c.self.view_is) c.requires in
    record {
      run = r.run;
      kept = stays c.next-next.new.self r.kept (c.next-next.ensures.running _ _ _ r.kept.running);
      is = c.next-next.ensures.due;
    }

pub returns-clause-goes_on : goal.returns-clause-goes_on
returns-clause-goes_on g c =
    map_none c.answer.result
    (conducts_both (λ run k.
    let was = subst (λ (x : SeenConductor). IsConducting run x c.args.desk.now) (sym c.self.view_is) k in
    stays_on c.next-next.new.self was (c.next-next.ensures.running _ _ _ was.running)) _ _)
    c.answer.ensures.goes_on

pub returns-clause-stops : goal.returns-clause-stops
returns-clause-stops g c =
    map_some c.answer.result
    (stops_after (λ run k.
    let was = subst (λ (x : SeenConductor). IsConducting run x c.args.desk.now) (sym c.self.view_is) k in
    stays_on c.next-next.new.self was (c.next-next.ensures.running _ _ _ was.running)) _ _)
    c.answer.ensures.stops
