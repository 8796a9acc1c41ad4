use Rattle.std.proofs.Common.{sym, subst}
use Rattle.run_transfers.specs.Conducting.{IsConducting, SeenConductor}
use Rattle.run_transfers.proofs.conductor.Conductor.finish.Goals as goal

pub returns-clause-outcomes : goal.returns-clause-outcomes
returns-clause-outcomes g c run k =
    let was = subst (λ (x : SeenConductor). IsConducting run x c.args.desk.now) (sym c.self.view_is) k in
    c.finish.ensures.outcomes _ _ _ was.running
