use Rattle.std.proofs.Common.{[], ◌∷◌, sym, subst}
use Rattle.run_traces.specs.Traces.{Stopped}
use Rattle.run_transfers.specs.Conducting.{IsConducting, IsFree, SeenConductor, further}
use Rattle.run_transfers.proofs.StepLemmas.{stopped_kept}
use Rattle.run_transfers.proofs.conductor.Conductor.cancel_all.Goals as goal

pub returns-clause-stopped : goal.returns-clause-stopped
returns-clause-stopped g c run k =
    let was = subst (λ (x : SeenConductor). IsConducting run x c.args.desk.now) (sym c.self.view_is) k in
    stopped_kept was c.cancel_all.new.self c.cancel_all.ensures.free c.args.reason
    (c.cancel_all.ensures.running _ _ _ was.running)

pub returns-clause-free : goal.returns-clause-free
returns-clause-free g c =
    let r = subst (λ (x : SeenConductor). IsFree x c.args.desk.now) (sym c.self.view_is) c.requires.free in
    record {
      run = further (Stopped c.args.reason ∷ []) r.run;
      kept = stopped_kept r.kept c.cancel_all.new.self c.cancel_all.ensures.free c.args.reason
          (c.cancel_all.ensures.running _ _ _ r.kept.running);
      free = c.cancel_all.ensures.free;
    }
