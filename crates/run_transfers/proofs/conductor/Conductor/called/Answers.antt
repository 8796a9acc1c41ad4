use Rattle.std.proofs.Common.{◌≡◌, [], ◌∷◌, Some, sym, subst}
use Rattle.manager_core.specs.Due.{call_due}
use Rattle.run_traces.specs.Traces.{Called, events_of}
use Rattle.run_transfers.specs.Conducting.{IsCallAt, IsConducting, SeenConductor, further}
use Rattle.run_transfers.proofs.StepLemmas.{called_kept}
use Rattle.run_transfers.proofs.conductor.Conductor.called.Goals as goal

pub file_came-requires : goal.file_came-requires
file_came-requires g c =
    let r = subst (λ (x : SeenConductor). IsCallAt c.args.came x c.args.desk.now) (sym c.self.view_is) c.requires in
    record {
      start = r.run.start;
      s = r.run.shared;
      events = events_of r.run.trace;
      running = r.kept.running;
      call = record { task = r.task; act = r.of_act };
      is = r.is;
      may = r.may;
    }

pub returns-clause-called : goal.returns-clause-called
returns-clause-called g c run task of_act steps notes k is =
    let was = subst (λ (x : SeenConductor). IsConducting run x c.args.desk.now) (sym c.self.view_is) k in
    let due = subst (λ (x : SeenConductor). call_due x.manager.due ≡ Some (record { task = task; act = of_act })) (sym c.self.view_is) is in
    called_kept was c.file_came.new.self c.file_came.ensures.free task of_act c.args.came steps notes
    (c.file_came.ensures.running _ _ _ (record { task = task; act = of_act }) was.running due)

pub returns-clause-free : goal.returns-clause-free
returns-clause-free g c =
    let r = subst (λ (x : SeenConductor). IsCallAt c.args.came x c.args.desk.now) (sym c.self.view_is) c.requires in
    record {
      run = further (Called r.task r.of_act c.args.came [] [] ∷ []) r.run;
      kept = called_kept r.kept c.file_came.new.self c.file_came.ensures.free r.task r.of_act c.args.came [] []
          (c.file_came.ensures.running _ _ _ (record { task = r.task; act = r.of_act }) r.kept.running r.is);
      free = c.file_came.ensures.free;
    }
