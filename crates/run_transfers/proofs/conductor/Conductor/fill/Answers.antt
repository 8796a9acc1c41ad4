use Rattle.std.proofs.Common.{sym, subst}
use Rattle.run_transfers.specs.Conducting.{IsAt, IsConducting, SeenConductor}
use Rattle.manager_moves.specs.declared.moves.Move.TheVariants as move
use Rattle.run_transfers.proofs.RunLemmas.{is_due}
use Rattle.run_transfers.proofs.StepLemmas.{stays}
use Rattle.run_transfers.proofs.conductor.Conductor.fill.Goals as goal

pub fill-requires-clause-due : goal.fill-requires-clause-due
fill-requires-clause-due g c =
    let r = c.requires.at in
    (r.0, r.1, is_due (subst (λ (x : SeenConductor). IsAt (move.Read r.0 r.1) x c.args.desk.now) (sym c.self.view_is) r.2))

pub returns-clause-stays : goal.returns-clause-stays
returns-clause-stays g c run k =
    let was = subst (λ (x : SeenConductor). IsConducting run x c.args.desk.now) (sym c.self.view_is) k in
    stays c.fill.new.self was (c.fill.ensures.running _ _ _ was.running)
