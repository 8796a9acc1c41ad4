use Rattle.std.proofs.Common.{◌≡◌, ◌∷◌, true, sym, subst, ap}
use Rattle.manager_moves.specs.Runs.{Lined}
use Rattle.move_laws.specs.Follows.{Follows}
use Rattle.move_laws.specs.Kept.{has_outcome}
use Rattle.move_laws.specs.Steady.{IsSteady}
use Rattle.manager_core.proofs.RunLemmas.{line_ended, lined_runs, with}
use Rattle.manager_core.specs.declared.due.Due.TheVariants as due
use Rattle.manager_core.specs.Kept.{SeenManager}
use Rattle.manager_core.specs.Running.{IsRunning}
use Rattle.manager_core.proofs.CellLemmas.{cells_same}
use Rattle.manager_core.proofs.manager.Manager.lined.Goals as goal

pub lined-requires : goal.lined-requires
lined-requires c =
    let r = c.requires.1 in
    subst (λ (x : SeenManager). has_outcome x.moves x.moves.lined ≡ true) (sym c.self.view_is)
    (line_ended r.start r.s r.events c.args.self.now r.running c.requires.0 r.is)

pub returns-clause-running : goal.returns-clause-running
returns-clause-running c start s events running =
    let now = c.args.self.now in
    let new = c.lined.new.self in
    subst (λ (x : SeenManager). IsRunning start s (Lined ∷ events) (with x new x.steps x.journal due.Free))
    (sym c.self.view_is)
    (lined_runs start s events now running c.requires.0 c.requires.1.is new
    (λ follows. c.lined.ensures.follows s events
    (subst (λ (x : SeenManager). Follows s events x.moves) (sym c.self.view_is) follows))
    (subst (λ (x : SeenManager). IsSteady x.moves new) c.self.view_is c.lined.ensures.steady))

pub returns-clause-cells : goal.returns-clause-cells
returns-clause-cells c = cells_same c.args.self.now.steps _ (ap (λ (x : SeenManager). x.steps) c.self.view_is)
