use Rattle.std.proofs.Common.{◌≡◌, true, ap, arith, subst, sym}
use Rattle.std.specs.Prelude.{◌+◌}
use Rattle.move_laws.specs.Kept.{SeenMoves, has_outcome}
use Rattle.move_laws.proofs.SteadyLemmas.{steady_as}
use Rattle.move_laws.proofs.Staying.{line_fits, line_follows}
use Rattle.move_core.proofs.move_core.MoveCore.lined.Goals as goal

pub overflow_add-self : goal.overflow_add-self
overflow_add-self c =
    let fits = line_fits _ _ _ _ c.self.invariant c.self.inside.lined
    (subst (λ (x : SeenMoves). has_outcome x x.lined ≡ true) (sym c.self.view_is) c.requires) in
    omega (arith, fits)

pub returns-clause-follows : goal.returns-clause-follows
returns-clause-follows c s events follows =
    line_follows s events c.args.self.now _ follows
    (ap (λ (x : SeenMoves). record x { lined = x.lined + 1 }) c.self.view_is)

pub returns-clause-steady : goal.returns-clause-steady
returns-clause-steady c = steady_as c.args.self.now _ (ap (λ (x : SeenMoves). x.slots) c.self.view_is)
    (ap (λ (x : SeenMoves). x.parts.pool.room) c.self.view_is)
