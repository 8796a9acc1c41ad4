use Rattle.std.proofs.Common.{◌≡◌, ◌∙◌, ◌==◌, ◌&&◌, None, Some, ap, refl}
use Rattle.std.specs.Prelude.{if◌then◌else◌}
use Rattle.chunk_plan.specs.Pool.{Pool}
use Rattle.held_parts.specs.Held.{IsSamePool, held_at}
use Rattle.part_tables.proofs.Tables.{last_put_counts}
use Rattle.move_laws.proofs.KeptBytes.{bytes_emptied}
use Rattle.move_laws.proofs.Lent.{taken_back}
use Rattle.move_laws.proofs.SteadyLemmas.{steady_as}
use Rattle.move_laws.specs.Kept.{SeenMoves, with_parts}
use Rattle.move_core.proofs.move_core.MoveCore.take_back.Goals as goal

pub returns-clause-follows : goal.returns-clause-follows
returns-clause-follows c s events lent =
    let now = c.args.self.now in
    let same : c.take-part.new.self.pool ≡ now.parts.pool =
    c.take-part.ensures.pool ∙ ap (λ (x : SeenMoves). x.parts.pool) c.self.view_is in
    let pool : IsSamePool now.parts.pool c.give_back.new.self.pool = record {
      count = c.give_back.ensures.pool.count ∙ ap (λ (p : Pool). p.count) same;
      room = c.give_back.ensures.pool.room ∙ ap (λ (p : Pool). p.room) same;
    } in
    taken_back s events c.args.task c.args.number now lent _
    (ap (λ (x : SeenMoves). with_parts c.give_back.new.self x) c.self.view_is) pool
    (last_put_counts c.args.task c.args.number (Some None) None now.parts.slots c.take-part.new.self.slots
    c.give_back.new.self.slots
    (λ x y. c.take-part.ensures.held x y
    ∙ ap (λ (z : SeenMoves). if (c.args.task == x) && (c.args.number == y) then Some None
    else held_at z.parts.slots x y) c.self.view_is)
    (λ x y. c.give_back.ensures.held x y))

pub returns-clause-bytes : goal.returns-clause-bytes
returns-clause-bytes c =
    bytes_emptied c.args.task c.args.number None c.args.self.now.parts.slots c.give_back.new.self.slots
    (last_put_counts c.args.task c.args.number (Some None) None c.args.self.now.parts.slots
    c.take-part.new.self.slots c.give_back.new.self.slots
    (λ x y. c.take-part.ensures.held x y
    ∙ ap (λ (z : SeenMoves). if (c.args.task == x) && (c.args.number == y) then Some None
    else held_at z.parts.slots x y) c.self.view_is)
    (λ x y. c.give_back.ensures.held x y)) refl

pub returns-clause-steady : goal.returns-clause-steady
returns-clause-steady c = steady_as c.args.self.now _ (ap (λ (x : SeenMoves). x.slots) c.self.view_is)
    (c.give_back.ensures.pool.room ∙ ap (λ (p : Pool). p.room) c.take-part.ensures.pool
    ∙ ap (λ (x : SeenMoves). x.parts.pool.room) c.self.view_is)
