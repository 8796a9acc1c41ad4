use Rattle.std.proofs.Common.{◌≡◌, ◌∙◌, ◌==◌, ◌&&◌, ap, subst}
use Rattle.std.specs.Option.{option_map}
use Rattle.std.specs.Prelude.{if◌then◌else◌}
use Rattle.chunk_plan.specs.Pool.{Pool}
use Rattle.held_parts.specs.Held.{grown, held_at, here_at, with_more}
use Rattle.move_laws.proofs.KeptBytes.{bytes_added}
use Rattle.move_laws.proofs.Lent.{still_lent}
use Rattle.move_laws.specs.Bytes.{KeepsBytes, only_at}
use Rattle.move_laws.specs.Kept.{SeenMoves, with_parts}
use Rattle.move_core.proofs.move_core.MoveCore.fill.Goals as goal

pub returns-clause-bytes : goal.returns-clause-bytes
returns-clause-bytes c =
    subst (λ (z : SeenMoves). KeepsBytes (only_at c.args.task c.args.number
    (option_map (with_more c.args.bytes.now) (here_at z.parts.slots c.args.task c.args.number))) z.parts.slots
    c.add.new.self.slots) c.self.view_is
    (bytes_added c.args.task c.args.number c.args.bytes.now c.self.inside.parts.slots c.add.new.self.slots
    c.add.ensures.held)

pub returns-clause-lent : goal.returns-clause-lent
returns-clause-lent c m lent =
    let same : c.add.new.self.pool ≡ c.args.self.now.parts.pool =
    c.add.ensures.pool ∙ ap (λ (x : SeenMoves). x.parts.pool) c.self.view_is in
    still_lent c.args.task c.args.number c.args.bytes.now m c.args.self.now _ lent
    (ap (λ (x : SeenMoves). with_parts c.add.new.self x) c.self.view_is)
    (record { count = ap (λ (p : Pool). p.count) same; room = ap (λ (p : Pool). p.room) same })
    (λ x y. c.add.ensures.held x y
    ∙ ap (λ (z : SeenMoves). if (c.args.task == x) && (c.args.number == y)
    then grown c.args.bytes.now (held_at z.parts.slots x y) else held_at z.parts.slots x y) c.self.view_is)
