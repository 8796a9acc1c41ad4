use Rattle.std.proofs.Common.{[], refl, subst, sym}
use Rattle.move_core.proofs.Start.{sound, starts}
use Rattle.move_core.proofs.move_core.MoveCore.make.Goals as goal
use Rattle.move_laws.specs.Follows.{Follows}
use Rattle.move_laws.specs.Kept.{SeenMoves}

pub begin-requires : goal.begin-requires
begin-requires c = sound c.args.count 0 _ _ _ c.in-Ok.ensures.acts c.in-Ok.ensures.slots
    c.in-Ok.ensures.outcomes refl c.ranges.count.fits

pub returns-in-Ok-clause-follows : goal.returns-in-Ok-clause-follows
returns-in-Ok-clause-follows c s shared = subst (λ (m : SeenMoves). Follows s [] m) (sym c.begin.ensures)
    (starts c.args.count c.args.means _ (record {
      queue = refl;
      lanes = c.in_ok-lanes.ensures;
      acts = c.in-Ok.ensures.acts;
      slots = c.in-Ok.ensures.slots;
      outcomes = c.in-Ok.ensures.outcomes;
      parts_slots = c.in-Ok.ensures.lent;
      parts_count = c.in-Ok.ensures.parts;
      made = refl;
      lined = refl;
      unfinished = refl;
      reason = refl;
    }) s shared c.requires.some)
