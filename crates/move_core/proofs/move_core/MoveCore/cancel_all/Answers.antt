use Rattle.std.proofs.Common.{◌∙◌, Some, ap, arith, is_some, refl, sym}
use Rattle.move_laws.proofs.CancelEnds.{begins_at, ends_at, follows_again}
use Rattle.move_laws.proofs.KeptBytes.{bytes_same, bytes_then}
use Rattle.move_laws.proofs.SteadyLemmas.{steady_as, steady_same, steady_then}
use Rattle.move_laws.specs.Bytes.{no_part}
use Rattle.move_laws.specs.Kept.{SeenMoves}
use Rattle.move_core.proofs.move_core.MoveCore.cancel_all.Goals as goal

pub returns-then-is_some-clause-goes_on : goal.returns-then-is_some-clause-goes_on
returns-then-is_some-clause-goes_on c s events run follows =
    follows_again s events c.args.reason run c.args.self.now follows
    (sym (c.is_some.ensures ∙ ap (λ (x : SeenMoves). is_some x.reason) c.self.view_is) ∙ c.if-is_some.true)

pub loop-task-init : goal.loop-task-init
loop-task-init c =
    let here = begins_at c.args.reason c.args.self.now _
    (ap (λ (x : SeenMoves). record x { reason = Some c.args.reason }) c.self.view_is)
    (sym (c.is_some.ensures ∙ ap (λ (x : SeenMoves). is_some x.reason) c.self.view_is) ∙ c.if-is_some.false) in
    record {
      made = refl;
      told = record {
        s = c.requires.s;
        events = c.requires.events;
        run = c.requires.run;
        heard = here c.requires.s c.requires.events c.requires.run c.requires.follows;
      };
      heard = here;
      bytes = bytes_same c.args.self.now.parts.slots _ (ap (λ (x : SeenMoves). x.parts.slots) c.self.view_is);
      steady = steady_as c.args.self.now _ (ap (λ (x : SeenMoves). x.slots) c.self.view_is)
          (ap (λ (x : SeenMoves). x.parts.pool.room) c.self.view_is);
    }

pub returns-clause-goes_on : goal.returns-clause-goes_on
returns-clause-goes_on c s events run follows =
    let made_is = ap (λ (x : SeenMoves). x.made) c.self.view_is ∙ follows.made_is in
    ends_at s events c.args.reason c.loop-task.task c.loop-task.self
    (omega (arith, made_is, c.loop-task-test.false, c.loop-task.auto.task-end))
    (c.loop-task.invariant.heard s events run follows)

pub loop-task-preserved : goal.loop-task-preserved
loop-task-preserved c =
    let now = c.loop-task.invariant in record {
      made = c.cancel.ensures.made ∙ now.made;
      told = record {
        s = now.told.s;
        events = now.told.events;
        run = now.told.run;
        heard = c.cancel.ensures.next now.told.s now.told.events now.told.run now.told.heard;
      };
      heard = λ s events run follows. c.cancel.ensures.next s events run (now.heard s events run follows);
      bytes = bytes_then no_part c.args.self.now.parts.slots c.loop-task.self.parts.slots
          c.cancel.new.self.parts.slots now.bytes c.cancel.ensures.bytes;
      steady = steady_then c.args.self.now c.loop-task.self c.cancel.new.self now.steady c.cancel.ensures.steady;
    }

pub returns-then-is_some-clause-bytes : goal.returns-then-is_some-clause-bytes
returns-then-is_some-clause-bytes c = bytes_same c.args.self.now.parts.slots c.args.self.now.parts.slots refl

pub returns-clause-bytes : goal.returns-clause-bytes
returns-clause-bytes c = c.loop-task.invariant.bytes

pub returns-then-is_some-clause-steady : goal.returns-then-is_some-clause-steady
returns-then-is_some-clause-steady c = steady_same c.args.self.now

pub returns-clause-steady : goal.returns-clause-steady
returns-clause-steady c = c.loop-task.invariant.steady
