use Rattle.move_laws.proofs.Lent.{read_next}
use Rattle.move_core.proofs.move_core.MoveCore.lend_next.Goals as goal

pub lend-requires-clause-none : goal.lend-requires-clause-none
lend-requires-clause-none c =
    let r = c.requires in
    (read_next r.s r.events c.args.self.now c.args.task c.args.number r.run r.follows r.next
    c.has_free-free.ensures.single).0

pub lend-requires-clause-free : goal.lend-requires-clause-free
lend-requires-clause-free c =
    let r = c.requires in
    (read_next r.s r.events c.args.self.now c.args.task c.args.number r.run r.follows r.next
    c.has_free-free.ensures.single).1

pub returns-clause-lent : goal.returns-clause-lent
returns-clause-lent c s events run follows next = record {
  before = c.args.self.now;
  follows = follows;
  none = (read_next s events c.args.self.now c.args.task c.args.number run follows next
      c.has_free-free.ensures.single).0;
  lent = c.lend.ensures.lent;
}

pub returns-clause-part : goal.returns-clause-part
returns-clause-part c = c.lend.ensures.lent
