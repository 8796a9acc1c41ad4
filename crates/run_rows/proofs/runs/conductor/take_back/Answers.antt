use Rattle.std.proofs.Common.{Option, IfSome, sym, subst}
use Rattle.jobs.specs.Endings.{SeenCarried}
use Rattle.run_scripts.specs.Returning.{ComesOf}
use Rattle.run_rows.proofs.RunLemmas.{comes_back, has_room, may_come_back, may_follow}
use Rattle.run_rows.proofs.runs.conductor.take_back.Goals as goal

pub came-requires-clause-may : goal.came-requires-clause-may
came-requires-clause-may c =
    let first = sym c.in-Some.ensures.job in
    let comes =
    subst (λ (back : Option SeenCarried). IfSome back (ComesOf c.in-Some.job)) c.in-Some-2.is c.in_ok-carried.ensures
    in
    may_come_back c.requires c.args.lane first comes

pub came-requires-clause-room : goal.came-requires-clause-room
came-requires-clause-room c =
    let first = sym c.in-Some.ensures.job in
    let comes =
    subst (λ (back : Option SeenCarried). IfSome back (ComesOf c.in-Some.job)) c.in-Some-2.is c.in_ok-carried.ensures
    in
    has_room c.requires c.args.lane first comes

pub returns : goal.returns
returns c so =
    let k = c.requires.kept in
    let first = sym c.in-Some.ensures.job in
    let comes =
    subst (λ (back : Option SeenCarried). IfSome back (ComesOf c.in-Some.job)) c.in-Some-2.is c.in_ok-carried.ensures
    in
    let follows = may_follow c.requires c.args.lane first comes in
    comes_back c.requires c.args.lane first comes c.came.new.self
    (c.came.ensures.running k.start k.s k.events k.running follows) c.came.ensures.free
    c.take_from.new.lanes.items c.take_from.ensures.rest
