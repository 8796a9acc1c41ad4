use Rattle.std.proofs.Common.{Some, None, refl}
use Rattle.move_laws.specs.Kept.{rest_by}
use Rattle.move_laws.proofs.Next.{by_call, by_giving, by_line, by_rest}
use Rattle.move_core.proofs.move_core.MoveCore.next.Goals as goal

pub returns-in-Some : goal.returns-in-Some
returns-in-Some c s events follows = by_line s events c.args.self.now follows c.in-Some.line c.in-Some.ensures

pub returns-in-Some-call : goal.returns-in-Some-call
returns-in-Some-call c s events follows =
    by_call s events c.args.self.now follows c.has_free-free.ensures.single c.in-Some-call.call c.has_free-free.result
    c.has_free-free.ensures.free c.in_default.ensures c.in-Some-call.ensures

pub returns-in-Some-giving : goal.returns-in-Some-giving
returns-in-Some-giving c s events follows =
    by_giving s events c.args.self.now follows c.has_free-free.ensures.single c.freest-lane.result c.freest-lane.ensures
    c.in-Some-giving.giving c.has_free-free.result c.has_free-free.ensures.free c.in_default.ensures
    c.in_default-call.ensures c.in-Some-giving.ensures

pub returns-in-Some-making : goal.returns-in-Some-making
returns-in-Some-making c s events follows =
    by_rest s events c.args.self.now follows c.has_free-free.ensures.single c.freest-lane.result c.freest-lane.ensures
    c.has_free-free.result (Some c.in-Some-making.making) (rest_by c.args.self.now) c.has_free-free.ensures.free
    c.in_default.ensures c.in_default-call.ensures c.in_default-giving.ensures c.in-Some-making.ensures refl

pub returns : goal.returns
returns c s events follows =
    by_rest s events c.args.self.now follows c.has_free-free.ensures.single c.freest-lane.result c.freest-lane.ensures
    c.has_free-free.result None c.rest.result c.has_free-free.ensures.free c.in_default.ensures
    c.in_default-call.ensures c.in_default-giving.ensures c.in_default-making.ensures c.rest.ensures
