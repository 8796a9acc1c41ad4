use Rattle.std.proofs.Common.{refl}
use Rattle.manager_moves.specs.Runs.{Called}
use Rattle.run_rows.proofs.RunLemmas.{call_is_due, call_may, goes_on}
use Rattle.run_rows.proofs.runs.conductor.Conductor.call.Goals as goal

pub file_came-requires : goal.file_came-requires
file_came-requires c =
    call_may c.requires c.in-Some.call c.in-Some.ensures c.args.came (c.may_come.ensures c.if-not-may_come.false)

pub returns : goal.returns
returns c so =
    let k = c.requires.kept in
    let call = c.in-Some.call in
    let due = call_is_due c.requires call c.in-Some.ensures in
    goes_on k (Called call.0 call.1 c.args.came) refl
    (c.file_came.ensures.running k.start k.s k.events (record { task = call.0; act = call.1 }) k.running due)
    c.file_came.ensures.free
