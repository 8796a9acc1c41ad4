use Rattle.std.proofs.Common.{◌∙◌, arith, inr, rules}
use Rattle.lane_jobs.proofs.LoopLemmas.{ends_by, goes_on_by, keeps_same, looked, none_made, runs_out, stops, to_service, unheard}
use Rattle.lane_jobs.proofs.tries.make_attempts.Goals as goal

pub returns-in-Some-clause-carried : goal.returns-in-Some-clause-carried
returns-in-Some-clause-carried g c =
    rw c.ending_by.ensures
    (stops _ _ _ _ _ _ _ _ c.loop-number.invariant.underway c.args.most (omega arith) c.in-Some.reason _ (looked _ _ _ c.in-Some.ensures))

pub returns-in-Err-clause-carried : goal.returns-in-Err-clause-carried
returns-in-Err-clause-carried g c =
    let is = c.loop-number.invariant in
    let one = to_service c.args.client.now.endpoint c.loop-number.client.endpoint c.args.client.now.signer c.loop-number.client.signer c.args.ask.now c.args.payload.now c.args.limit c.loop-number.number
    c.attempt_once-attempted.result c.attempt_once-attempted.new.into.bytes (g.W.Wire.seen c.loop-number.wire) (g.W.Wire.seen c.attempt_once-attempted.new.wire) is.endpoint is.keys c.attempt_once-attempted.ensures.gained in
    ends_by _ _ _ _ _ _ _ _ _ _ is.underway c.args.most (omega arith) _ c.attempt_once-attempted.result one _ c.came_to.ensures.tries c.in-Err.ending
    c.attempt_once-attempted.ensures.classed c.attempt_once-attempted.ensures.refused c.in-Err.ensures.ends

pub returns-in-Err-clause-cell : goal.returns-in-Err-clause-cell
returns-in-Err-clause-cell g c = keeps_same c.args.cell.now c.loop-number.cell c.look.new.cell c.loop-number.invariant.cell c.in_default.ensures

pub loop-number-preserved : goal.loop-number-preserved
loop-number-preserved g c =
    let is = c.loop-number.invariant in
    let one = to_service c.args.client.now.endpoint c.loop-number.client.endpoint c.args.client.now.signer c.loop-number.client.signer c.args.ask.now c.args.payload.now c.args.limit c.loop-number.number
    c.attempt_once-attempted.result c.attempt_once-attempted.new.into.bytes (g.W.Wire.seen c.loop-number.wire) (g.W.Wire.seen c.attempt_once-attempted.new.wire) is.endpoint is.keys c.attempt_once-attempted.ensures.gained in
    let heard = unheard _ _ c.in_default.ensures in
    record {
      underway =
          goes_on_by _ _ _ _ _ _ _ _ _ _ is.underway c.attempt_once-attempted.result one _ c.came_to.ensures.tries c.in-Ok.judged c.in-Ok.ensures.made c.in-Ok.ensures.again
          c.attempt_once-attempted.ensures.refused;
      cell = heard.0 ∙ is.cell;
      quiet = inr heard.1;
      later = omega (arith, is.later, c.attempt_once-attempted.ensures.later);
      endpoint = c.attempt_once-attempted.ensures.endpoint ∙ is.endpoint;
      keys = c.attempt_once-attempted.ensures.keys ∙ is.keys;
      untouched = λ free. c.attempt_once-attempted.ensures.untouched free ∙ is.untouched free;
      room = c.attempt_once-attempted.ensures.room ∙ is.room;
    }

pub unreachable-requires : goal.unreachable-requires
unreachable-requires g c =
    let at = none_made _ _ _ _ _ _ _ _ c.loop-number.invariant.underway c.in_default-last.is in
    omega (arith, at, c.loop-number-test.false, c.requires.left)

pub returns-clause-carried : goal.returns-clause-carried
returns-clause-carried g c =
    let below = c.loop-number.auto.number-end (omega (arith, c.requires.left)) in
    rw c.ending_of.ensures
    (runs_out _ _ _ _ _ _ _ _ c.loop-number.invariant.underway c.args.most below c.in-Some-last.judged c.in-Some-last.is (omega (arith, below, c.loop-number-test.false)) _)

pub loop-number-init : goal.loop-number-init
loop-number-init g c = search rules
