use Rattle.std.proofs.Common.{◌∙◌, List, ap}
use Rattle.s3_model.specs.declared.outcomes.JobId.{JobId}
use Rattle.lane_queues.specs.Lanes.{SeenQueue, rows}
use Rattle.lane_queues.proofs.LaneLemmas.{rows_empty, starts}
use Rattle.lane_queues.proofs.lane_queues.LaneQueues.make.Goals as goal

pub invariant_of-result : goal.invariant_of-result
invariant_of-result c =
    let outs = c.in_ok-outs.ensures in
    starts c.args.lanes c.args.depth c.in_ok-queues.queues.items c.in_ok-outs.outs c.requires.some c.requires.few c.requires.shallow
    outs.wide outs.none outs.behind c.in_ok-queues.ensures

pub returns : goal.returns
returns c =
    ap (λ (jobs : List (List JobId)). record { depth = c.args.depth; jobs = jobs })
    (ap (λ (queues : List SeenQueue). rows queues) c.in_ok-queues.ensures ∙ rows_empty c.args.lanes c.args.depth)
