use Rattle.run_transfers.proofs.RunLemmas.{desk_room, gives_on, goes_free, is_due, lane_within, pending_lane, pending_room}
use Rattle.run_transfers.proofs.moves.give.Goals as goal

pub job-job-requires : goal.job-job-requires
job-job-requires g c = (c.args.lane, is_due c.requires)

pub send-requires-clause-lane : goal.send-requires-clause-lane
send-requires-clause-lane g c κs within = lane_within c.requires.kept c.requires.is

pub send-requires-clause-room : goal.send-requires-clause-room
send-requires-clause-room g c κs within = desk_room c.requires.kept c.requires.is

pub send-requires-clause-pending_lane : goal.send-requires-clause-pending_lane
send-requires-clause-pending_lane g c κs within = pending_lane c.requires.kept c.requires.is

pub send-requires-clause-pending_room : goal.send-requires-clause-pending_room
send-requires-clause-pending_room g c κs within = pending_room c.requires.kept c.requires.is

pub gave-requires : goal.gave-requires
gave-requires g c =
    let k = c.requires.kept in record {
      start = _;
      s = _;
      events = _;
      running = c.job-job.ensures.running _ _ _ k.running;
      task = c.args.task;
      of_op = c.args.op;
      number = c.args.number;
      is = c.job-job.ensures.due c.args.lane c.requires.is;
    }

pub returns-clause-goes_on : goal.returns-clause-goes_on
returns-clause-goes_on g c run k =
    let due = c.requires.is in
    gives_on k due c.job-job.result (c.job-job.ensures.job _ _ _ k.running) c.gave.new.self
    (c.gave.ensures.running _ _ _ c.args.task c.args.number c.args.op (c.job-job.ensures.running _ _ _ k.running)
    (c.job-job.ensures.due c.args.lane due)) c.gave.ensures.free c.send.ensures.gave c.send.ensures.pending

pub returns-clause-free : goal.returns-clause-free
returns-clause-free g c =
    let k = c.requires.kept in
    let due = c.requires.is in
    goes_free
    (gives_on k due c.job-job.result (c.job-job.ensures.job _ _ _ k.running) c.gave.new.self
    (c.gave.ensures.running _ _ _ c.args.task c.args.number c.args.op (c.job-job.ensures.running _ _ _ k.running)
    (c.job-job.ensures.due c.args.lane due)) c.gave.ensures.free c.send.ensures.gave c.send.ensures.pending) c.gave.ensures.free
