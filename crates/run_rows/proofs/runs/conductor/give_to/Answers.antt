use Rattle.run_rows.proofs.RunLemmas.{gives, is_due, lane_within}
use Rattle.run_rows.proofs.runs.conductor.give_to.Goals as goal

pub job-job-requires : goal.job-job-requires
job-job-requires c = (c.args.lane, is_due c.requires)

pub push_to-requires : goal.push_to-requires
push_to-requires c = lane_within c.requires

pub gave-requires : goal.gave-requires
gave-requires c =
    let k = c.requires.kept in record {
      start = k.start;
      s = k.s;
      events = k.events;
      running = c.job-job.ensures.running k.start k.s k.events k.running;
      task = c.args.task;
      of_op = c.args.op;
      number = c.args.number;
      is = c.job-job.ensures.due c.args.lane c.requires.is;
    }

pub returns : goal.returns
returns c =
    let k = c.requires.kept in
    let formed = c.job-job.ensures.running k.start k.s k.events k.running in
    let due = c.job-job.ensures.due c.args.lane c.requires.is in
    gives c.requires c.job-job.result (c.job-job.ensures.job k.start k.s k.events k.running) c.gave.new.self
    (c.gave.ensures.running k.start k.s k.events c.args.task c.args.number c.args.op formed due) c.gave.ensures.free
    c.push_to.new.lanes.items c.in_ok-push_to.ensures
