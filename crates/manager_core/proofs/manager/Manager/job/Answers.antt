use Rattle.std.proofs.Common.{◌∙◌, ℕ, None, get_or, sym, subst, ap}
use Rattle.held_parts.specs.Held.{SeenParts}
use Rattle.move_laws.specs.Bytes.{KeepsBytes, no_part}
use Rattle.move_laws.specs.Follows.{Follows}
use Rattle.run_steps.proofs.Settling.{slice_within}
use Rattle.manager_core.proofs.CellLemmas.{cells_same}
use Rattle.manager_core.proofs.FirstJobs.{IsSentBy, goes_on, handed_out, sent_first}
use Rattle.manager_core.proofs.GivenRuns.{give_lane, sent_run}
use Rattle.manager_core.proofs.ReadyJobs.{in_plan, its_at, its_task}
use Rattle.manager_core.proofs.RunLemmas.{with}
use Rattle.manager_core.specs.declared.due.Due.TheVariants as due
use Rattle.manager_core.specs.Cells.{CellStays}
use Rattle.manager_core.specs.Due.{lane_due}
use Rattle.manager_core.specs.Kept.{SeenManager}
use Rattle.manager_core.specs.Running.{IsRunning}
use Rattle.manager_core.proofs.manager.Manager.job.Goals as goal

pub task-requires : goal.task-requires
task-requires c =
    let r = c.requires.1 in
    let now = c.args.self.now in
    let is = give_lane now.due c.args.task c.args.op c.args.number c.requires.0 c.due_lane-lane.result r.is
    (ap (λ (x : SeenManager). lane_due x.due) (sym c.self.view_is) ∙ c.due_lane-lane.ensures) in
    slice_within now.plan.tasks.items c.args.task
    (its_task r.start r.s r.events now r.running c.args.task c.args.op c.args.number c.due_lane-lane.result is)
    (in_plan r.start r.s r.events now r.running c.args.task c.args.op c.args.number c.due_lane-lane.result is).1

pub sent-given-requires : goal.sent-given-requires
sent-given-requires c =
    let r = c.requires.1 in
    let now = c.args.self.now in
    let is = give_lane now.due c.args.task c.args.op c.args.number c.requires.0 c.due_lane-lane.result r.is
    (ap (λ (x : SeenManager). lane_due x.due) (sym c.self.view_is) ∙ c.due_lane-lane.ensures) in
    record {
      s = r.s;
      events = r.events;
      run = sent_run r.start r.s r.events now r.running c.args.task c.args.op c.args.number c.due_lane-lane.result is;
      follows = subst (λ (x : SeenManager). Follows r.s r.events x.moves) (sym c.self.view_is)
          (its_at r.start r.s r.events now r.running c.args.task c.args.op c.args.number c.due_lane-lane.result
          is).follows;
    }

pub first_job-requires : goal.first_job-requires
first_job-requires c =
    let r = c.requires.1 in
    let now = c.args.self.now in
    let mv = c.sent-given.new.self in
    let lane = c.due_lane-lane.result in
    let is = give_lane now.due c.args.task c.args.op c.args.number c.requires.0 lane r.is
    (ap (λ (x : SeenManager). lane_due x.due) (sym c.self.view_is) ∙ c.due_lane-lane.ensures) in
    let by : IsSentBy c.args.task c.args.op c.args.number lane c.sent-given.result now.moves mv =
    subst (λ (x : SeenManager). IsSentBy c.args.task c.args.op c.args.number lane c.sent-given.result x.moves mv)
    c.self.view_is (record {
      goes = c.sent-given.ensures.follows;
      known = c.sent-given.ensures.known;
      part = c.sent-given.ensures.part;
      bytes = c.sent-given.ensures.bytes;
      steady = c.sent-given.ensures.steady;
    }) in
    record {
      start = r.start;
      s = r.s;
      events = r.events;
      lane = lane;
      m = now;
      first = sent_first r.start r.s r.events now r.running c.args.task c.args.op c.args.number lane is
          c.sent-given.result mv by c.in-First.part c.in-First.is c.self.inside.steps.items
          (ap (λ (x : SeenManager). x.steps) c.self.view_is) c.task.result.now c.task.ensures c.see_size.ensures;
    }

pub returns-in-Again-clause-running : goal.returns-in-Again-clause-running
returns-in-Again-clause-running c start s events running =
    let now = c.args.self.now in
    let mv = c.sent-given.new.self in
    let lane = c.due_lane-lane.result in
    let is = give_lane now.due c.args.task c.args.op c.args.number c.requires.0 lane c.requires.1.is
    (ap (λ (x : SeenManager). lane_due x.due) (sym c.self.view_is) ∙ c.due_lane-lane.ensures) in
    let by : IsSentBy c.args.task c.args.op c.args.number lane c.sent-given.result now.moves mv =
    subst (λ (x : SeenManager). IsSentBy c.args.task c.args.op c.args.number lane c.sent-given.result x.moves mv)
    c.self.view_is (record {
      goes = c.sent-given.ensures.follows;
      known = c.sent-given.ensures.known;
      part = c.sent-given.ensures.part;
      bytes = c.sent-given.ensures.bytes;
      steady = c.sent-given.ensures.steady;
    }) in
    subst (λ (x : SeenManager). IsRunning start s events
    (with x mv x.steps x.journal (due.Job c.args.task c.args.op c.args.number lane))) (sym c.self.view_is)
    (goes_on start s events now running c.args.task c.args.op c.args.number lane is c.sent-given.result mv by)

pub returns-in-Again-clause-job : goal.returns-in-Again-clause-job
returns-in-Again-clause-job c start s events running =
    let now = c.args.self.now in
    let mv = c.sent-given.new.self in
    let lane = c.due_lane-lane.result in
    let is = give_lane now.due c.args.task c.args.op c.args.number c.requires.0 lane c.requires.1.is
    (ap (λ (x : SeenManager). lane_due x.due) (sym c.self.view_is) ∙ c.due_lane-lane.ensures) in
    let by : IsSentBy c.args.task c.args.op c.args.number lane c.sent-given.result now.moves mv =
    subst (λ (x : SeenManager). IsSentBy c.args.task c.args.op c.args.number lane c.sent-given.result x.moves mv)
    c.self.view_is (record {
      goes = c.sent-given.ensures.follows;
      known = c.sent-given.ensures.known;
      part = c.sent-given.ensures.part;
      bytes = c.sent-given.ensures.bytes;
      steady = c.sent-given.ensures.steady;
    }) in
    handed_out start s events now running c.args.task c.args.op c.args.number lane is c.sent-given.result mv by
    c.in-Again.job c.in-Again.is

pub returns-in-First-clause-running : goal.returns-in-First-clause-running
returns-in-First-clause-running c start s events running =
    let now = c.args.self.now in
    let mv = c.sent-given.new.self in
    let lane = c.due_lane-lane.result in
    let is = give_lane now.due c.args.task c.args.op c.args.number c.requires.0 lane c.requires.1.is
    (ap (λ (x : SeenManager). lane_due x.due) (sym c.self.view_is) ∙ c.due_lane-lane.ensures) in
    let by : IsSentBy c.args.task c.args.op c.args.number lane c.sent-given.result now.moves mv =
    subst (λ (x : SeenManager). IsSentBy c.args.task c.args.op c.args.number lane c.sent-given.result x.moves mv)
    c.self.view_is (record {
      goes = c.sent-given.ensures.follows;
      known = c.sent-given.ensures.known;
      part = c.sent-given.ensures.part;
      bytes = c.sent-given.ensures.bytes;
      steady = c.sent-given.ensures.steady;
    }) in
    subst (λ (x : SeenManager). IsRunning start s events (with x c.first_job.new.moves c.first_job.new.steps.items
    x.journal (due.Job c.args.task c.args.op c.args.number lane))) (sym c.self.view_is)
    (c.first_job.ensures.running start s events lane now
    (sent_first start s events now running c.args.task c.args.op c.args.number lane is c.sent-given.result mv by
    c.in-First.part c.in-First.is c.self.inside.steps.items (ap (λ (x : SeenManager). x.steps) c.self.view_is)
    c.task.result.now c.task.ensures c.see_size.ensures))

pub returns-in-First-clause-job : goal.returns-in-First-clause-job
returns-in-First-clause-job c start s events running =
    let now = c.args.self.now in
    let mv = c.sent-given.new.self in
    let lane = c.due_lane-lane.result in
    let is = give_lane now.due c.args.task c.args.op c.args.number c.requires.0 lane c.requires.1.is
    (ap (λ (x : SeenManager). lane_due x.due) (sym c.self.view_is) ∙ c.due_lane-lane.ensures) in
    let by : IsSentBy c.args.task c.args.op c.args.number lane c.sent-given.result now.moves mv =
    subst (λ (x : SeenManager). IsSentBy c.args.task c.args.op c.args.number lane c.sent-given.result x.moves mv)
    c.self.view_is (record {
      goes = c.sent-given.ensures.follows;
      known = c.sent-given.ensures.known;
      part = c.sent-given.ensures.part;
      bytes = c.sent-given.ensures.bytes;
      steady = c.sent-given.ensures.steady;
    }) in
    c.first_job.ensures.job start s events lane now
    (sent_first start s events now running c.args.task c.args.op c.args.number lane is c.sent-given.result mv by
    c.in-First.part c.in-First.is c.self.inside.steps.items (ap (λ (x : SeenManager). x.steps) c.self.view_is)
    c.task.result.now c.task.ensures c.see_size.ensures)

pub returns-in-Again-clause-cells : goal.returns-in-Again-clause-cells
returns-in-Again-clause-cells c = cells_same c.args.self.now.steps _ (ap (λ (x : SeenManager). x.steps) c.self.view_is)

pub returns-in-First-clause-cells : goal.returns-in-First-clause-cells
returns-in-First-clause-cells c =
    subst (λ (x : SeenManager). (n : ℕ)
    → CellStays (get_or x.steps n None) (get_or c.first_job.new.steps.items n None)) c.self.view_is
    c.first_job.ensures.cells

pub returns-in-Again-clause-bytes : goal.returns-in-Again-clause-bytes
returns-in-Again-clause-bytes c =
    subst (λ (x : SeenManager). KeepsBytes no_part x.moves.parts.slots c.sent-given.new.self.parts.slots) c.self.view_is
    c.sent-given.ensures.bytes

pub returns-in-First-clause-bytes : goal.returns-in-First-clause-bytes
returns-in-First-clause-bytes c =
    subst (λ (p : SeenParts). KeepsBytes no_part c.args.self.now.moves.parts.slots p.slots)
    (sym c.first_job.ensures.parts)
    (subst (λ (x : SeenManager). KeepsBytes no_part x.moves.parts.slots c.sent-given.new.self.parts.slots)
    c.self.view_is c.sent-given.ensures.bytes)
