use Rattle.std.proofs.Common.{◌∙◌, ◌-◌, ℕ, List, drop, ap, arith}
use Rattle.s3_model.specs.declared.outcomes.JobId.{JobId}
use Rattle.lane_queues.specs.Lanes.{SeenQueue, jobs_in}
use Rattle.lane_queues.proofs.LaneLemmas.{count_read, counted_in, in_queues, not_empty, pops, row_seen, shown}
use Rattle.lane_queues.proofs.lane_queues.LaneQueues.pop.Goals as goal

pub overflow_sub-fewer : goal.overflow_sub-fewer
overflow_sub-fewer c =
    let l = c.self.inside in
    let inside = in_queues l.depth l.queues.items c.args.self.now c.args.lane c.self.view_is c.requires in
    let q = c.index_mut.result.now in
    let count = count_read l.depth l.queues.items l.outs l.out c.self.invariant c.args.lane inside q c.index_mut.ensures.value in
    let some = not_empty q.row c.pop.result c.in_ok-job.job c.pop.ensures.job c.in_ok-job.was in
    omega (arith, c.get-fewer.ensures)

pub overflow_sub-self : goal.overflow_sub-self
overflow_sub-self c =
    let l = c.self.inside in
    let inside = in_queues l.depth l.queues.items c.args.self.now c.args.lane c.self.view_is c.requires in
    let q = c.index_mut.result.now in
    let within = counted_in l.depth l.queues.items l.outs l.out c.self.invariant c.args.lane inside q c.index_mut.ensures.value in
    let some = not_empty q.row c.pop.result c.in_ok-job.job c.pop.ensures.job c.in_ok-job.was in
    omega arith

pub invariant_of-self-2 : goal.invariant_of-self-2
invariant_of-self-2 c =
    let l = c.self.inside in
    let inside = in_queues l.depth l.queues.items c.args.self.now c.args.lane c.self.view_is c.requires in
    let q = c.index_mut.result.now in
    let some = not_empty q.row c.pop.result c.in_ok-job.job c.pop.ensures.job c.in_ok-job.was in
    pops l.depth l.queues.items l.outs l.out c.self.invariant c.args.lane inside q c.index_mut.ensures.value c.pop.new.self c.set.new.self
    (c.get-fewer.result - 1) some c.pop.ensures.rest c.set.ensures (ap (λ (n : ℕ). n - 1) c.get-fewer.ensures)

pub returns-clause-rest : goal.returns-clause-rest
returns-clause-rest c =
    let l = c.self.inside in
    let inside = in_queues l.depth l.queues.items c.args.self.now c.args.lane c.self.view_is c.requires in
    let q = c.index_mut.result.now in
    let seen = row_seen l.depth l.queues.items l.outs l.out c.self.invariant c.args.lane inside q c.index_mut.ensures.value c.args.self.now c.self.view_is in
    shown l.depth l.queues.items l.outs l.out c.self.invariant c.args.lane inside q c.index_mut.ensures.value c.args.self.now c.self.view_is c.pop.new.self
    (drop 1 (jobs_in c.args.self.now c.args.lane))
    (ap (λ (new : SeenQueue). new.row) c.pop.ensures.rest ∙ ap (λ (row : List JobId). drop 1 row) seen)
