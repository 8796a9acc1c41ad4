use Rattle.std.proofs.Common.{◌∙◌, ◌+◌, ◌<◌, ◌++◌, ◌∷◌, [], ℕ, List, length, ap, arith, subst, sym}
use Rattle.s3_model.specs.declared.outcomes.JobId.{JobId}
use Rattle.lane_queues.specs.Lanes.{SeenQueue, jobs_in}
use Rattle.lane_queues.proofs.LaneLemmas.{few_out, in_queues, pushes, room_left, row_seen, count_read, shown}
use Rattle.lane_queues.proofs.lane_queues.LaneQueues.push.Goals as goal

pub overflow_add-more : goal.overflow_add-more
overflow_add-more c =
    let l = c.self.inside in
    let inside = in_queues l.depth l.queues.items c.args.self.now c.args.lane c.self.view_is c.requires.lane in
    let q = c.index_mut.result.now in
    let room = room_left l.depth l.queues.items c.args.self.now c.args.lane c.self.view_is c.requires.room in
    let count = count_read l.depth l.queues.items l.outs l.out c.self.invariant c.args.lane inside q c.index_mut.ensures.value in
    let seen = row_seen l.depth l.queues.items l.outs l.out c.self.invariant c.args.lane inside q c.index_mut.ensures.value c.args.self.now c.self.view_is in
    let short = subst (λ (row : List JobId). length row < l.depth) (sym seen) room in
    let shallow = c.self.invariant.shallow in
    omega (arith, c.get-more.ensures)

pub overflow_add-self : goal.overflow_add-self
overflow_add-self c =
    let l = c.self.inside in
    let inside = in_queues l.depth l.queues.items c.args.self.now c.args.lane c.self.view_is c.requires.lane in
    let few = few_out l.depth l.queues.items l.outs l.out c.self.invariant c.args.lane inside in
    omega arith

pub invariant_of-self : goal.invariant_of-self
invariant_of-self c =
    let l = c.self.inside in
    let inside = in_queues l.depth l.queues.items c.args.self.now c.args.lane c.self.view_is c.requires.lane in
    let q = c.index_mut.result.now in
    let room = room_left l.depth l.queues.items c.args.self.now c.args.lane c.self.view_is c.requires.room in
    let seen = row_seen l.depth l.queues.items l.outs l.out c.self.invariant c.args.lane inside q c.index_mut.ensures.value c.args.self.now c.self.view_is in
    let short = subst (λ (row : List JobId). length row < l.depth) (sym seen) room in
    pushes l.depth l.queues.items l.outs l.out c.self.invariant c.args.lane inside q c.index_mut.ensures.value c.args.job c.push.new.self c.set.new.self
    (c.get-more.result + 1) short c.push.ensures c.set.ensures (ap (λ (n : ℕ). n + 1) c.get-more.ensures)

pub returns : goal.returns
returns c =
    let l = c.self.inside in
    let inside = in_queues l.depth l.queues.items c.args.self.now c.args.lane c.self.view_is c.requires.lane in
    let q = c.index_mut.result.now in
    let seen = row_seen l.depth l.queues.items l.outs l.out c.self.invariant c.args.lane inside q c.index_mut.ensures.value c.args.self.now c.self.view_is in
    shown l.depth l.queues.items l.outs l.out c.self.invariant c.args.lane inside q c.index_mut.ensures.value c.args.self.now c.self.view_is c.push.new.self
    (jobs_in c.args.self.now c.args.lane ++ c.args.job ∷ [])
    (ap (λ (new : SeenQueue). new.row) c.push.ensures ∙ ap (λ (row : List JobId). row ++ c.args.job ∷ []) seen)
