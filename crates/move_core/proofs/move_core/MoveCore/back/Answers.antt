use Rattle.std.proofs.Common.{◌≡◌, ◌∙◌, ◌≤◌, ◌&&◌, ◌||◌, ℕ, true, IfSome, Option, Some, None, sym, subst, ap, arith}
use Rattle.std.proofs.Common.{drop, is_some, not}
use Rattle.held_parts.specs.Held.{IsSamePool, held_at}
use Rattle.kept_jobs.specs.Tags.{SeenTags}
use Rattle.lane_queues.specs.Lanes.{jobs_in, with_jobs}
use Rattle.part_changes.specs.Changes.{comes_down}
use Rattle.s3_model.specs.declared.outcomes.JobId.{JobId}
use Rattle.task_acts.specs.Histories.{sent}
use Rattle.task_acts.specs.Stages.{is_out}
use Rattle.task_core.specs.Machine.{SeenTask, Stands}
use Rattle.task_stages.specs.Stages.{stage_by}
use Rattle.lane_givings.proofs.Kept.{had_none}
use Rattle.manager_moves.proofs.ShareLaws.{shares_are_histories}
use Rattle.manager_moves.specs.Laws.{IsOfTask}
use Rattle.manager_moves.specs.Runs.{share}
use Rattle.move_laws.proofs.JobsBack as returning
use Rattle.move_laws.proofs.KeptBytes.{bytes_freed_where, bytes_then}
use Rattle.move_laws.proofs.Open.{is_counted}
use Rattle.move_laws.proofs.Settled.{between}
use Rattle.move_laws.proofs.SteadyLemmas.{steady_moved}
use Rattle.move_laws.proofs.Steps.{at_most_one, moved_again, put_back, same_pools, taken_moved, unfinished_stay}
use Rattle.move_laws.specs.Bytes.{KeepsBytes, part_by}
use Rattle.move_laws.specs.Calls.{IsBrought}
use Rattle.move_laws.specs.Kept.{IsSound, SeenMoves, state_at, with_state, without_state}
use Rattle.move_core.proofs.move_core.MoveCore.back.Goals as goal

pub unreachable-requires : goal.unreachable-requires
unreachable-requires c =
    let a = c.requires.admitted in
    subst (λ (o : Option ℕ). IsOfTask a.s a.events o c.args.carried)
    (ap (λ (i : JobId). i.task) (sym c.id-id.ensures) ∙ c.in_default.is) a.run.run.0.1

pub pop-requires : goal.pop-requires
pop-requires c =
    let a = c.requires.admitted in
    returning.within a.s a.events c.args.lane c.args.carried c.in-Some.task c.args.self.now a.run a.follows
    (ap (λ (i : JobId). i.task) (sym c.id-id.ensures) ∙ c.in-Some.is)

pub take_state-state-requires : goal.take_state-state-requires
take_state-state-requires c =
    let a = c.requires.admitted in
    subst (λ (x : SeenMoves). is_some (state_at x c.in-Some.task) ≡ true) (sym c.pop.ensures)
    (ap (λ (o : Option SeenTask). is_some o)
    (returning.going a.s a.events c.args.lane c.args.carried c.in-Some.task c.args.self.now a.run a.follows
    (ap (λ (i : JobId). i.task) (sym c.id-id.ensures) ∙ c.in-Some.is)).slot)

pub came-part-requires-clause-out : goal.came-part-requires-clause-out
came-part-requires-clause-out c =
    let a = c.requires.admitted in
    subst (λ (t : SeenTask). is_out (stage_by t.stages (sent c.args.carried)) ≡ true) (sym c.deref_mut.ensures.value)
    (returning.is_out_in a.s a.events c.args.lane c.args.carried c.in-Some.task c.args.self.now a.run a.follows
    (ap (λ (i : JobId). i.task) (sym c.id-id.ensures) ∙ c.in-Some.is)
    c.take_state-state.result.value
    (ap (λ (x : SeenMoves). state_at x c.in-Some.task) (sym c.pop.ensures) ∙ c.take_state-state.ensures.state))

pub came-part-requires-clause-first : goal.came-part-requires-clause-first
came-part-requires-clause-first c has =
    let a = c.requires.admitted in
    let its = subst (λ (o : Option ℕ). IsOfTask a.s a.events o c.args.carried)
    (ap (λ (i : JobId). i.task) (sym c.id-id.ensures) ∙ c.in-Some.is) a.run.run.0.1 in
    had_none its.0 (share its.0 c.in-Some.task a.events) c.args.carried
    (shares_are_histories a.s a.events c.in-Some.task its.0 its.1 a.run.run.1) its.2 has

pub bring-requires-clause-away : goal.bring-requires-clause-away
bring-requires-clause-away c some =
    let a = c.requires.admitted in
    let t = c.take_state-state.result.value in
    let taken = c.take_state-state.new.self in
    let its = returning.w a.s a.events c.args.lane c.args.carried c.in-Some.task c.args.self.now a.run a.follows
    (ap (λ (i : JobId). i.task) (sym c.id-id.ensures) ∙ c.in-Some.is) in
    let heard = returning.heard a.s a.events c.args.lane c.args.carried c.in-Some.task c.args.self.now a.run a.follows
    (ap (λ (i : JobId). i.task) (sym c.id-id.ensures) ∙ c.in-Some.is) in
    let later = returning.later a.s a.events c.args.lane c.args.carried c.in-Some.task c.args.self.now a.run a.follows
    (ap (λ (i : JobId). i.task) (sym c.id-id.ensures) ∙ c.in-Some.is) in
    let slot : state_at c.args.self.now c.in-Some.task ≡ Some t =
    ap (λ (x : SeenMoves). state_at x c.in-Some.task) (sym c.pop.ensures) ∙ c.take_state-state.ensures.state in
    let stood : Stands its heard c.deref_mut.result.now =
    subst (λ (x : SeenTask). Stands its heard x) (sym c.deref_mut.ensures.value)
    (returning.stood a.s a.events c.args.lane c.args.carried c.in-Some.task c.args.self.now a.run a.follows
    (ap (λ (i : JobId). i.task) (sym c.id-id.ensures) ∙ c.in-Some.is) t slot) in
    let part_is = c.came-part.ensures.part its heard stood in
    let came : Stands its later c.came-part.new.self = c.came-part.ensures.stands its heard stood in
    subst (λ (k : ℕ). held_at c.take_state-state.new.self.parts.slots c.in-Some.task k ≡ Some None)
    (ap (λ (i : JobId). i.number) (sym c.id-id.ensures))
    (subst (λ (x : SeenMoves). held_at x.parts.slots c.in-Some.task c.args.carried.job.id.number ≡ Some None)
    (sym (c.take_state-state.ensures.rest ∙ ap (λ (x : SeenMoves). without_state c.in-Some.task x) c.pop.ensures))
    (returning.part_away a.s a.events c.args.lane c.args.carried c.in-Some.task c.args.self.now a.run a.follows
    (ap (λ (i : JobId). i.task) (sym c.id-id.ensures) ∙ c.in-Some.is) c.requires.room t c.came-part.new.self slot
    came
    c.came-part.result part_is some))

pub bring-requires-clause-room : goal.bring-requires-clause-room
bring-requires-clause-room c =
    let a = c.requires.admitted in
    let t = c.take_state-state.result.value in
    let taken = c.take_state-state.new.self in
    let its = returning.w a.s a.events c.args.lane c.args.carried c.in-Some.task c.args.self.now a.run a.follows
    (ap (λ (i : JobId). i.task) (sym c.id-id.ensures) ∙ c.in-Some.is) in
    let heard = returning.heard a.s a.events c.args.lane c.args.carried c.in-Some.task c.args.self.now a.run a.follows
    (ap (λ (i : JobId). i.task) (sym c.id-id.ensures) ∙ c.in-Some.is) in
    let later = returning.later a.s a.events c.args.lane c.args.carried c.in-Some.task c.args.self.now a.run a.follows
    (ap (λ (i : JobId). i.task) (sym c.id-id.ensures) ∙ c.in-Some.is) in
    let slot : state_at c.args.self.now c.in-Some.task ≡ Some t =
    ap (λ (x : SeenMoves). state_at x c.in-Some.task) (sym c.pop.ensures) ∙ c.take_state-state.ensures.state in
    let stood : Stands its heard c.deref_mut.result.now =
    subst (λ (x : SeenTask). Stands its heard x) (sym c.deref_mut.ensures.value)
    (returning.stood a.s a.events c.args.lane c.args.carried c.in-Some.task c.args.self.now a.run a.follows
    (ap (λ (i : JobId). i.task) (sym c.id-id.ensures) ∙ c.in-Some.is) t slot) in
    let part_is = c.came-part.ensures.part its heard stood in
    let came : Stands its later c.came-part.new.self = c.came-part.ensures.stands its heard stood in
    subst (λ (x : SeenMoves). IfSome c.came-part.result (λ part. x.parts.pool.room ≤ part.bytes.room))
    (sym (c.take_state-state.ensures.rest ∙ ap (λ (x : SeenMoves). without_state c.in-Some.task x) c.pop.ensures))
    (returning.part_fits a.s a.events c.args.lane c.args.carried c.in-Some.task c.args.self.now a.run a.follows
    (ap (λ (i : JobId). i.task) (sym c.id-id.ensures) ∙ c.in-Some.is) c.requires.room t c.came-part.new.self slot
    came
    c.came-part.result part_is)

pub free_where-requires : goal.free_where-requires
free_where-requires c e =
    let a = c.requires.admitted in
    let t = c.take_state-state.result.value in
    let taken = c.take_state-state.new.self in
    let its = returning.w a.s a.events c.args.lane c.args.carried c.in-Some.task c.args.self.now a.run a.follows
    (ap (λ (i : JobId). i.task) (sym c.id-id.ensures) ∙ c.in-Some.is) in
    let heard = returning.heard a.s a.events c.args.lane c.args.carried c.in-Some.task c.args.self.now a.run a.follows
    (ap (λ (i : JobId). i.task) (sym c.id-id.ensures) ∙ c.in-Some.is) in
    let later = returning.later a.s a.events c.args.lane c.args.carried c.in-Some.task c.args.self.now a.run a.follows
    (ap (λ (i : JobId). i.task) (sym c.id-id.ensures) ∙ c.in-Some.is) in
    let slot : state_at c.args.self.now c.in-Some.task ≡ Some t =
    ap (λ (x : SeenMoves). state_at x c.in-Some.task) (sym c.pop.ensures) ∙ c.take_state-state.ensures.state in
    let stood : Stands its heard c.deref_mut.result.now =
    subst (λ (x : SeenTask). Stands its heard x) (sym c.deref_mut.ensures.value)
    (returning.stood a.s a.events c.args.lane c.args.carried c.in-Some.task c.args.self.now a.run a.follows
    (ap (λ (i : JobId). i.task) (sym c.id-id.ensures) ∙ c.in-Some.is) t slot) in
    let part_is = c.came-part.ensures.part its heard stood in
    let came : Stands its later c.came-part.new.self = c.came-part.ensures.stands its heard stood in
    let m2 = c.take_state-state.ensures.rest ∙ ap (λ (x : SeenMoves). without_state c.in-Some.task x) c.pop.ensures in
    let stands : Stands its later c.deref_mut-2.result.now =
    subst (λ (x : SeenTask). Stands its later x) (sym c.deref_mut-2.ensures.value) came in
    let stopped_is : c.is_stopped-stopped.result ≡ (t.causes.failing || is_some c.args.self.now.reason) =
    c.is_stopped-stopped.ensures ∙ ap (λ (x : SeenTask). x.causes.failing || is_some taken.reason) c.deref.ensures
    ∙ ap (λ (x : SeenMoves). t.causes.failing || is_some x.reason) m2 in
    let stays_is : c.stays-stays.result
    ≡ (comes_down c.args.carried.job.id.op && not (c.deref_mut-2.result.now.causes.failing || is_some
    c.args.self.now.reason)) =
    c.stays-stays.ensures
    ∙ ap (λ (i : JobId). comes_down i.op && not (c.deref-2.result.now.causes.failing || is_some taken.reason))
    c.id-id.ensures
    ∙ ap (λ (x : SeenTask). comes_down c.args.carried.job.id.op && not (x.causes.failing || is_some taken.reason))
    (c.deref-2.ensures ∙ sym c.deref_mut-2.ensures.value)
    ∙ ap (λ (x : SeenMoves). comes_down c.args.carried.job.id.op
    && not (c.deref_mut-2.result.now.causes.failing || is_some x.reason)) m2 in
    let fails_is : c.fails-stops.result ≡ (not c.is_stopped-stopped.result && c.deref_mut-2.result.now.causes.failing) =
    c.fails-stops.ensures ∙ ap (λ (x : SeenTask). not c.is_stopped-stopped.result && x.causes.failing)
    (c.deref-3.ensures ∙ sym c.deref_mut-2.ensures.value) in
    let put = subst (λ (x : SeenMoves). IsBrought c.in-Some.task c.args.carried.job.id.number c.came-part.result
    c.stays-stays.result x.parts.slots c.bring.new.self.parts.slots) m2
    (subst (λ (i : JobId). IsBrought c.in-Some.task i.number c.came-part.result c.stays-stays.result taken.parts.slots
    c.bring.new.self.parts.slots) c.id-id.ensures c.bring.ensures.held) in
    let pool = subst (λ (x : SeenMoves). IsSamePool x.parts.pool c.bring.new.self.parts.pool) m2 c.bring.ensures.pool in
    returning.are_away a.s a.events c.args.lane c.args.carried c.in-Some.task c.args.self.now a.run a.follows
    (ap (λ (i : JobId). i.task) (sym c.id-id.ensures) ∙ c.in-Some.is) c.requires.room t c.deref_mut-2.result.now
    slot stands
    c.is_stopped-stopped.result c.fails-stops.result c.stays-stays.result stopped_is fails_is stays_is
    c.came-part.result
    part_is c.bring.new.self.parts put pool e

pub put_state-requires-clause-counted : goal.put_state-requires-clause-counted
put_state-requires-clause-counted c =
    let a = c.requires.admitted in
    let its = returning.w a.s a.events c.args.lane c.args.carried c.in-Some.task c.args.self.now a.run a.follows
    (ap (λ (i : JobId). i.task) (sym c.id-id.ensures) ∙ c.in-Some.is) in
    let going = returning.going a.s a.events c.args.lane c.args.carried c.in-Some.task c.args.self.now a.run a.follows
    (ap (λ (i : JobId). i.task) (sym c.id-id.ensures) ∙ c.in-Some.is) in
    let some = is_counted a.s a.events c.args.self.now c.in-Some.task its a.follows going in
    let most = at_most_one c.free_where.new.state in
    let moved = moved_again c.in-Some.task c.pop.new.self c.bring.new.self c.free_where.new.self
    (taken_moved c.in-Some.task c.pop.new.self c.take_state-state.new.self c.bring.new.self
    c.take_state-state.ensures.rest c.bring.ensures.rest) c.free_where.ensures.rest in
    let stay = unfinished_stay c.in-Some.task c.pop.new.self c.free_where.new.self moved in
    let same = ap (λ (x : SeenMoves). x.unfinished) c.pop.ensures in
    omega (arith, some, most, stay, same)

pub returns-clause-goes_on : goal.returns-clause-goes_on
returns-clause-goes_on c s events run follows =
    let t = c.take_state-state.result.value in
    let taken = c.take_state-state.new.self in
    let its = returning.w s events c.args.lane c.args.carried c.in-Some.task c.args.self.now run follows
    (ap (λ (i : JobId). i.task) (sym c.id-id.ensures) ∙ c.in-Some.is) in
    let heard = returning.heard s events c.args.lane c.args.carried c.in-Some.task c.args.self.now run follows
    (ap (λ (i : JobId). i.task) (sym c.id-id.ensures) ∙ c.in-Some.is) in
    let later = returning.later s events c.args.lane c.args.carried c.in-Some.task c.args.self.now run follows
    (ap (λ (i : JobId). i.task) (sym c.id-id.ensures) ∙ c.in-Some.is) in
    let slot : state_at c.args.self.now c.in-Some.task ≡ Some t =
    ap (λ (x : SeenMoves). state_at x c.in-Some.task) (sym c.pop.ensures) ∙ c.take_state-state.ensures.state in
    let stood : Stands its heard c.deref_mut.result.now =
    subst (λ (x : SeenTask). Stands its heard x) (sym c.deref_mut.ensures.value)
    (returning.stood s events c.args.lane c.args.carried c.in-Some.task c.args.self.now run follows
    (ap (λ (i : JobId). i.task) (sym c.id-id.ensures) ∙ c.in-Some.is) t slot) in
    let part_is = c.came-part.ensures.part its heard stood in
    let came : Stands its later c.came-part.new.self = c.came-part.ensures.stands its heard stood in
    let m2 = c.take_state-state.ensures.rest ∙ ap (λ (x : SeenMoves). without_state c.in-Some.task x) c.pop.ensures in
    let stands : Stands its later c.deref_mut-2.result.now =
    subst (λ (x : SeenTask). Stands its later x) (sym c.deref_mut-2.ensures.value) came in
    let stopped_is : c.is_stopped-stopped.result ≡ (t.causes.failing || is_some c.args.self.now.reason) =
    c.is_stopped-stopped.ensures ∙ ap (λ (x : SeenTask). x.causes.failing || is_some taken.reason) c.deref.ensures
    ∙ ap (λ (x : SeenMoves). t.causes.failing || is_some x.reason) m2 in
    let stays_is : c.stays-stays.result
    ≡ (comes_down c.args.carried.job.id.op && not (c.deref_mut-2.result.now.causes.failing || is_some
    c.args.self.now.reason)) =
    c.stays-stays.ensures
    ∙ ap (λ (i : JobId). comes_down i.op && not (c.deref-2.result.now.causes.failing || is_some taken.reason))
    c.id-id.ensures
    ∙ ap (λ (x : SeenTask). comes_down c.args.carried.job.id.op && not (x.causes.failing || is_some taken.reason))
    (c.deref-2.ensures ∙ sym c.deref_mut-2.ensures.value)
    ∙ ap (λ (x : SeenMoves). comes_down c.args.carried.job.id.op
    && not (c.deref_mut-2.result.now.causes.failing || is_some x.reason)) m2 in
    let fails_is : c.fails-stops.result ≡ (not c.is_stopped-stopped.result && c.deref_mut-2.result.now.causes.failing) =
    c.fails-stops.ensures ∙ ap (λ (x : SeenTask). not c.is_stopped-stopped.result && x.causes.failing)
    (c.deref-3.ensures ∙ sym c.deref_mut-2.ensures.value) in
    let put = subst (λ (x : SeenMoves). IsBrought c.in-Some.task c.args.carried.job.id.number c.came-part.result
    c.stays-stays.result x.parts.slots c.bring.new.self.parts.slots) m2
    (subst (λ (i : JobId). IsBrought c.in-Some.task i.number c.came-part.result c.stays-stays.result taken.parts.slots
    c.bring.new.self.parts.slots) c.id-id.ensures c.bring.ensures.held) in
    let pool = subst (λ (x : SeenMoves). IsSamePool x.parts.pool c.bring.new.self.parts.pool) m2 c.bring.ensures.pool in
    let moved = moved_again c.in-Some.task c.pop.new.self c.bring.new.self c.free_where.new.self
    (taken_moved c.in-Some.task c.pop.new.self c.take_state-state.new.self c.bring.new.self
    c.take_state-state.ensures.rest c.bring.ensures.rest) c.free_where.ensures.rest in
    returning.returned_follows s events c.args.lane c.args.carried c.in-Some.task c.args.self.now run follows
    (ap (λ (i : JobId). i.task) (sym c.id-id.ensures) ∙ c.in-Some.is) c.requires.room t c.deref_mut-2.result.now
    slot stands
    c.is_stopped-stopped.result c.fails-stops.result c.stays-stays.result stopped_is fails_is stays_is
    c.came-part.result
    part_is c.bring.new.self.parts put pool c.free_where.new.state c.free_where.new.self.parts c.put_state.new.self
    (subst (λ (x : SeenMoves). IsSound x.acts x.slots x.outcomes x.made) c.pop.ensures c.take_state-state.ensures.sound)
    c.free_where.ensures.freed c.free_where.ensures.pool c.free_where.ensures.known
    (put_back c.in-Some.task c.pop.new.self c.free_where.new.state c.free_where.new.self c.put_state.new.self moved
    c.put_state.ensures
    ∙ ap (λ (x : SeenMoves). with_state c.in-Some.task c.free_where.new.state
    (between c.in-Some.task c.free_where.new.self.parts x.lanes x)) c.pop.ensures)

pub returns-clause-bytes : goal.returns-clause-bytes
returns-clause-bytes c =
    let a = c.requires.admitted in
    let m = c.args.self.now in
    let t = c.take_state-state.result.value in
    let of_task = ap (λ (i : JobId). i.task) (sym c.id-id.ensures) ∙ c.in-Some.is in
    let its = returning.w a.s a.events c.args.lane c.args.carried c.in-Some.task m a.run a.follows of_task in
    let heard = returning.heard a.s a.events c.args.lane c.args.carried c.in-Some.task m a.run a.follows of_task in
    let stood : Stands its heard c.deref_mut.result.now =
    subst (λ (x : SeenTask). Stands its heard x) (sym c.deref_mut.ensures.value)
    (returning.stood a.s a.events c.args.lane c.args.carried c.in-Some.task m a.run a.follows of_task t
    (ap (λ (x : SeenMoves). state_at x c.in-Some.task) (sym c.pop.ensures) ∙ c.take_state-state.ensures.state)) in
    let m2 = c.take_state-state.ensures.rest ∙ ap (λ (x : SeenMoves). without_state c.in-Some.task x) c.pop.ensures in
    let put = subst (λ (x : SeenMoves). IsBrought c.in-Some.task c.args.carried.job.id.number c.came-part.result
    c.stays-stays.result x.parts.slots c.bring.new.self.parts.slots) m2
    (subst (λ (i : JobId). IsBrought c.in-Some.task i.number c.came-part.result c.stays-stays.result
    c.take_state-state.new.self.parts.slots c.bring.new.self.parts.slots) c.id-id.ensures c.bring.ensures.held) in
    subst (λ (x : SeenMoves). KeepsBytes (part_by c.args.carried) m.parts.slots x.parts.slots) (sym c.put_state.ensures)
    (bytes_then (part_by c.args.carried) m.parts.slots c.bring.new.self.parts.slots
    c.free_where.new.self.parts.slots
    (returning.brings_bytes a.s a.events c.args.lane c.args.carried c.in-Some.task m a.run a.follows of_task
    c.came-part.result (c.came-part.ensures.part its heard stood) c.stays-stays.result c.bring.new.self.parts.slots put)
    (bytes_freed_where c.fails-stops.result c.in-Some.task c.deref_mut-2.result.now c.bring.new.self.parts.slots
    c.free_where.new.self.parts.slots c.free_where.ensures.freed))

pub returns-clause-steady : goal.returns-clause-steady
returns-clause-steady c =
    let m = c.args.self.now in
    let m2 = c.take_state-state.ensures.rest ∙ ap (λ (x : SeenMoves). without_state c.in-Some.task x) c.pop.ensures in
    let moved = moved_again c.in-Some.task c.pop.new.self c.bring.new.self c.free_where.new.self
    (taken_moved c.in-Some.task c.pop.new.self c.take_state-state.new.self c.bring.new.self
    c.take_state-state.ensures.rest c.bring.ensures.rest) c.free_where.ensures.rest in
    let slot : state_at m c.in-Some.task ≡ Some c.take_state-state.result.value =
    ap (λ (x : SeenMoves). state_at x c.in-Some.task) (sym c.pop.ensures) ∙ c.take_state-state.ensures.state in
    let pool = subst (λ (x : SeenMoves). IsSamePool x.parts.pool c.bring.new.self.parts.pool) m2 c.bring.ensures.pool in
    let tags = ap (λ (x : Option SeenTags). is_some x) (c.free_where.ensures.tags
    ∙ ap (λ (x : SeenTask). x.tags) c.deref_mut-2.ensures.value)
    ∙ c.came-part.ensures.tags
    ∙ ap (λ (x : SeenTask). is_some x.tags) c.deref_mut.ensures.value in
    steady_moved c.in-Some.task c.take_state-state.result.value c.free_where.new.state c.free_where.new.self.parts
    (with_jobs m.lanes c.args.lane (drop 1 (jobs_in m.lanes c.args.lane))) m c.put_state.new.self slot tags
    (same_pools m.parts.pool c.bring.new.self.parts.pool c.free_where.new.self.parts.pool pool
    c.free_where.ensures.pool)
    (put_back c.in-Some.task c.pop.new.self c.free_where.new.state c.free_where.new.self c.put_state.new.self moved
    c.put_state.ensures
    ∙ ap (λ (x : SeenMoves). with_state c.in-Some.task c.free_where.new.state
    (between c.in-Some.task c.free_where.new.self.parts x.lanes x)) c.pop.ensures)
