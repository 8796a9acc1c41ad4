use Rattle.std.proofs.Common.{◌∙◌, ◌&&◌, ◌||◌, Option, sym, subst, ap, arith, is_some, not}
use Rattle.held_parts.specs.Held.{IsSamePool}
use Rattle.kept_jobs.specs.Tags.{SeenTags}
use Rattle.task_core.specs.Machine.{SeenTask, Stands}
use Rattle.move_laws.proofs.FileCalls as calls
use Rattle.move_laws.proofs.KeptBytes.{bytes_freed_where, bytes_placed, bytes_then}
use Rattle.move_laws.proofs.Open.{is_counted}
use Rattle.move_laws.proofs.SteadyLemmas.{steady_moved}
use Rattle.move_laws.proofs.Steps.{at_most_one, moved_again, put_back, same_pools, taken_moved, unfinished_stay}
use Rattle.move_laws.specs.Bytes.{KeepsBytes, no_part}
use Rattle.move_laws.specs.Calls.{HasPlaced, IsPlaced}
use Rattle.move_laws.specs.Kept.{SeenMoves}
use Rattle.move_core.proofs.move_core.MoveCore.called.Goals as goal

pub take_state-state-requires : goal.take_state-state-requires
take_state-state-requires c =
    let a = c.requires.2 in
    ap (λ (o : Option SeenTask). is_some o)
    (calls.slot_is a.s a.events c.args.task c.args.act c.args.came c.requires.0 c.args.self.now c.requires.1 a.run
    a.follows)

pub call-requires : goal.call-requires
call-requires c =
    let a = c.requires.2 in
    calls.ready_now a.s a.events c.args.task c.args.act c.args.came c.requires.0 c.args.self.now c.requires.1 a.run
    a.follows
    c.take_state-state.result.value c.deref_mut.result.now c.take_state-state.ensures.state c.deref_mut.ensures.value

pub free_placed-requires : goal.free_placed-requires
free_placed-requires c =
    let a = c.requires.2 in
    subst (λ (x : SeenMoves). HasPlaced c.args.task c.args.act x.parts.slots) (sym c.take_state-state.ensures.rest)
    (calls.has_placed a.s a.events c.args.task c.args.act c.args.came c.requires.0 c.args.self.now c.requires.1 a.run
    a.follows)

pub free_where-requires : goal.free_where-requires
free_where-requires c e =
    let a = c.requires.2 in
    let t = c.take_state-state.result.value in
    let taken = c.take_state-state.new.self in
    let its = calls.w a.s a.events c.args.task c.args.act c.args.came c.requires.0 c.args.self.now c.requires.1 a.run
    a.follows in
    let heard = calls.heard a.s a.events c.args.task c.args.act c.args.came c.requires.0 c.args.self.now c.requires.1
    a.run a.follows in
    let later = calls.later a.s a.events c.args.task c.args.act c.args.came c.requires.0 c.args.self.now c.requires.1
    a.run a.follows in
    let stood : Stands its heard c.deref_mut.result.now =
    subst (λ (x : SeenTask). Stands its heard x) (sym c.deref_mut.ensures.value)
    (calls.stood a.s a.events c.args.task c.args.act c.args.came c.requires.0 c.args.self.now c.requires.1 a.run
    a.follows t
    c.take_state-state.ensures.state) in
    let stands : Stands its later c.deref_mut-2.result.now =
    subst (λ (x : SeenTask). Stands its later x) (sym c.deref_mut-2.ensures.value)
    (c.call.ensures.stands its heard stood) in
    calls.are_away a.s a.events c.args.task c.args.act c.args.came c.requires.0 c.args.self.now c.requires.1 a.run
    a.follows t
    c.deref_mut-2.result.now c.take_state-state.ensures.state stands c.is_stopped-stopped.result c.fails-stops.result
    (c.is_stopped-stopped.ensures
    ∙ ap (λ (x : SeenTask). x.causes.failing || is_some taken.reason) c.deref.ensures
    ∙ ap (λ (x : SeenMoves). t.causes.failing || is_some x.reason) c.take_state-state.ensures.rest)
    (c.fails-stops.ensures ∙ ap (λ (x : SeenTask). not c.is_stopped-stopped.result && x.causes.failing)
    (c.deref-2.ensures ∙ sym c.deref_mut-2.ensures.value))
    c.free_placed.new.self.parts
    (subst (λ (x : SeenMoves). IsPlaced c.args.task c.args.act x.parts.slots c.free_placed.new.self.parts.slots)
    c.take_state-state.ensures.rest c.free_placed.ensures.held)
    (subst (λ (x : SeenMoves). IsSamePool x.parts.pool c.free_placed.new.self.parts.pool)
    c.take_state-state.ensures.rest
    c.free_placed.ensures.pool) e

pub put_state-requires-clause-counted : goal.put_state-requires-clause-counted
put_state-requires-clause-counted c =
    let a = c.requires.2 in
    let its = calls.w a.s a.events c.args.task c.args.act c.args.came c.requires.0 c.args.self.now c.requires.1 a.run
    a.follows in
    let going = calls.going a.s a.events c.args.task c.args.act c.args.came c.requires.0 c.args.self.now c.requires.1
    a.run
    a.follows in
    let some = is_counted a.s a.events c.requires.0 c.args.task its a.follows going in
    let most = at_most_one c.free_where.new.state in
    let moved = moved_again c.args.task c.args.self.now c.free_placed.new.self c.free_where.new.self
    (taken_moved c.args.task c.args.self.now c.take_state-state.new.self c.free_placed.new.self
    c.take_state-state.ensures.rest c.free_placed.ensures.rest) c.free_where.ensures.rest in
    let stay = unfinished_stay c.args.task c.args.self.now c.free_where.new.self moved in
    let same = ap (λ (x : SeenMoves). x.unfinished) (calls.begun_rest c.args.task c.args.act c.requires.0
    c.args.self.now
    c.requires.1) in
    omega (arith, some, most, stay, same)

pub returns-clause-goes_on : goal.returns-clause-goes_on
returns-clause-goes_on c m begun s events run follows =
    let now = c.args.self.now in
    let t = c.take_state-state.result.value in
    let taken = c.take_state-state.new.self in
    let its = calls.w s events c.args.task c.args.act c.args.came m now begun run follows in
    let heard = calls.heard s events c.args.task c.args.act c.args.came m now begun run follows in
    let later = calls.later s events c.args.task c.args.act c.args.came m now begun run follows in
    let stood : Stands its heard c.deref_mut.result.now =
    subst (λ (x : SeenTask). Stands its heard x) (sym c.deref_mut.ensures.value)
    (calls.stood s events c.args.task c.args.act c.args.came m now begun run follows t
    c.take_state-state.ensures.state) in
    let stands : Stands its later c.deref_mut-2.result.now =
    subst (λ (x : SeenTask). Stands its later x) (sym c.deref_mut-2.ensures.value)
    (c.call.ensures.stands its heard stood) in
    let moved = moved_again c.args.task now c.free_placed.new.self c.free_where.new.self
    (taken_moved c.args.task now taken c.free_placed.new.self c.take_state-state.ensures.rest
    c.free_placed.ensures.rest)
    c.free_where.ensures.rest in
    calls.returned_follows s events c.args.task c.args.act c.args.came m now begun run follows t
    c.deref_mut-2.result.now c.take_state-state.ensures.state stands c.is_stopped-stopped.result c.fails-stops.result
    (c.is_stopped-stopped.ensures
    ∙ ap (λ (x : SeenTask). x.causes.failing || is_some taken.reason) c.deref.ensures
    ∙ ap (λ (x : SeenMoves). t.causes.failing || is_some x.reason) c.take_state-state.ensures.rest)
    (c.fails-stops.ensures ∙ ap (λ (x : SeenTask). not c.is_stopped-stopped.result && x.causes.failing)
    (c.deref-2.ensures ∙ sym c.deref_mut-2.ensures.value))
    c.free_placed.new.self.parts
    (subst (λ (x : SeenMoves). IsPlaced c.args.task c.args.act x.parts.slots c.free_placed.new.self.parts.slots)
    c.take_state-state.ensures.rest c.free_placed.ensures.held)
    (subst (λ (x : SeenMoves). IsSamePool x.parts.pool c.free_placed.new.self.parts.pool)
    c.take_state-state.ensures.rest
    c.free_placed.ensures.pool)
    c.free_where.new.state c.free_where.new.self.parts c.put_state.new.self c.take_state-state.ensures.sound
    c.free_where.ensures.freed c.free_where.ensures.pool c.free_where.ensures.known
    (put_back c.args.task now c.free_where.new.state c.free_where.new.self c.put_state.new.self moved
    c.put_state.ensures)

pub returns-clause-bytes : goal.returns-clause-bytes
returns-clause-bytes c =
    let slots = c.args.self.now.parts.slots in
    let placed = c.free_placed.new.self.parts.slots in
    subst (λ (x : SeenMoves). KeepsBytes no_part slots x.parts.slots) (sym c.put_state.ensures)
    (bytes_then no_part slots placed c.free_where.new.self.parts.slots
    (bytes_placed c.args.task c.args.act slots placed
    (subst (λ (x : SeenMoves). IsPlaced c.args.task c.args.act x.parts.slots placed) c.take_state-state.ensures.rest
    c.free_placed.ensures.held))
    (bytes_freed_where c.fails-stops.result c.args.task c.deref_mut-2.result.now placed
    c.free_where.new.self.parts.slots c.free_where.ensures.freed))

pub returns-clause-steady : goal.returns-clause-steady
returns-clause-steady c =
    let now = c.args.self.now in
    let moved = moved_again c.args.task now c.free_placed.new.self c.free_where.new.self
    (taken_moved c.args.task now c.take_state-state.new.self c.free_placed.new.self c.take_state-state.ensures.rest
    c.free_placed.ensures.rest) c.free_where.ensures.rest in
    let pool = subst (λ (x : SeenMoves). IsSamePool x.parts.pool c.free_placed.new.self.parts.pool)
    c.take_state-state.ensures.rest c.free_placed.ensures.pool in
    let tags = c.free_where.ensures.tags ∙ ap (λ (x : SeenTask). x.tags) c.deref_mut-2.ensures.value
    ∙ c.call.ensures.tags ∙ ap (λ (x : SeenTask). x.tags) c.deref_mut.ensures.value in
    steady_moved c.args.task c.take_state-state.result.value c.free_where.new.state
    c.free_where.new.self.parts now.lanes
    now c.put_state.new.self c.take_state-state.ensures.state (ap (λ (x : Option SeenTags). is_some x) tags)
    (same_pools now.parts.pool c.free_placed.new.self.parts.pool c.free_where.new.self.parts.pool pool
    c.free_where.ensures.pool)
    (put_back c.args.task now c.free_where.new.state c.free_where.new.self c.put_state.new.self moved
    c.put_state.ensures)
