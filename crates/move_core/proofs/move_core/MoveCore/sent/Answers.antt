use Rattle.std.proofs.lemmas.Grind.{common_steps}
use Rattle.std.proofs.Common.{◌≡◌, ◌∙◌, ◌++◌, ◌∷◌, ◌<◌, [], Option, Some, None, sym, subst, ap, arith, is_some, length}
use Rattle.held_parts.specs.Held.{IsSamePool}
use Rattle.kept_jobs.specs.Slots.{job_at}
use Rattle.kept_jobs.specs.Tags.{SeenTags}
use Rattle.lane_queues.specs.Lanes.{jobs_in, out_in, with_jobs}
use Rattle.part_tables.specs.Finding.{FindsPart}
use Rattle.part_tables.specs.Tables.{IsPutWhere}
use Rattle.job_terms.specs.Buffers.{holds_buffer}
use Rattle.job_terms.specs.Jobs.{job_of}
use Rattle.task_acts.specs.declared.acts.Act.TheVariants as act
use Rattle.task_core.specs.Machine.{SeenTask, Stands, ready_by}
use Rattle.move_laws.proofs.KeptBytes.{bytes_away}
use Rattle.move_laws.proofs.Open.{is_counted}
use Rattle.move_laws.proofs.SentJobs as sending
use Rattle.move_core.proofs.GivenParts.{takes_its_part}
use Rattle.move_laws.proofs.SteadyLemmas.{steady_moved}
use Rattle.move_laws.proofs.Steps.{at_most_one, pushed, taken_moved, unfinished_stay}
use Rattle.move_laws.specs.Bytes.{KeepsBytes, no_part}
use Rattle.move_laws.specs.Kept.{SeenMoves, with_state}
use Rattle.move_core.proofs.move_core.MoveCore.sent.Goals as goal

pub take_state-state-requires : goal.take_state-state-requires
take_state-state-requires c =
    let a = c.requires in
    ap (λ (o : Option SeenTask). is_some o)
    (sending.going a.s a.events c.args.task c.args.op c.args.number c.args.lane c.args.self.now a.run a.follows).slot

pub take_along-given-requires : goal.take_along-given-requires
take_along-given-requires c takes =
    let a = c.requires in
    subst (λ (x : SeenMoves). FindsPart (is_some (job_at c.deref_mut.result.now.kept c.args.op c.args.number))
    x.parts.pool.count x.parts.slots c.args.task c.args.number) (sym c.take_state-state.ensures.rest)
    (sending.finds_part a.s a.events c.args.task c.args.op c.args.number c.args.lane c.args.self.now a.run a.follows
    c.take_state-state.result.value c.deref_mut.result.now c.take_state-state.ensures.state c.deref_mut.ensures.value
    c.has_free-free.ensures.single takes)

pub gave-requires : goal.gave-requires
gave-requires c =
    let a = c.requires in
    let its = sending.w a.s a.events c.args.task c.args.op c.args.number c.args.lane c.args.self.now a.run a.follows in
    let heard = sending.heard a.s a.events c.args.task c.args.op c.args.number c.args.lane c.args.self.now a.run
    a.follows in
    subst (λ (t : SeenTask). ready_by t ≡ Some (act.Send c.args.op c.args.number)) (sym c.deref_mut-2.ensures.value)
    (sending.ready_is a.s a.events c.args.task c.args.op c.args.number c.args.lane c.args.self.now a.run a.follows
    c.take_along-given.new.state
    (c.take_along-given.ensures.state its heard
    (sending.first_stood a.s a.events c.args.task c.args.op c.args.number c.args.lane c.args.self.now a.run a.follows
    c.take_state-state.result.value c.deref_mut.result.now c.take_state-state.ensures.state
    c.deref_mut.ensures.value)))

pub push-requires-clause-lane : goal.push-requires-clause-lane
push-requires-clause-lane c =
    let a = c.requires in
    subst (λ (x : SeenMoves). c.args.lane < length x.lanes.jobs)
    (sym (taken_moved c.args.task c.args.self.now c.take_state-state.new.self c.take_along-given.new.self
    c.take_state-state.ensures.rest c.take_along-given.ensures.rest))
    (sending.within a.s a.events c.args.task c.args.op c.args.number c.args.lane c.args.self.now a.run a.follows)

pub push-requires-clause-room : goal.push-requires-clause-room
push-requires-clause-room c =
    let a = c.requires in
    subst (λ (x : SeenMoves). out_in x.lanes c.args.lane < x.lanes.depth)
    (sym (taken_moved c.args.task c.args.self.now c.take_state-state.new.self c.take_along-given.new.self
    c.take_state-state.ensures.rest c.take_along-given.ensures.rest))
    (sending.room a.s a.events c.args.task c.args.op c.args.number c.args.lane c.args.self.now a.run a.follows)

pub put_state-requires-clause-counted : goal.put_state-requires-clause-counted
put_state-requires-clause-counted c =
    let a = c.requires in
    let its = sending.w a.s a.events c.args.task c.args.op c.args.number c.args.lane c.args.self.now a.run a.follows in
    let going = sending.going a.s a.events c.args.task c.args.op c.args.number c.args.lane c.args.self.now a.run
    a.follows in
    let some = is_counted a.s a.events c.args.self.now c.args.task its a.follows going in
    let most = at_most_one c.gave.new.self in
    let moved = taken_moved c.args.task c.args.self.now c.take_state-state.new.self c.take_along-given.new.self
    c.take_state-state.ensures.rest c.take_along-given.ensures.rest in
    let stay = unfinished_stay c.args.task c.args.self.now c.take_along-given.new.self moved in
    let same = ap (λ (x : SeenMoves). x.unfinished) c.push.ensures in
    omega (arith, some, most, stay, same)

pub returns-clause-follows : goal.returns-clause-follows
returns-clause-follows c s events run follows =
    let m = c.args.self.now in
    let its = sending.w s events c.args.task c.args.op c.args.number c.args.lane m run follows in
    let heard = sending.heard s events c.args.task c.args.op c.args.number c.args.lane m run follows in
    let taken = sending.taken s events c.args.task c.args.op c.args.number c.args.lane m run follows in
    let parts = c.take_along-given.new.self.parts in
    let moved = taken_moved c.args.task m c.take_state-state.new.self c.take_along-given.new.self
    c.take_state-state.ensures.rest c.take_along-given.ensures.rest in
    let stands : Stands its taken c.deref_mut-2.result.now =
    subst (λ (t : SeenTask). Stands its taken t) (sym c.deref_mut-2.ensures.value)
    (c.take_along-given.ensures.state its heard
    (sending.first_stood s events c.args.task c.args.op c.args.number c.args.lane m run follows
    c.take_state-state.result.value c.deref_mut.result.now c.take_state-state.ensures.state
    c.deref_mut.ensures.value)) in
    sending.sent_follows s events c.args.task c.args.op c.args.number c.args.lane m run follows c.gave.new.self parts
    c.put_state.new.self c.take_state-state.ensures.sound (c.gave.ensures.stands its taken stands)
    (subst (λ (x : SeenMoves). IsSamePool x.parts.pool parts.pool) c.take_state-state.ensures.rest
    c.take_along-given.ensures.pool)
    (subst (λ (x : SeenMoves). IsPutWhere (holds_buffer c.args.op) c.args.task c.args.number (Some None) x.parts.slots
    parts.slots) c.take_state-state.ensures.rest c.take_along-given.ensures.held)
    (pushed c.args.task m c.args.lane (job_of c.args.task c.args.op c.args.number) c.gave.new.self
    c.take_along-given.new.self c.push.new.self c.put_state.new.self moved c.push.ensures c.put_state.ensures)

pub returns-clause-known : goal.returns-clause-known
returns-clause-known c s events w run follows there =
    c.take_along-given.ensures.again
    ∙ sending.again_is s events c.args.task c.args.op c.args.number c.args.lane c.args.self.now run follows
    c.take_state-state.result.value c.deref_mut.result.now c.take_state-state.ensures.state c.deref_mut.ensures.value w
    there

pub returns-clause-taken : goal.returns-clause-taken
returns-clause-taken c =
    let a = c.requires in
    takes_its_part c.args.self.now.parts.pool.room c.args.op c.take_along-given.result
    (job_at c.deref_mut.result.now.kept c.args.op c.args.number)
    c.take_along-given.ensures.again
    (sending.kept_part a.s a.events c.args.task c.args.op c.args.number c.args.lane c.args.self.now a.run a.follows
    c.take_state-state.result.value c.deref_mut.result.now c.take_state-state.ensures.state c.deref_mut.ensures.value)
    (λ none. (c.take_along-given.ensures.part none).0)

pub returns-clause-bytes : goal.returns-clause-bytes
returns-clause-bytes c =
    let slots = c.args.self.now.parts.slots in
    let after = c.take_along-given.new.self.parts.slots in
    subst (λ (x : SeenMoves). KeepsBytes no_part slots x.parts.slots)
    (sym (c.put_state.ensures ∙ ap (λ (x : SeenMoves). with_state c.args.task c.gave.new.self x) c.push.ensures))
    (bytes_away (holds_buffer c.args.op) c.args.task c.args.number slots after
    (subst (λ (x : SeenMoves). IsPutWhere (holds_buffer c.args.op) c.args.task c.args.number (Some None) x.parts.slots
    after) c.take_state-state.ensures.rest c.take_along-given.ensures.held))

pub returns-clause-steady : goal.returns-clause-steady
returns-clause-steady c =
    let m = c.args.self.now in
    let parts = c.take_along-given.new.self.parts in
    let moved = taken_moved c.args.task m c.take_state-state.new.self c.take_along-given.new.self
    c.take_state-state.ensures.rest c.take_along-given.ensures.rest in
    let tags = c.gave.ensures.tags ∙ ap (λ (x : SeenTask). x.tags) c.deref_mut-2.ensures.value
    ∙ c.take_along-given.ensures.tags ∙ ap (λ (x : SeenTask). x.tags) c.deref_mut.ensures.value in
    steady_moved c.args.task c.take_state-state.result.value c.gave.new.self parts
    (with_jobs m.lanes c.args.lane (jobs_in m.lanes c.args.lane ++ job_of c.args.task c.args.op c.args.number ∷ [])) m
    c.put_state.new.self c.take_state-state.ensures.state (ap (λ (x : Option SeenTags). is_some x) tags)
    (subst (λ (x : SeenMoves). IsSamePool x.parts.pool parts.pool) c.take_state-state.ensures.rest
    c.take_along-given.ensures.pool)
    (pushed c.args.task m c.args.lane (job_of c.args.task c.args.op c.args.number) c.gave.new.self
    c.take_along-given.new.self c.push.new.self c.put_state.new.self moved c.push.ensures c.put_state.ensures)

pub put_state-requires-clause-there : goal.put_state-requires-clause-there
put_state-requires-clause-there c = grind (arith, common_steps)
