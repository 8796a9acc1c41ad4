use Rattle.std.proofs.Common.{◌≡◌, ◌∙◌, ◌≤◌, ℕ, false, ap, refl, subst, sym}
use Rattle.std.proofs.Common.{Option, is_some}
use Rattle.held_parts.specs.Held.{IsSamePool, SeenParts}
use Rattle.kept_jobs.specs.Tags.{SeenTags}
use Rattle.task_core.specs.Machine.{SeenTask}
use Rattle.move_laws.proofs.Telling.{HasHeard, counts_off, has_slot, may_free, tells_nobody, tells_one}
use Rattle.move_laws.proofs.Settled.{between}
use Rattle.move_laws.proofs.SteadyLemmas.{steady_moved, steady_same}
use Rattle.move_laws.proofs.KeptBytes.{bytes_heard, bytes_same}
use Rattle.move_laws.specs.Bytes.{KeepsBytes, no_part}
use Rattle.move_laws.specs.Freed.{AreWithJobs, keeps_part}
use Rattle.move_laws.specs.Kept.{SeenMoves, ended_count, with_parts, with_state, without_state}
use Rattle.move_core.proofs.move_core.MoveCore.cancel.Goals as goal

same_jobs : (task : ℕ) (t now : SeenTask) (parts here : SeenParts) → now ≡ t → here ≡ parts
    → (t.causes.failing ≡ false → AreWithJobs parts task t) → now.causes.failing ≡ false → AreWithJobs here task now
same_jobs task t now parts here a b are =
    subst (λ (x : SeenTask). x.causes.failing ≡ false → AreWithJobs here task x) (sym a)
    (subst (λ (p : SeenParts). t.causes.failing ≡ false → AreWithJobs p task t) (sym b) are)

pub has_state-requires : goal.has_state-requires
has_state-requires c =
    let told = c.requires.told in
    has_slot told.s told.events c.args.reason told.run c.args.task c.args.self.now told.heard c.requires.made

pub returns-then-not-has_state-clause-next : goal.returns-then-not-has_state-clause-next
returns-then-not-has_state-clause-next c s events run heard =
    tells_nobody s events c.args.reason run c.args.task c.args.self.now heard c.requires.made
    (sym c.has_state.ensures ∙ c.if-not-has_state.true)

pub cancel_task-requires : goal.cancel_task-requires
cancel_task-requires c =
    let told = c.requires.told in
    same_jobs c.args.task c.take_state-state.result.value c.deref_mut.result.now c.args.self.now.parts
    c.self.inside.parts c.deref_mut.ensures.value
    (ap (λ (x : SeenMoves). x.parts) (c.self.view_is ∙ c.take_state-state.ensures.rest))
    (may_free told.s told.events c.args.reason told.run c.args.task c.args.self.now told.heard c.requires.made
    c.take_state-state.result.value c.take_state-state.ensures.state)

pub put_state-requires-clause-counted : goal.put_state-requires-clause-counted
put_state-requires-clause-counted c =
    let told = c.requires.told in
    subst (λ (n : ℕ). ended_count c.cancel_task.new.state ≤ n)
    (sym (ap (λ (x : SeenMoves). x.unfinished) (c.self.view_is ∙ c.take_state-state.ensures.rest)))
    (counts_off told.s told.events c.args.reason told.run c.args.task c.args.self.now told.heard c.requires.made
    c.take_state-state.result.value c.take_state-state.ensures.state c.cancel_task.new.state)

pub returns-clause-next : goal.returns-clause-next
returns-clause-next c s events run heard =
    let was = c.self.view_is ∙ c.take_state-state.ensures.rest in
    let has : HasHeard c.args.task c.args.reason c.deref_mut.result.now c.self.inside.parts c.cancel_task.new.state
    c.cancel_task.new.parts = record {
      freed = c.cancel_task.ensures.freed;
      same = c.cancel_task.ensures.same;
      pool = c.cancel_task.ensures.pool;
      told = c.cancel_task.ensures.told;
    } in
    tells_one s events c.args.reason run c.args.task c.args.self.now heard c.requires.made
    c.take_state-state.result.value c.take_state-state.ensures.state c.take_state-state.ensures.sound
    c.cancel_task.new.state c.cancel_task.new.parts c.put_state.new.self
    (subst (λ (t : SeenTask). HasHeard c.args.task c.args.reason t c.args.self.now.parts c.cancel_task.new.state
    c.cancel_task.new.parts) c.deref_mut.ensures.value
    (subst (λ (p : SeenParts). HasHeard c.args.task c.args.reason c.deref_mut.result.now p c.cancel_task.new.state
    c.cancel_task.new.parts) (ap (λ (x : SeenMoves). x.parts) was) has))
    (c.put_state.ensures
    ∙ ap (λ (x : SeenMoves). with_state c.args.task c.cancel_task.new.state (with_parts c.cancel_task.new.parts x)) was)

pub returns-then-not-has_state-clause-bytes : goal.returns-then-not-has_state-clause-bytes
returns-then-not-has_state-clause-bytes c =
    bytes_same c.args.self.now.parts.slots c.args.self.now.parts.slots refl

pub returns-clause-bytes : goal.returns-clause-bytes
returns-clause-bytes c =
    subst (λ (x : SeenMoves). KeepsBytes no_part c.args.self.now.parts.slots x.parts.slots) (sym c.put_state.ensures)
    (subst (λ (p : SeenParts). KeepsBytes no_part p.slots c.cancel_task.new.parts.slots)
    (ap (λ (x : SeenMoves). x.parts) (c.self.view_is ∙ c.take_state-state.ensures.rest))
    (bytes_heard c.deref_mut.result.now.causes.failing c.args.task (keeps_part c.deref_mut.result.now)
    c.self.inside.parts c.cancel_task.new.parts c.cancel_task.ensures.freed c.cancel_task.ensures.same))

moved_by : (task : ℕ) (t t2 : SeenTask) (parts : SeenParts) (seen m mid new : SeenMoves) → seen ≡ mid
    → mid ≡ without_state task m → new ≡ with_state task t2 (with_parts parts seen)
    → new ≡ with_state task t2 (between task parts m.lanes m)
moved_by task t t2 parts seen m mid new view rest is =
    is ∙ ap (λ (x : SeenMoves). with_state task t2 (with_parts parts x)) (view ∙ rest)

pub returns-clause-steady : goal.returns-clause-steady
returns-clause-steady c =
    let m = c.args.self.now in
    let was = c.self.view_is ∙ c.take_state-state.ensures.rest in
    steady_moved c.args.task c.take_state-state.result.value c.cancel_task.new.state c.cancel_task.new.parts m.lanes m
    c.put_state.new.self c.take_state-state.ensures.state
    (ap (λ (x : Option SeenTags). is_some x) (c.cancel_task.ensures.tags
    ∙ ap (λ (x : SeenTask). x.tags) c.deref_mut.ensures.value))
    (subst (λ (p : SeenParts). IsSamePool p.pool c.cancel_task.new.parts.pool) (ap (λ (x : SeenMoves). x.parts) was)
    c.cancel_task.ensures.pool)
    (moved_by c.args.task c.take_state-state.result.value c.cancel_task.new.state c.cancel_task.new.parts _ m
    c.take_state-state.new.self c.put_state.new.self c.self.view_is c.take_state-state.ensures.rest c.put_state.ensures)

pub returns-then-not-has_state-clause-steady : goal.returns-then-not-has_state-clause-steady
returns-then-not-has_state-clause-steady c = steady_same c.args.self.now
