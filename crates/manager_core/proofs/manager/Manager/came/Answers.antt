use Rattle.std.proofs.Common.{◌≡◌, ◌∙◌, ◌≤◌, ◌<◌, ◌++◌, [], ◌∷◌, ℕ, List, length, refl, sym, subst, ap, IfSome}
use Rattle.jobs.specs.Endings.{SeenCarried}
use Rattle.manager_moves.proofs.PartLaws.{same_value}
use Rattle.manager_moves.specs.Runs.{Back}
use Rattle.move_laws.specs.Follows.{Follows}
use Rattle.move_laws.specs.Steady.{IsSteady}
use Rattle.run_steps.specs.Steps.{settled_steps}
use Rattle.s3_model.specs.declared.tries.Mark.{Mark}
use Rattle.s3_model.specs.declared.bytes.Part.{Part}
use Rattle.s3_model.specs.declared.outcomes.Event.TheVariants as entry
use Rattle.s3_model.specs.declared.outcomes.JobId.{JobId}
use Rattle.manager_core.proofs.HappenedRuns.{back_run, back_runs, back_task, free_at, place_within}
use Rattle.manager_core.proofs.RunLemmas.{has_room, with}
use Rattle.manager_core.specs.declared.due.Due.{Due}
use Rattle.manager_core.specs.declared.due.Due.TheVariants as due
use Rattle.manager_core.specs.Kept.{SeenManager}
use Rattle.manager_core.specs.Running.{IsRunning}
use Rattle.manager_core.proofs.CellLemmas.{cells_settle}
use Rattle.step_jobs.specs.Shares.{SeenSteps}
use Rattle.std.proofs.Common.{Option}
use Rattle.manager_core.proofs.HeldBytes.{bytes_since}
use Rattle.move_laws.specs.Bytes.{KeepsBytes, part_by}
use Rattle.manager_core.proofs.manager.Manager.came.Goals as goal

pub push-requires : goal.push-requires
push-requires c =
    let r = c.requires.may in
    let m = c.drop_move.new.self in
    let running = c.drop_move.ensures.running r.start r.s r.events r.running in
    subst (λ (x : SeenManager). 1 ≤ x.journal.spare) (sym c.self.view_is)
    (has_room r.start r.s r.events m running
    (entry.Came c.args.carried.job.id c.args.lane c.args.carried.tries) (Back c.args.lane c.args.carried) refl
    (back_run r.start r.s r.events m running c.drop_move.ensures.free c.args.lane c.args.carried r.may))

pub back-requires-clause-admitted : goal.back-requires-clause-admitted
back-requires-clause-admitted c =
    let r = c.requires.may in
    let m = c.drop_move.new.self in
    let running = c.drop_move.ensures.running r.start r.s r.events r.running in
    let free = c.drop_move.ensures.free in
    record {
      s = r.s;
      events = r.events;
      run = back_run r.start r.s r.events m running free c.args.lane c.args.carried r.may;
      follows = subst (λ (x : SeenManager). Follows r.s r.events x.moves) (sym c.self.view_is)
          (free_at r.start r.s r.events m running free).follows;
    }

pub back-requires-clause-room : goal.back-requires-clause-room
back-requires-clause-room c =
    subst (λ (k : ℕ). IfSome c.args.carried.job.part (λ (part : Part). k ≤ part.bytes.room))
    (sym c.drop_move.ensures.steady.room ∙ ap (λ (x : SeenManager). x.moves.parts.pool.room) (sym c.self.view_is))
    c.requires.room

pub settle-requires : goal.settle-requires
settle-requires c =
    let r = c.requires.may in
    let m = c.drop_move.new.self in
    let running = c.drop_move.ensures.running r.start r.s r.events r.running in
    let free = c.drop_move.ensures.free in
    let its = back_task r.start r.s r.events m running free c.args.lane c.args.carried r.may in
    let same : its.0 ≡ c.in-Some.task =
    same_value (sym its.1 ∙ ap (λ (j : JobId). j.task) (sym c.id-job.ensures) ∙ c.in-Some.is) in
    subst (λ (t : ℕ). t < length c.self.inside.steps.items) same
    (subst (λ (x : SeenManager). its.0 < length x.steps) (sym c.self.view_is)
    (place_within r.start r.s r.events m running its.0 its.2 its.3
    (free_at r.start r.s r.events m running free).steps.count))

pub returns-clause-running : goal.returns-clause-running
returns-clause-running c start s events was may =
    let m = c.drop_move.new.self in
    let running = c.drop_move.ensures.running start s events was in
    let free = c.drop_move.ensures.free in
    let new = c.back.new.self in
    let carried = c.args.carried in
    let after = Back c.args.lane carried ∷ events in
    let its = back_task start s events m running free c.args.lane carried may in
    let same : its.0 ≡ c.in-Some.task =
    same_value (sym its.1 ∙ ap (λ (j : JobId). j.task) (sym c.id-job.ensures) ∙ c.in-Some.is) in
    let within = place_within start s events m running its.0 its.2 its.3
    (free_at start s events m running free).steps.count in
    let follows = c.back.ensures.goes_on s events
    (back_run start s events m running free c.args.lane carried may)
    (subst (λ (x : SeenManager). Follows s events x.moves) (sym c.self.view_is)
    (free_at start s events m running free).follows) in
    let steady = subst (λ (x : SeenManager). IsSteady x.moves new) c.self.view_is c.back.ensures.steady in
    subst (λ (x : SeenManager). IsRunning start s after x) (sym c.settle.ensures)
    (subst (λ (x : SeenManager). IsRunning start s after
    (with x new (settled_steps c.in-Some.task new.outcomes x.steps) c.push.new.self x.due)) (sym c.self.view_is)
    (subst (λ (d : Due). IsRunning start s after
    (with m new (settled_steps c.in-Some.task new.outcomes m.steps) c.push.new.self d)) (sym free)
    (subst (λ (t : ℕ). IsRunning start s after
    (with m new (settled_steps t new.outcomes m.steps) c.push.new.self due.Free)) same
    (back_runs start s events m running free c.args.lane carried may its.0 its.1 within new follows steady
    c.push.new.self
    (c.push.ensures.items
    ∙ ap (λ (x : SeenManager).
    x.journal.items ++ entry.Came c.id-job.result c.args.lane c.copy_of-tries.result ∷ []) c.self.view_is
    ∙ ap (λ (j : JobId). m.journal.items ++ entry.Came j c.args.lane c.copy_of-tries.result ∷ []) c.id-job.ensures
    ∙ ap (λ (t : List Mark). m.journal.items ++ entry.Came carried.job.id c.args.lane t ∷ [])
    (c.copy_of-tries.ensures ∙ ap (λ (x : SeenCarried). x.tries) c.carried.view_is))
    (c.push.ensures.spare ∙ ap (λ (x : SeenManager). x.journal.spare) c.self.view_is)))))

pub returns-clause-cells : goal.returns-clause-cells
returns-clause-cells c =
    let task = c.in-Some.task in
    let outcomes = c.back.new.self.outcomes in
    cells_settle c.args.self.now.steps _ task outcomes
    (ap (λ (x : SeenManager). x.steps) c.settle.ensures
    ∙ ap (λ (x : SeenManager). settled_steps task outcomes x.steps) c.self.view_is
    ∙ ap (λ (xs : List (Option SeenSteps)). settled_steps task outcomes xs) c.drop_move.ensures.steps)

pub returns-clause-bytes : goal.returns-clause-bytes
returns-clause-bytes c =
    subst (λ (x : SeenManager). KeepsBytes (part_by c.args.carried) c.args.self.now.moves.parts.slots
    x.moves.parts.slots) (sym c.settle.ensures)
    (bytes_since (part_by c.args.carried) c.args.self.now.moves.parts.slots c.drop_move.new.self.moves.parts.slots
    c.back.new.self.parts.slots c.drop_move.ensures.bytes
    (subst (λ (x : SeenManager). KeepsBytes (part_by c.args.carried) x.moves.parts.slots c.back.new.self.parts.slots)
    c.self.view_is c.back.ensures.bytes))
