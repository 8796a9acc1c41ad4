use Rattle.std.proofs.Common.{◌∙◌, ◌∷◌, None, sym, subst, ap, arith, get_or, length, ◌≡◌, List, Option}
use Rattle.manager_moves.specs.Runs.{Stopped}
use Rattle.move_laws.specs.Follows.{Follows}
use Rattle.move_laws.specs.Steady.{IsSteady}
use Rattle.run_steps.specs.Steps.{settled_step}
use Rattle.manager_core.proofs.HappenedRuns.{free_at, stopped_run, stopped_runs}
use Rattle.manager_core.proofs.RunLemmas.{with}
use Rattle.manager_core.specs.declared.due.Due.{Due}
use Rattle.manager_core.specs.Kept.{SeenManager, jobs_at}
use Rattle.manager_core.specs.Running.{IsRunning}
use Rattle.manager_core.proofs.CellLemmas.{swept_cell}
use Rattle.step_jobs.specs.Shares.{SeenSteps}
use Rattle.manager_core.specs.Cells.{CellStays}
use Rattle.move_laws.proofs.KeptBytes.{bytes_then}
use Rattle.move_laws.specs.Bytes.{KeepsBytes, no_part}
use Rattle.manager_core.proofs.manager.Manager.cancel_all.Goals as goal

pub cancel_all-requires : goal.cancel_all-requires
cancel_all-requires c =
    let r = c.requires.goes_on in
    let m = c.drop_move.new.self in
    let running = c.drop_move.ensures.running r.start r.s r.events r.running in
    let free = c.drop_move.ensures.free in
    record {
      s = r.s;
      events = r.events;
      run = stopped_run r.start r.s r.events m running free c.args.reason c.requires.reason;
      follows = subst (λ (x : SeenManager). Follows r.s r.events x.moves) (sym c.self.view_is)
          (free_at r.start r.s r.events m running free).follows;
    }

pub overflow_cast-task-end : goal.overflow_cast-task-end
overflow_cast-task-end c =
    let r = c.requires.goes_on in
    let m = c.drop_move.new.self in
    let running = c.drop_move.ensures.running r.start r.s r.events r.running in
    let count = (free_at r.start r.s r.events m running c.drop_move.ensures.free).steps.count in
    let few = running.given.plan.fit.few in
    let same = ap (λ (x : SeenManager). length x.steps) c.self.view_is in
    omega (arith, count, few, same, c.len-task-end.ensures)

pub returns-clause-running : goal.returns-clause-running
returns-clause-running c start s events was =
    let m = c.drop_move.new.self in
    let running = c.drop_move.ensures.running start s events was in
    let free = c.drop_move.ensures.free in
    let new = c.cancel_all.new.self in
    let steps = c.loop-task.self.steps in
    let inv = c.loop-task.invariant in
    let after = Stopped c.args.reason ∷ events in
    let count = ap (λ (x : SeenManager). length x.steps) c.self.view_is in
    let follows = c.cancel_all.ensures.goes_on s events
    (stopped_run start s events m running free c.args.reason c.requires.reason)
    (subst (λ (x : SeenManager). Follows s events x.moves) (sym c.self.view_is)
    (free_at start s events m running free).follows) in
    subst (λ (x : SeenManager). IsRunning start s after x) (sym inv.same)
    (subst (λ (x : SeenManager). IsRunning start s after (with x new steps x.journal x.due)) (sym c.self.view_is)
    (subst (λ (d : Due). IsRunning start s after (with m new steps m.journal d)) (sym free)
    (stopped_runs start s events m running free c.args.reason c.requires.reason new follows
    (subst (λ (x : SeenManager). IsSteady x.moves new) c.self.view_is c.cancel_all.ensures.steady) steps
    (inv.count ∙ count)
    (λ n below. inv.settled n (omega (arith, below, count, c.len-task-end.ensures, c.loop-task-test.false))
    ∙ ap (λ (x : SeenManager). settled_step new.outcomes n (get_or x.steps n None)) c.self.view_is))))

pub returns-clause-cells : goal.returns-clause-cells
returns-clause-cells c n =
    let now = c.args.self.now in
    let inv = c.loop-task.invariant in
    let was : get_or c.self.inside.steps.items n None ≡ jobs_at now n =
    ap (λ (x : SeenManager). jobs_at x n) c.self.view_is
    ∙ ap (λ (xs : List (Option SeenSteps)). get_or xs n None) c.drop_move.ensures.steps in
    subst (λ (x : SeenManager). CellStays (jobs_at now n) (jobs_at x n)) (sym inv.same)
    (subst (λ (x : Option SeenSteps). CellStays x (get_or c.loop-task.self.steps n None)) was
    (swept_cell c.cancel_all.new.self.outcomes n c.loop-task.task (get_or c.self.inside.steps.items n None)
    (get_or c.loop-task.self.steps n None) (inv.settled n) (inv.others n)))

pub returns-clause-bytes : goal.returns-clause-bytes
returns-clause-bytes c =
    let slots = c.args.self.now.moves.parts.slots in
    let new = c.cancel_all.new.self.parts.slots in
    subst (λ (x : SeenManager). KeepsBytes no_part slots x.moves.parts.slots) (sym c.loop-task.invariant.same)
    (bytes_then no_part slots c.drop_move.new.self.moves.parts.slots new c.drop_move.ensures.bytes
    (subst (λ (x : SeenManager). KeepsBytes no_part x.moves.parts.slots new) c.self.view_is
    c.cancel_all.ensures.bytes))
