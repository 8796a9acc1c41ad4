use Rattle.std.proofs.Common.{◌∙◌, sym, subst, ap, arith}
use Rattle.move_laws.specs.Follows.{Follows}
use Rattle.move_laws.specs.Steady.{IsSteady}
use Rattle.manager_core.proofs.HappenedRuns.{free_at}
use Rattle.manager_core.proofs.RunLemmas.{named_runs, with}
use Rattle.manager_core.specs.declared.due.Due.TheVariants as due
use Rattle.manager_core.specs.Kept.{SeenManager}
use Rattle.manager_core.specs.Running.{IsRunning}
use Rattle.manager_core.proofs.CellLemmas.{cells_same}
use Rattle.manager_core.proofs.HeldBytes.{bytes_since, fits_part}
use Rattle.manager_core.proofs.ReadRoom.{fits_read}
use Rattle.manager_core.specs.Answers.{read_at, read_in}
use Rattle.move_laws.specs.Bytes.{KeepsBytes}
use Rattle.step_jobs.specs.Formed.{range_at}
use Rattle.manager_core.proofs.manager.Manager.next.Goals as goal

pub lend_for-requires : goal.lend_for-requires
lend_for-requires c task number is =
    let r = c.requires in
    let m = c.drop_move.new.self in
    let at = free_at r.start r.s r.events m (c.drop_move.ensures.running r.start r.s r.events r.running)
    c.drop_move.ensures.free in
    let follows = subst (λ (x : SeenManager). Follows r.s r.events x.moves) (sym c.self.view_is) at.follows in
    record {
      s = r.s;
      events = r.events;
      run = at.run;
      follows = follows;
      next = sym (c.next-next.ensures r.s r.events follows) ∙ is;
    }

pub returns-clause-rule : goal.returns-clause-rule
returns-clause-rule c start s events was =
    let m = c.drop_move.new.self in
    let at = free_at start s events m (c.drop_move.ensures.running start s events was) c.drop_move.ensures.free in
    c.next-next.ensures s events (subst (λ (x : SeenManager). Follows s events x.moves) (sym c.self.view_is) at.follows)

pub returns-clause-running : goal.returns-clause-running
returns-clause-running c start s events was =
    let m = c.drop_move.new.self in
    let running = c.drop_move.ensures.running start s events was in
    let free = c.drop_move.ensures.free in
    let at = free_at start s events m running free in
    let new = c.lend_for.new.moves in
    let next = c.next-next.result in
    let follows = subst (λ (x : SeenManager). Follows s events x.moves) (sym c.self.view_is) at.follows in
    let rule = sym (c.next-next.ensures s events follows) in
    subst (λ (x : SeenManager). IsRunning start s events (with x new x.steps x.journal (due.Next next)))
    (sym c.self.view_is)
    (named_runs start s events m running new next free rule (c.lend_for.ensures.follows s events at.run follows rule)
    (subst (λ (x : SeenManager). IsSteady x.moves new) c.self.view_is c.lend_for.ensures.steady))

pub returns-clause-cells : goal.returns-clause-cells
returns-clause-cells c =
    cells_same c.args.self.now.steps _ (ap (λ (x : SeenManager). x.steps) c.self.view_is ∙ c.drop_move.ensures.steps)

pub returns-clause-bytes : goal.returns-clause-bytes
returns-clause-bytes c =
    let new = c.lend_for.new.moves.parts.slots in
    let brought = read_at new (due.Next c.next-next.result) in
    bytes_since brought c.args.self.now.moves.parts.slots c.drop_move.new.self.moves.parts.slots new
    c.drop_move.ensures.bytes
    (subst (λ (x : SeenManager). KeepsBytes brought x.moves.parts.slots new) c.self.view_is c.lend_for.ensures.bytes)

pub returns-clause-room : goal.returns-clause-room
returns-clause-room c start s events task number w was is there =
    let m = c.drop_move.new.self in
    let running = c.drop_move.ensures.running start s events was in
    let at = free_at start s events m running c.drop_move.ensures.free in
    let follows = subst (λ (x : SeenManager). Follows s events x.moves) (sym c.self.view_is) at.follows in
    fits_part (read_in c.lend_for.new.moves.parts.slots (due.Next c.next-next.result)) (range_at w number).1
    c.self.inside.moves.parts.pool.room
    (let fits = fits_read s events task number w there (sym (c.next-next.ensures s events follows) ∙ is) in
    let room = ap (λ (x : SeenManager). x.moves.parts.pool.room) c.self.view_is ∙ running.given.bytes in
    omega (arith, fits, room)) c.lend_for.ensures.room
