use Rattle.std.proofs.Common.{◌≡◌, length, ap, ◌∙◌, arith, refl}
use Rattle.bounded_executor.specs.Desk.{desk_of}
use Rattle.bounded_executor.proofs.OpenLemmas.{workers-opened, exchanges-opened, lanes-opened, IsDesk-opened}
use Rattle.bounded_executor.proofs.run.open_sized.Goals as goal

pub new-requires-in-Ok-after_bounds : goal.new-requires-in-Ok-after_bounds
new-requires-in-Ok-after_bounds g c κs within =
    rw (c.open_lanes-lanes.ensures, c.replace-begun.ensures.value) (IsDesk-opened _ _ _ c.args.depth c.args.workers.now.items c.requires.depth (omega (arith, c.requires.lanes, c.args.workers.now.ok.0)))

pub returns-in-Ok-clause-begun : goal.returns-in-Ok-clause-begun
returns-in-Ok-clause-begun g c =
    rw (c.new-in-Ok.ensures, c.open_lanes-lanes.ensures, c.replace-begun.ensures.value, workers-opened g.row.W.Denot g.row.W-Job.Denot g.row.W-Done.Denot c.args.depth c.args.workers.now.items) refl

pub returns-in-Ok-clause-unused : goal.returns-in-Ok-clause-unused
returns-in-Ok-clause-unused g c =
    rw (c.new-in-Ok.ensures, c.open_lanes-lanes.ensures, c.replace-begun.ensures.value) (exchanges-opened _ _ _ c.args.depth c.args.workers.now.items)
