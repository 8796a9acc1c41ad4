use Rattle.std.proofs.Common.{List, sym, subst}
use Rattle.jobs.specs.Jobs.{SeenJob}
use Rattle.run_rows.proofs.RunLemmas.{begins}
use Rattle.run_rows.specs.Runs.{IsFree}
use Rattle.run_rows.proofs.runs.conductor.Conductor.make.Goals as goal

pub make-requires-2-clause-some : goal.make-requires-2-clause-some
make-requires-2-clause-some c = c.requires.config.lanes.least

pub returns-in-Ok : goal.returns-in-Ok
returns-in-Ok c =
    let made = c.in-Ok.ensures.running in
    subst (λ (lanes : List (List SeenJob)). IsFree c.in-Ok.manager lanes) (sym c.in_ok-lanes.ensures)
    (begins made.1 made.2 c.in-Ok.ensures.free)
