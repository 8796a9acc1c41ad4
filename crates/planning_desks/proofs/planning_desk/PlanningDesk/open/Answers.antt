use Rattle.std.proofs.Common.{rules}
use Rattle.planning_desks.proofs.OpenLemmas.{wires_again}
use Rattle.planning_desks.proofs.planning_desk.PlanningDesk.open.Goals as goal

pub returns-in-Err-clause-err : goal.returns-in-Err-clause-err
returns-in-Err-clause-err g c = search (rules, wires_again)
