use Rattle.bounded_executor.specs.Desk.{SameDesk}
use Rattle.run_transfers.specs.Conducting.{Conducts, IsFree}
use Rattle.run_transfers.proofs.conductor.Conductor.go_on.Given as goal

-- the run was conducted up to here, and nothing is to be answered
abbrev pub invariant-loop : goal.invariant-loop
invariant-loop g l = record {
  free : IsFree l.self l.desk;
  goes_on : Conducts l.initial.self l.initial.desk l.self l.desk;
  same_desk : SameDesk l.initial.desk l.desk;
}
