use Rattle.bounded_executor.specs.Desk.{SameDesk, all_out}
use Rattle.run_transfers.specs.Conducting.{Conducted, MeetsStranger}
use Rattle.run_transfers.proofs.lanes.take_rest.Given as goal

-- a stranger that was met is met still
abbrev pub invariant-jobs : goal.invariant-jobs
invariant-jobs g l = record {
  stranger : (run : Conducted) → MeetsStranger run l.fn.desk → MeetsStranger run l.desk;
  same_desk : SameDesk l.fn.desk l.desk;
}

abbrev pub decreases-jobs : goal.decreases-jobs
decreases-jobs g l = all_out l.desk
