use Rattle.fault_laws.proofs.PageFaults.{page_faults_same}
use Rattle.fault_laws.proofs.RootFaults.{Breaks-same, no_fault}
use Rattle.fault_laws.proofs.one_fault.Goals as goal

pub returns-clause-one : goal.returns-clause-one
returns-clause-one c = Breaks-same

pub returns-clause-page : goal.returns-clause-page
returns-clause-page c = page_faults_same

pub returns-clause-none : goal.returns-clause-none
returns-clause-none c = no_fault
