use Rattle.std.proofs.Common.{rules}
use Rattle.small_uploads.proofs.transfer.outcome_of.Goals as goal

pub returns-in-Refused : goal.returns-in-Refused
returns-in-Refused c = search rules

pub returns-in-Uncertain : goal.returns-in-Uncertain
returns-in-Uncertain c = search rules
