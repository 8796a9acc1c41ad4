use Rattle.std.proofs.Common.{rules}
use Rattle.sync_plan.proofs.times.times_differ.Goals as goal

pub returns-in-Usual-Download : goal.returns-in-Usual-Download
returns-in-Usual-Download c = search rules

pub returns-in-Exact-Download : goal.returns-in-Exact-Download
returns-in-Exact-Download c = search rules
