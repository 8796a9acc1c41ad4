use Rattle.std.proofs.Common.{rules, arith}
use Rattle.temp_files.proofs.AssemblyLemmas.{dropped_gone, dropped_spares}
use Rattle.temp_files.proofs.assembly.Assembly.drop_it.Goals as goal

pub returns-clause-gone : goal.returns-clause-gone
returns-clause-gone g c = grind (arith, dropped_gone)

pub returns-clause-others : goal.returns-clause-others
returns-clause-others g c = grind (arith, dropped_spares)

pub returns-clause-calls : goal.returns-clause-calls
returns-clause-calls g c = search rules

pub returns-clause-cause : goal.returns-clause-cause
returns-clause-cause g c = search rules
