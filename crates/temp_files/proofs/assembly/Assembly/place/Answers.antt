use Rattle.std.proofs.Common.{ap, rules, arith}
use Rattle.temp_files.specs.Assembly.{Assembling}
use Rattle.temp_files.proofs.AssemblyLemmas.{placed_given, placed_spares}
use Rattle.temp_files.proofs.assembly.Assembly.place.Goals as goal

pub returns-clause-placed : goal.returns-clause-placed
returns-clause-placed g c =
    placed_given c.args.self.now _ c.args.at c.args.part.now.bytes.bytes _ c.write_at.result _ _ _ _ (ap (λ (a : Assembling). a.temp) c.self.view_is) c.as_slice.ensures c.requires c.write_at.ensures.calls

pub returns-clause-assembly : goal.returns-clause-assembly
returns-clause-assembly g c = search rules

pub returns-clause-others : goal.returns-clause-others
returns-clause-others g c = grind (arith, placed_spares)

pub returns-clause-calls : goal.returns-clause-calls
returns-clause-calls g c = search rules

pub returns-clause-cause : goal.returns-clause-cause
returns-clause-cause g c = search rules
