use Rattle.std.proofs.lemmas.Grind.{elements}
use Rattle.std.proofs.Common.{rules, arith}
use Rattle.env_settings.proofs.variables.read_profile.Goals as goal

pub returns-in-Some-clause-value : goal.returns-in-Some-clause-value
returns-in-Some-clause-value g c = search rules

pub returns-in-None-clause-value : goal.returns-in-None-clause-value
returns-in-None-clause-value g c = grind (arith, elements)
