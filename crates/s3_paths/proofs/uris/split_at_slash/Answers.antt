use Rattle.std.proofs.lemmas.Grind.{common_steps}
use Rattle.std.proofs.Common.{rules, arith}
use Rattle.s3_paths.proofs.uris.split_at_slash.Goals as goal

pub returns-in-Some-clause-before : goal.returns-in-Some-clause-before
returns-in-Some-clause-before c = search rules

pub returns-in-Some-clause-after : goal.returns-in-Some-clause-after
returns-in-Some-clause-after c = search rules

pub returns-in-None-clause-before : goal.returns-in-None-clause-before
returns-in-None-clause-before c = grind (arith, common_steps)

pub returns-in-None-clause-after : goal.returns-in-None-clause-after
returns-in-None-clause-after c = grind (arith, common_steps)
