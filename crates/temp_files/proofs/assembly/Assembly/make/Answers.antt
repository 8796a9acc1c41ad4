use Rattle.std.proofs.Common.{Ok, inr, rules, arith}
use Rattle.std.proofs.lemmas.Result.{err_from_is_err_and}
use Rattle.temp_files.proofs.AssemblyLemmas.{made_empty, made_spares}
use Rattle.temp_files.proofs.assembly.Assembly.make.Goals as goal

pub returns-clause-empty : goal.returns-clause-empty
returns-clause-empty g c = made_empty c.args.dest.now c.in-Ok.kept c.args.size (Ok c.in_ok-temp.temp) _ _ _ _ c.in_ok-temp.ensures.calls

pub returns-clause-dest : goal.returns-clause-dest
returns-clause-dest g c = search rules

pub returns-clause-size : goal.returns-clause-size
returns-clause-size g c = search rules

pub returns-clause-temp : goal.returns-clause-temp
returns-clause-temp g c = c.in_ok-temp.ensures.path

pub returns-clause-apart : goal.returns-clause-apart
returns-clause-apart g c = c.in_ok-temp.ensures.apart

pub returns-clause-others : goal.returns-clause-others
returns-clause-others g c = grind (arith, made_spares)

pub returns-clause-calls : goal.returns-clause-calls
returns-clause-calls g c = c.in_ok-temp.ensures.calls

pub returns-clause-same : goal.returns-clause-same
returns-clause-same g c = search rules

pub returns-clause-free : goal.returns-clause-free
returns-clause-free g c = c.in_ok-temp.ensures.free

pub returns-clause-later : goal.returns-clause-later
returns-clause-later g c = search rules

pub returns-in_err-temp-clause-unmade : goal.returns-in_err-temp-clause-unmade
returns-in_err-temp-clause-unmade g c =
    let why = err_from_is_err_and c.from_residual.result c.from_residual.ensures.1 in
    rw (why.1, why.2) (inr c.in_err-temp.ensures.calls)

pub returns-in_err-temp-clause-front : goal.returns-in_err-temp-clause-front
returns-in_err-temp-clause-front g c = search rules

pub returns-in_err-temp-clause-way : goal.returns-in_err-temp-clause-way
returns-in_err-temp-clause-way g c = search rules

pub returns-in_err-temp-clause-same : goal.returns-in_err-temp-clause-same
returns-in_err-temp-clause-same g c = search rules

pub returns-in_err-temp-clause-failed : goal.returns-in_err-temp-clause-failed
returns-in_err-temp-clause-failed g c = search rules

pub returns-in_err-temp-clause-later : goal.returns-in_err-temp-clause-later
returns-in_err-temp-clause-later g c = search rules

pub invariant_of-result : goal.invariant_of-result
invariant_of-result g c = search rules
