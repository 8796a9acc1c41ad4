use Rattle.std.proofs.Common.{inl}
use Rattle.std.proofs.lemmas.Result.{err_from_is_err_and}
use Rattle.object_table.proofs.table.ObjectTable.complete.Goals as goal

pub returns-clause-joined : goal.returns-clause-joined
returns-clause-joined c =
    let made = c.in_ok-bytes.ensures.bytes in
    let ended = c.in_ok-join.ensures.joined in
    inl (made.0, c.in_ok-bytes.bytes.items, ended.0, made.1, c.in_ok-bytes.ensures.vacant, made.2, ended.1, ended.2)

pub returns-in_err-bytes-clause-willing : goal.returns-in_err-bytes-clause-willing
returns-in_err-bytes-clause-willing c = λ new joins.
    let p = err_from_is_err_and c.from_residual.result c.from_residual.ensures.1 in
    rw (p.1, p.2) (c.in_err-bytes.ensures.willing joins.0 joins.1 joins.3 joins.4 joins.5)
