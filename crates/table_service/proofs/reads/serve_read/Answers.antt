use Rattle.std.proofs.Common.{rules}
use Rattle.std.proofs.lemmas.Result.{err_from_is_err_and}
use Rattle.table_service.proofs.Rows.{get_row, head_row}
use Rattle.table_service.proofs.reads.serve_read.Goals as goal

pub returns-in_err-found-in-Head-clause-willing : goal.returns-in_err-found-in-Head-clause-willing
returns-in_err-found-in-Head-clause-willing c = λ limits body answered bytes new may.
    let row = head_row limits c.args.table.now c.args.ask.now body answered bytes new c.as_str.result.now c.as_str-in-Head.result.now (search rules) may in
    let p = err_from_is_err_and c.from_residual.result c.from_residual.ensures.1 in
    rw (p.1, p.2) (c.in_err-found-in-Head.ensures.willing row.0 row.1 row.2 new row.3)

pub returns-in_err-got-in-Get-clause-willing : goal.returns-in_err-got-in-Get-clause-willing
returns-in_err-got-in-Get-clause-willing c = λ limits body answered bytes new may.
    let row = get_row limits c.args.table.now c.args.ask.now body answered bytes new c.as_str-bucket.result.now c.as_str-key.result.now c.as_str-in-Get.result.now c.in-Get.range (search rules) may in
    let p = err_from_is_err_and c.from_residual-in_err-got-in-Get.result c.from_residual-in_err-got-in-Get.ensures.1 in
    rw (p.1, p.2) (c.in_err-got-in-Get.ensures.willing row.0 row.1 row.2 bytes new row.3)
