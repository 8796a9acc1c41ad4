use Rattle.std.proofs.Common.{rules}
use Rattle.s3_model.specs.declared.requests.Ask.TheVariants as ask
use Rattle.std.proofs.lemmas.Result.{err_from_is_err_and}
use Rattle.table_service.proofs.Rows.{part_copy_row, served_as}
use Rattle.table_service.proofs.parts.serve_part.Goals as goal

pub returns-in_ok-etag-in-Part-clause-served : goal.returns-in_ok-etag-in-Part-clause-served
returns-in_ok-etag-in-Part-clause-served c = λ limits.
    served_as limits c.args.table.now c.args.ask.now (ask.Part c.as_str-bucket.result.now c.as_str-key.result.now c.as_str-id.result.now c.in-Part.number) _ _ _ (search rules)
    c.in_ok-etag-in-Part.ensures.stored

pub returns-in_ok-etag-in-PartCopy-clause-served :
    goal.returns-in_ok-etag-in-PartCopy-clause-served
returns-in_ok-etag-in-PartCopy-clause-served c = λ limits.
    served_as limits c.args.table.now c.args.ask.now (ask.PartCopy c.as_str-bucket-in-PartCopy.result.now c.as_str-key-in-PartCopy.result.now c.as_str-id-in-PartCopy.result.now c.in-PartCopy.number c.as_str.result.now c.as_str-in-PartCopy.result.now c.as_str-in-PartCopy-2.result.now c.in-PartCopy.range) _ _ _ (search rules) c.in_ok-etag-in-PartCopy.ensures.stored

pub returns-in_err-etag-in-PartCopy-clause-willing :
    goal.returns-in_err-etag-in-PartCopy-clause-willing
returns-in_err-etag-in-PartCopy-clause-willing c = λ limits answered bytes new may.
    let row = part_copy_row limits c.args.table.now c.args.ask.now c.args.body.now answered bytes new c.as_str-bucket-in-PartCopy.result.now c.as_str-key-in-PartCopy.result.now c.as_str-id-in-PartCopy.result.now c.in-PartCopy.number c.as_str.result.now c.as_str-in-PartCopy.result.now c.as_str-in-PartCopy-2.result.now c.in-PartCopy.range (search rules) may in
    let p = err_from_is_err_and c.from_residual-in_err-etag-in-PartCopy.result c.from_residual-in_err-etag-in-PartCopy.ensures.1 in
    rw (p.1, p.2) (c.in_err-etag-in-PartCopy.ensures.willing row.0 new row.1)
