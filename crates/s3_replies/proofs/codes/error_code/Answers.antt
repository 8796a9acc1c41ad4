use Rattle.std.proofs.Common.{◌∙◌, Some, None, map, sym, refl, arith}
use Rattle.std.proofs.lemmas.List.{length-map}
use Rattle.std.proofs.lemmas.Option.{slice_get_within}
use Rattle.s3_replies.specs.ErrorCodes.{code_names, error_code}
use Rattle.reply_xml.proofs.Rows.{lookup_found}
use Rattle.s3_replies.proofs.codes.error_code.Goals as goal

pub code_at-requires : goal.code_at-requires
code_at-requires c =
    let within = slice_get_within (map (λ row. row.now) c.names.result.names.now) c.in-Some.row c.args.name.now
    c.in-Some.ensures.0 in
    omega (arith, length-map c.names.result.names.now (λ row. row.now), c.names.result.rows)

pub returns-in-Some : goal.returns-in-Some
unfolding error_code
returns-in-Some c = sym (lookup_found code_names _ _ _ (Some c.in-Some.row) c.names.ensures refl c.in-Some.ensures
    ∙ c.code_at.ensures)

pub returns-in-None : goal.returns-in-None
unfolding error_code
returns-in-None c = sym (lookup_found code_names _ _ _ None c.names.ensures refl c.in-None.ensures)
