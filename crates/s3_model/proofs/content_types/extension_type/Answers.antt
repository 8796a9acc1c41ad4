use Rattle.std.proofs.Common.{◌≡◌, ◌∙◌, Some, None, map, sym, ap, subst, arith}
use Rattle.std.proofs.lemmas.List.{length-map}
use Rattle.std.proofs.lemmas.Option.{slice_get_within}
use Rattle.std.specs.Str.{str_to_ascii_lowercase, IsUtf8}
use Rattle.std.specs.Char.{to_ascii_lowercase}
use Rattle.s3_model.specs.ContentTypes.{content_types, type_of_extension}
use Rattle.s3_model.proofs.Rows.{lookup_found}
use Rattle.s3_model.proofs.ContentTypes.{no_long_extension, no_other_extension}
use Rattle.s3_model.proofs.content_types.extension_type.Goals as goal

pub returns-then-extension-gt4 : goal.returns-then-extension-gt4
unfolding type_of_extension
returns-then-extension-gt4 c = sym (no_long_extension (str_to_ascii_lowercase c.args.extension.now) (omega (arith, length-map c.args.extension.now to_ascii_lowercase)))

pub returns-in_default : goal.returns-in_default
unfolding type_of_extension
returns-in_default c =
    let lower : c.make_ascii_lowercase.new.self ≡ str_to_ascii_lowercase c.args.extension.now = c.make_ascii_lowercase.ensures.after ∙ ap (map to_ascii_lowercase) c.copy_from_slice.ensures.after in
    sym (no_other_extension _ (λ text. c.in_default.ensures.cases.0 (subst IsUtf8 (sym lower) text)))

pub type_at-requires : goal.type_at-requires
type_at-requires c =
    let within = slice_get_within (map (λ row. row.now) c.extensions.result.names.now) c.in-Some.row c.in-Ok.name.now c.in-Some.ensures.0 in
    omega (arith, length-map c.extensions.result.names.now (λ row. row.now), c.extensions.result.rows)

pub returns-in-Some : goal.returns-in-Some
unfolding type_of_extension
returns-in-Some c =
    let lower : c.make_ascii_lowercase.new.self ≡ str_to_ascii_lowercase c.args.extension.now = c.make_ascii_lowercase.ensures.after ∙ ap (map to_ascii_lowercase) c.copy_from_slice.ensures.after in
    sym (lookup_found content_types _ _ _ (Some c.in-Some.row) c.extensions.ensures (c.in-Ok.ensures.cases.0 ∙ lower) c.in-Some.ensures ∙ c.type_at.ensures)

pub returns-in-None : goal.returns-in-None
unfolding type_of_extension
returns-in-None c =
    let lower : c.make_ascii_lowercase.new.self ≡ str_to_ascii_lowercase c.args.extension.now = c.make_ascii_lowercase.ensures.after ∙ ap (map to_ascii_lowercase) c.copy_from_slice.ensures.after in
    sym (lookup_found content_types _ _ _ None c.extensions.ensures (c.in-Ok.ensures.cases.0 ∙ lower) c.in-None.ensures)
