use Rattle.std.proofs.Common.{◌∙◌, Some, None, ap, sym, lit<}
use Rattle.std.proofs.lemmas.Str.Pattern.{strip_prefix_char}
use Rattle.reply_values.specs.References.{begins_entity}
use Rattle.reply_values.proofs.CutLemmas.{decimal_begins, decimal_begun, entity_begun, entity_cut, entity_text}
use Rattle.reply_values.proofs.CutLemmas.{entity_true, hex_begins, hex_begun}
use Rattle.reply_values.proofs.references.may_begin_reference.Goals as goal

pub returns-in_default : goal.returns-in_default
returns-in_default c =
    let name = c.args.name.now in
    let plain = strip_prefix_char 35 name None c.in_default.ensures.cases (lit< tt) in
    let same = c.may_be_entity.ensures ∙ ap begins_entity c.as_bytes.ensures.value in (
      λ h. entity_begun name (entity_text name (sym same ∙ h)),
      λ cut. same
          ∙ entity_true name (entity_cut name plain c.requires cut),
    )

pub returns-in-Some-strip_prefix : goal.returns-in-Some-strip_prefix
returns-in-Some-strip_prefix c =
    let name = c.args.name.now in
    let digits = c.in-Some.digits in
    let hex = c.in-Some-strip_prefix.hex in
    let hash = strip_prefix_char 35 name (Some digits) c.in-Some.ensures.cases (lit< tt) in
    let x = strip_prefix_char 120 digits.now (Some hex) c.in-Some-strip_prefix.ensures.cases (lit< tt) in (
      λ h. hex_begins name digits.now hex.now hash x (c.may_be_number.ensures.0 h),
      λ cut. c.may_be_number.ensures.1 (hex_begun name digits.now hex.now hash x c.requires cut),
    )

pub returns-in-None : goal.returns-in-None
returns-in-None c =
    let name = c.args.name.now in
    let digits = c.in-Some.digits in
    let hash = strip_prefix_char 35 name (Some digits) c.in-Some.ensures.cases (lit< tt) in
    let plain = strip_prefix_char 120 digits.now None c.in-None.ensures.cases (lit< tt) in (
      λ h. decimal_begins name digits.now hash (c.may_be_number-in-None.ensures.0 h),
      λ cut. c.may_be_number-in-None.ensures.1 (decimal_begun name digits.now hash plain c.requires cut),
    )
