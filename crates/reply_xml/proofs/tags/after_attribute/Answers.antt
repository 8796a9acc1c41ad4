use Rattle.reply_xml.proofs.TagLemmas.{attribute_parts, attribute_value, OnErr-map}
use Rattle.std.proofs.Common.{refl}
use Rattle.reply_xml.specs.Leaves.{BadValue, NoEquals, NoName}
use Rattle.reply_xml.proofs.LeaveLemmas.{leaves_past, leaves_so}
use Rattle.reply_xml.proofs.tags.after_attribute.Goals as goal

pub returns-in_default-clause-refused : goal.returns-in_default-clause-refused
returns-in_default-clause-refused c rest r =
    c.in_default.ensures.value _ (attribute_parts _ rest _ _ c.in_ok-equals.ensures.value r)

pub returns-clause-refused : goal.returns-clause-refused
returns-clause-refused c =
    OnErr-map c.after_value.result
    (λ none rest r. none rest (attribute_value _ rest _ _ _ c.in_ok-equals.ensures.value c.in-Some.ensures.value r))
    c.after_value.ensures.refused

pub returns-in_err-equals-clause-leaves : goal.returns-in_err-equals-clause-leaves
returns-in_err-equals-clause-leaves c =
    leaves_past c.from_residual.result c.in_err-equals.field-0.0 c.from_residual.ensures.1
    (λ left l. NoName l) c.in_err-equals.ensures.leaves

pub returns-in_default-clause-leaves : goal.returns-in_default-clause-leaves
returns-in_default-clause-leaves c = NoEquals _ _ c.in_ok-equals.ensures.value c.in_default.ensures.value refl

pub returns-clause-leaves : goal.returns-clause-leaves
returns-clause-leaves c =
    leaves_so c.after_value.result (λ left l. BadValue _ _ _ c.in_ok-equals.ensures.value c.in-Some.ensures.value l)
    c.after_value.ensures.leaves
