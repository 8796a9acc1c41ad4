use Rattle.std.proofs.Common.{arith, subst, refl, rules}
use Rattle.reply_xml.proofs.RunLemmas.{run_within}
use Rattle.std.specs.Str.{IsUtf8}
use Rattle.reply_xml.proofs.TagLemmas.{value_parts}
use Rattle.reply_xml.specs.Leaves.{NoEndQuote, NoValue}
use Rattle.reply_xml.proofs.tags.after_value.Goals as goal

pub returns-in_default-from_utf8-clause-refused : goal.returns-in_default-from_utf8-clause-refused
returns-in_default-from_utf8-clause-refused c rest r =
    let parts = value_parts _ rest _ _ _ _ c.in-Some.ensures.cases.0 c.split_run.ensures.value r in
    c.in_default-from_utf8.ensures.cases.0 (subst IsUtf8 parts.1 r.characters)

pub returns-in-None-clause-refused : goal.returns-in-None-clause-refused
returns-in-None-clause-refused c rest r =
    let parts = value_parts _ rest _ _ _ _ c.in-Some.ensures.cases.0 c.split_run.ensures.value r in
    c.in-None.ensures.value rest parts.2

pub returns-in_default-from_utf8-clause-leaves : goal.returns-in_default-from_utf8-clause-leaves
returns-in_default-from_utf8-clause-leaves c =
    NoValue _ c.utf8_front.result _ _ _ (search rules) c.in-Some.ensures.cases.0 c.split_run.ensures.value
    c.in_default-from_utf8.ensures.cases.0 (c.utf8_front.ensures.fault c.in_default-from_utf8.ensures.cases.0) refl

pub returns-in-None-clause-leaves : goal.returns-in-None-clause-leaves
returns-in-None-clause-leaves c =
    NoEndQuote _ _ _ _ (search rules) c.in-Some.ensures.cases.0 c.split_run.ensures.value
    (search rules) c.in-None.ensures.value refl

pub overflow_sub-result : goal.overflow_sub-result
overflow_sub-result c =
    omega (arith, c.utf8_front.ensures.most, run_within _ _ _ _ c.split_run.ensures.value)

pub returns-in-Some-after_byte-clause-value : goal.returns-in-Some-after_byte-clause-value
returns-in-Some-after_byte-clause-value c = record {
  quote = c.in-Some.quote.now;
  is_quote = search rules;
  at_value = c.in-Some.inside.now;
  opens = c.in-Some.ensures.cases.0;
  value = c.split_run.result.0.now;
  at_quote = c.split_run.result.1.now;
  valued = c.split_run.ensures.value;
  characters = c.in-Ok.ensures.cases.1;
  closes = c.in-Some-after_byte.ensures.value;
}
