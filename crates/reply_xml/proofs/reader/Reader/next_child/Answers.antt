use Rattle.std.proofs.Common.{List, ℕ, arith, ap, ◌-◌, ◌∙◌, refl, subst}
use Rattle.reply_xml.proofs.FaultLemmas.{refused_past}
use Rattle.reply_xml.proofs.ContentLemmas.{ReadsText-same, inner_open, content_begins, child_there, at_closed, at_open}
use Rattle.reply_xml.specs.declared.faults.DocFault.TheVariants as fault
use Rattle.reply_xml.specs.Contents.{ReadsText}
use Rattle.reply_xml.specs.Tags.{NamesTag}
use Rattle.reply_xml.specs.Breaks.{AtStart, AtText, TooLow}
use Rattle.reply_xml.proofs.BreakLemmas.{broken_past}
use Rattle.reply_xml.proofs.Utf8Lemmas.{behind_tag_name, judged_on, utf8_tag_name}
use Rattle.reply_xml.proofs.reader.Reader.next_child.Goals as goal

pub returns-in_err-text-clause-refused : goal.returns-in_err-text-clause-refused
returns-in_err-text-clause-refused c =
    refused_past c.from_residual.result c.in_err-text.field-0.0 c.from_residual.ensures.1
    (λ none inner rest r. let text = content_begins inner _ _ _ rest
    (inner_open _ inner _ _ _ rest c.if-parent.false r) in none text.0 text.1 text.2)
    c.in_err-text.ensures.refused

pub returns-then-parent-clause-end : goal.returns-then-parent-clause-end
returns-then-parent-clause-end c = at_closed c.args.parent.now c.args.self.now.rest.now c.if-parent.true

pub returns-then-at_end_tag-clause-end : goal.returns-then-at_end_tag-clause-end
returns-then-at_end_tag-clause-end c =
    at_open c.args.parent.now _ _ c.in_ok-text.ensures.value.0 c.if-at_end_tag.ensures.0 c.if-parent.false
    c.in_ok-text.ensures.value.1 c.if-at_end_tag.ensures.1

pub returns-then-parent-eq0-clause-refused : goal.returns-then-parent-eq0-clause-refused
returns-then-parent-eq0-clause-refused c inner rest r =
    let child = child_there inner _ _ _ _ _ rest c.in_ok-text.ensures.value.1 c.if-at_end_tag.ensures
    (inner_open _ inner _ _ _ rest c.if-parent.false r) in
    let some = child.0 in absurd (omega arith)

pub returns-in-Err-clause-refused : goal.returns-in-Err-clause-refused
returns-in-Err-clause-refused c inner rest r =
    let child = child_there inner _ _ _ _ _ rest c.in_ok-text.ensures.value.1 c.if-at_end_tag.ensures
    (inner_open _ inner _ _ _ rest c.if-parent.false r) in
    c.in-Err.ensures.refused child.1 child.2 child.3 child.4

pub returns-in_err-text-clause-broken : goal.returns-in_err-text-clause-broken
returns-in_err-text-clause-broken c =
    broken_past c.from_residual.result c.in_err-text.field-0.0 c.from_residual.ensures.1
    (λ reason t table front. AtText c.if-parent.false t) c.in_err-text.ensures.broken

pub returns-in-Err-clause-broken : goal.returns-in-Err-clause-broken
returns-in-Err-clause-broken c table front =
    AtStart c.in_ok-text.ensures.value.0 _ c.in-Err.left c.if-parent.false c.in_ok-text.ensures.value.1
    c.if-at_end_tag.ensures
    c.in-Err.ensures.leaves
    (ap (λ n. fault.NotADocument n) (c.place.ensures ∙ ap (λ s. s - c.in-Err.left) c.in_ok-text.ensures.size))

pub returns-then-parent-eq0-clause-broken : goal.returns-then-parent-eq0-clause-broken
returns-then-parent-eq0-clause-broken c table front =
    TooLow c.in_ok-text.ensures.value.0 _ _ _ c.if-parent.false c.in_ok-text.ensures.value.1 c.in-Ok.ensures.value
    c.in-Ok.ensures.ended (omega arith) refl

pub returns-in_err-text-clause-none : goal.returns-in_err-text-clause-none
returns-in_err-text-clause-none c =
    refused_past c.from_residual.result c.in_err-text.field-0.0 c.from_residual.ensures.1
    (λ none child from b. none b.text b.names.at_name
    (subst (λ (t : List ℕ). ReadsText b.text _ t) b.names.opens b.before)) c.in_err-text.ensures.refused

pub returns-in-Err-clause-none : goal.returns-in-Err-clause-none
returns-in-Err-clause-none c child from b =
    let there =
    (ReadsText-same c.in_ok-text.ensures.value.0 b.text _ _ b.at_tag c.in_ok-text.ensures.value.1 b.before).1 in
    c.in-Err.ensures.unnamed child.name.now from (subst (λ (t : List ℕ). NamesTag child.name.now t from) there b.names)
    b.ends

pub returns-then-parent-eq0-clause-none : goal.returns-then-parent-eq0-clause-none
returns-then-parent-eq0-clause-none c child from b = absurd (omega (arith, b.deeper))

pub invariant_of-self-clause-judged : goal.invariant_of-self-clause-judged
invariant_of-self-clause-judged c = judged_on _ _ _ c.text.new.self.judged (behind_tag_name _ _ _ c.in-Ok.ensures.value)

pub element_named-requires : goal.element_named-requires
element_named-requires c = utf8_tag_name _ _ _ c.in-Ok.ensures.value

pub returns-clause-child : goal.returns-clause-child
returns-clause-child c = record {
  text = c.in_ok-text.ensures.value.0;
  at_tag = c.text.new.self.rest.now;
  before = c.in_ok-text.ensures.value.1;
  names = c.in-Ok.ensures.value;
  ends = c.in-Ok.ensures.ended;
  known = c.element_named.ensures;
  deeper = omega (arith, c.if-parent-eq0.false);
}

pub invariant_of-result : goal.invariant_of-result
invariant_of-result c = record {
  named = record { inside = c.in-Ok.ensures.value.named.run.inside; some = c.in-Ok.ensures.value.named.some };
}
