use Rattle.std.proofs.Common.{ap, sym, ◌-◌, ◌∙◌, []}
use Rattle.std.proofs.lemmas.Bool.{false≢true}
use Rattle.reply_xml.proofs.FaultLemmas.{IfOk-map, refused_past, refused_so}
use Rattle.reply_xml.proofs.LeafLemmas.{leaf_closed, leaf_no_closed, leaf_no_end, leaf_no_text, leaf_no_value, leaf_read}
use Rattle.reply_xml.specs.declared.faults.DocFault.TheVariants as fault
use Rattle.reply_xml.specs.Breaks.{InText, NoEndBehind, Unfit}
use Rattle.reply_xml.proofs.BreakLemmas.{broken_past, broken_so, text_closed, text_open}
use Rattle.reply_xml.proofs.reader.Reader.leaf_content.Goals as goal

pub returns-then-tag-clause-value : goal.returns-then-tag-clause-value
returns-then-tag-clause-value g c =
    IfOk-map c.value_of.result
    (λ value s. leaf_closed (g.L.Leaf.spells c.args.of) c.args.tag.now _ value c.if-tag.true s) c.value_of.ensures.value

pub returns-then-tag-clause-refused : goal.returns-then-tag-clause-refused
returns-then-tag-clause-refused g c =
    refused_so c.value_of.result (leaf_no_closed (g.L.Leaf.spells c.args.of) c.args.tag.now _ c.if-tag.true)
    c.value_of.ensures.refused

pub returns-then-tag-clause-broken : goal.returns-then-tag-clause-broken
returns-then-tag-clause-broken g c =
    broken_so c.value_of.result
    (λ reason u. Unfit [] _ (text_closed c.args.tag.now _ c.if-tag.true)
    (λ unclosed. absurd (false≢true (sym unclosed ∙ c.if-tag.true))) u)
    c.value_of.ensures.unfit

pub returns-in_err-text-clause-refused : goal.returns-in_err-text-clause-refused
returns-in_err-text-clause-refused g c =
    refused_past c.from_residual.result c.in_err-text.field-0.0 c.from_residual.ensures.1
    (leaf_no_text (g.L.Leaf.spells c.args.of) c.args.tag.now _ c.if-tag.false) c.in_err-text.ensures.refused

pub returns-in_err-text-clause-broken : goal.returns-in_err-text-clause-broken
returns-in_err-text-clause-broken g c =
    broken_past c.from_residual.result c.in_err-text.field-0.0 c.from_residual.ensures.1
    (λ reason t. InText c.if-tag.false t) c.in_err-text.ensures.broken

pub returns-in_err-value-clause-refused : goal.returns-in_err-value-clause-refused
returns-in_err-value-clause-refused g c =
    refused_past c.from_residual-in_err-value.result c.in_err-value.field-0.0 c.from_residual-in_err-value.ensures.1
    (leaf_no_value (g.L.Leaf.spells c.args.of) c.args.tag.now _ _ _ _ c.if-tag.false c.in_ok-text.ensures.value.1
    c.in_ok-text.ensures.value.2)
    c.in_err-value.ensures.refused

pub returns-in_err-value-clause-broken : goal.returns-in_err-value-clause-broken
returns-in_err-value-clause-broken g c =
    broken_past c.from_residual-in_err-value.result c.in_err-value.field-0.0 c.from_residual-in_err-value.ensures.1
    (λ reason u. Unfit _ _
    (text_open c.args.tag.now _ _ _ _ c.if-tag.false c.in_ok-text.ensures.value.1 c.in_ok-text.ensures.value.2)
    (λ unclosed. c.in_ok-text.ensures.followed) u)
    c.in_err-value.ensures.unfit

pub returns-in_err-end_tag-clause-refused : goal.returns-in_err-end_tag-clause-refused
returns-in_err-end_tag-clause-refused g c =
    refused_past c.from_residual-in_err-end_tag.result c.in_err-end_tag.field-0.0
    c.from_residual-in_err-end_tag.ensures.1
    (leaf_no_end (g.L.Leaf.spells c.args.of) c.args.tag.now _ _ _ c.if-tag.false c.in_ok-text.ensures.value.1)
    c.in_err-end_tag.ensures.refused

pub returns-in_err-end_tag-clause-broken : goal.returns-in_err-end_tag-clause-broken
returns-in_err-end_tag-clause-broken g c =
    broken_past c.from_residual-in_err-end_tag.result c.in_err-end_tag.field-0.0
    c.from_residual-in_err-end_tag.ensures.1
    (λ reason b. NoEndBehind _ _ _ b.0 c.if-tag.false c.in_ok-text.ensures.value.1 c.in_ok-text.ensures.value.2
    (g.met.L.Leaf.fits c.args.of _ _ c.in_ok-value.ensures.value) b.1
    (b.2 ∙ ap (λ s. fault.NotADocument (s - b.0)) c.in_ok-text.ensures.size))
    c.in_err-end_tag.ensures.broken

pub returns-clause-value : goal.returns-clause-value
returns-clause-value g c =
    leaf_read (g.L.Leaf.spells c.args.of) c.args.tag.now _ _ _ _ _ _ c.if-tag.false c.in_ok-text.ensures.value.1
    c.in_ok-text.ensures.value.2 c.in_ok-end_tag.ensures.value c.in_ok-value.ensures.value
