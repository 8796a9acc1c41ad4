use Rattle.reply_xml.proofs.FaultLemmas.{IfOk-map, refused_past, refused_so}
use Rattle.reply_xml.proofs.LeafLemmas.{leaf_no_tag}
use Rattle.reply_xml.proofs.OpenLemmas.{element_of, inner_of}
use Rattle.reply_xml.specs.Children.{IsLeafOf}
use Rattle.reply_xml.specs.Breaks.{BehindLeafTag, BehindName}
use Rattle.reply_xml.proofs.BreakLemmas.{broken_past, broken_so, leaf_sized}
use Rattle.reply_xml.proofs.reader.Reader.leaf.Goals as goal

pub returns-in_err-tag-clause-refused : goal.returns-in_err-tag-clause-refused
returns-in_err-tag-clause-refused g c =
    refused_past c.from_residual.result c.in_err-tag.field-0.0 c.from_residual.ensures.1
    (leaf_no_tag (IsLeafOf (g.L.Leaf.spells c.args.of)) c.args.child.now c.args.self.now.rest.now)
    c.in_err-tag.ensures.refused

pub returns-in_err-tag-clause-broken : goal.returns-in_err-tag-clause-broken
returns-in_err-tag-clause-broken g c =
    broken_past c.from_residual.result c.in_err-tag.field-0.0 c.from_residual.ensures.1
    (λ reason t table front form fresh. BehindName t.0 fresh t.1 t.2) c.in_err-tag.ensures.broken

pub returns-clause-value : goal.returns-clause-value
returns-clause-value g c =
    IfOk-map c.leaf_content.result
    (λ value s. (s.0, element_of c.args.child.now c.in_ok-tag.tag s.0 _ _ _ c.in_ok-tag.ensures.value s.1, s.2))
    c.leaf_content.ensures.value

pub returns-clause-refused : goal.returns-clause-refused
returns-clause-refused g c =
    refused_so c.leaf_content.result
    (λ none rest value s. none rest value
    (s.0, inner_of c.args.child.now c.in_ok-tag.tag s.0 _ _ rest c.in_ok-tag.ensures.value s.1, s.2))
    c.leaf_content.ensures.refused

pub returns-clause-broken : goal.returns-clause-broken
returns-clause-broken g c =
    broken_so c.leaf_content.result
    (λ reason b table front form fresh. BehindLeafTag c.in_ok-tag.tag _ c.args.of _ fresh c.in_ok-tag.ensures.value
    (record { same = c.requires; read_so = form }) (leaf_sized _ _ reason _ _ _ _ c.in_ok-tag.ensures.size b))
    c.leaf_content.ensures.broken
