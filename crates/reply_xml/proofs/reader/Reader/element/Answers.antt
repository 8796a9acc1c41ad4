use Rattle.reply_xml.proofs.FaultLemmas.{IfOk-map, OnOk-map, refused_past, refused_so}
use Rattle.reply_xml.specs.Fits.{IsParent}
use Rattle.reply_xml.proofs.LeafLemmas.{leaf_no_tag}
use Rattle.reply_xml.proofs.OpenLemmas.{element_of, inner_of}
use Rattle.reply_xml.specs.Breaks.{BehindName, BehindTag}
use Rattle.reply_xml.proofs.BreakLemmas.{broken_past, broken_so, sized}
use Rattle.reply_xml.proofs.reader.Reader.element.Goals as goal

pub returns-in_err-tag-clause-refused : goal.returns-in_err-tag-clause-refused
returns-in_err-tag-clause-refused g c =
    refused_past c.from_residual.result c.in_err-tag.field-0.0 c.from_residual.ensures.1
    (leaf_no_tag (g.P.Parts.left c.args.parts) c.args.child.now c.args.self.now.rest.now) c.in_err-tag.ensures.refused

pub returns-clause-value : goal.returns-clause-value
returns-clause-value g c =
    IfOk-map c.inside.result
    (λ whole s. (s.0, element_of c.args.child.now c.in_ok-tag.tag s.0 _ _ _ c.in_ok-tag.ensures.value s.1, s.2))
    c.inside.ensures.value

pub returns-clause-refused : goal.returns-clause-refused
returns-clause-refused g c =
    refused_so c.inside.result
    (λ none rest whole s. none rest whole
    (s.0, inner_of c.args.child.now c.in_ok-tag.tag s.0 _ _ rest c.in_ok-tag.ensures.value s.1, s.2))
    c.inside.ensures.refused

pub returns-in_err-tag-clause-broken : goal.returns-in_err-tag-clause-broken
returns-in_err-tag-clause-broken g c =
    broken_past c.from_residual.result c.in_err-tag.field-0.0 c.from_residual.ensures.1
    (λ reason t table front of parent fresh. BehindName t.0 fresh t.1 t.2) c.in_err-tag.ensures.broken

pub returns-clause-broken : goal.returns-clause-broken
returns-clause-broken g c =
    broken_so c.inside.result (
    λ reason b table front of parent fresh. BehindTag c.in_ok-tag.tag of _ _ fresh c.in_ok-tag.ensures.value parent
    (sized _ _ reason _ _ _ _ c.in_ok-tag.ensures.size b)
    )
    c.inside.ensures.broken

pub returns-clause-well : goal.returns-clause-well
returns-clause-well g c =
    OnOk-map c.inside.result
    (
    λ held table front of parent fresh. (
      held.0,
      element_of c.args.child.now c.in_ok-tag.tag held.0 _ _ _ c.in_ok-tag.ensures.value held.1,
      IsParent of _ fresh parent held.2,
    )
    )
    c.inside.ensures.well
