use Rattle.reply_xml.proofs.FaultLemmas.{OnOk-map, refused_past, refused_so}
use Rattle.reply_xml.proofs.OpenLemmas.{element_of, inner_of}
use Rattle.reply_xml.specs.Breaks.{BehindName, BehindOtherTag}
use Rattle.reply_xml.proofs.BreakLemmas.{broken_past, broken_so, sized}
use Rattle.reply_xml.proofs.FrontLemmas.{fresh_outside}
use Rattle.reply_xml.proofs.reader.Reader.skip.Goals as goal

pub returns-in_err-tag-clause-refused : goal.returns-in_err-tag-clause-refused
returns-in_err-tag-clause-refused c =
    refused_past c.from_residual.result c.in_err-tag.field-0.0 c.from_residual.ensures.1
    (λ none rest s. none s.1.0 s.1.1 s.1.2) c.in_err-tag.ensures.refused

pub returns-clause-value : goal.returns-clause-value
returns-clause-value c =
    OnOk-map c.skip_content.result
    (λ s. (s.0, element_of c.args.child.now c.in_ok-tag.tag s.0 _ _ _ c.in_ok-tag.ensures.value s.1))
    c.skip_content.ensures.value

pub returns-clause-refused : goal.returns-clause-refused
returns-clause-refused c =
    refused_so c.skip_content.result
    (λ none rest s. none rest
    (s.0, inner_of c.args.child.now c.in_ok-tag.tag s.0 _ _ rest c.in_ok-tag.ensures.value s.1))
    c.skip_content.ensures.refused

pub returns-in_err-tag-clause-broken : goal.returns-in_err-tag-clause-broken
returns-in_err-tag-clause-broken c =
    broken_past c.from_residual.result c.in_err-tag.field-0.0 c.from_residual.ensures.1
    (λ reason t table front outside. BehindName t.0 (fresh_outside table front c.args.child.now.element outside) t.1
    t.2) c.in_err-tag.ensures.broken

pub returns-clause-broken : goal.returns-clause-broken
returns-clause-broken c =
    broken_so c.skip_content.result
    (λ reason b table front outside. BehindOtherTag c.in_ok-tag.tag _ c.in_ok-tag.ensures.value outside
    (sized _ _ reason _ _ _ _ c.in_ok-tag.ensures.size b))
    c.skip_content.ensures.broken
