use Rattle.reply_xml.proofs.FaultLemmas.{OnOk-map, refused_so}
use Rattle.reply_xml.proofs.ContentLemmas.{closed_end, no_open_end, open_end}
use Rattle.reply_xml.specs.Breaks.{AtEndTag}
use Rattle.reply_xml.proofs.BreakLemmas.{broken_so}
use Rattle.reply_xml.proofs.reader.Reader.end.Goals as goal

pub returns-then-parent-clause-value : goal.returns-then-parent-clause-value
returns-then-parent-clause-value c before at = closed_end c.args.parent.now before _ c.if-parent.true at

pub returns-clause-value : goal.returns-clause-value
returns-clause-value c =
    OnOk-map c.end_tag.result (λ end before at. open_end c.args.parent.now before _ _ c.if-parent.false at end)
    c.end_tag.ensures.value

pub returns-clause-refused : goal.returns-clause-refused
returns-clause-refused c =
    refused_so c.end_tag.result
    (λ none before at inner rest r. no_open_end c.args.parent.now before _ rest inner c.if-parent.false at none r)
    c.end_tag.ensures.refused

pub returns-clause-broken : goal.returns-clause-broken
returns-clause-broken c =
    broken_so c.end_tag.result
    (λ reason b before at table front complete. AtEndTag _ b.0 c.if-parent.false at complete b.1 b.2)
    c.end_tag.ensures.broken
