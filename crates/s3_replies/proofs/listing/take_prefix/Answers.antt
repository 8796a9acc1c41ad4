use Rattle.reply_xml.proofs.FrontLemmas.{fresh_many}
use Rattle.std.proofs.Common.{refl}
use Rattle.s3_replies.specs.Listing.{SpellsPrefix, page_table, prefix_form}
use Rattle.reply_xml.specs.declared.elements.Element.TheVariants as element
use Rattle.reply_xml.specs.Children.{HasOnly}
use Rattle.reply_xml.specs.Contents.{named}
use Rattle.reply_xml.proofs.ChildLemmas.{leaf_same}
use Rattle.reply_xml.proofs.FaultLemmas.{refused_past}
use Rattle.s3_replies.proofs.EachLemmas.{each_advanced, each_stopped}
use Rattle.s3_replies.proofs.PlainLemmas.{SpellsPrefix-same}
use Rattle.reply_xml.proofs.BreakLemmas.{broken_past}
use Rattle.s3_replies.proofs.listing.take_prefix.Goals as goal

pub returns-in_err-row-clause-refused : goal.returns-in_err-row-clause-refused
returns-in_err-row-clause-refused c =
    refused_past c.from_residual.result c.in_err-row.field-0.0 c.from_residual.ensures.1
    (each_stopped (HasOnly (SpellsPrefix c.args.keys) element.Prefix) element.CommonPrefixes c.args.rows.now.items
    c.args.child.now c.args.reader.now.rest.now c.requires) c.in_err-row.ensures.refused

pub returns-clause-value : goal.returns-clause-value
returns-clause-value c =
    each_advanced (HasOnly (SpellsPrefix c.args.keys) element.Prefix) element.CommonPrefixes c.args.rows.now.items
    c.push.new.self.items c.args.child.now c.args.reader.now.rest.now c.read_prefix.new.reader.rest.now
    c.in_ok-row.row
    c.requires c.in-Ok.ensures.items (λ content v w. leaf_same (SpellsPrefix c.args.keys)
    (SpellsPrefix-same c.args.keys) (named element.Prefix content) v w) c.in_ok-row.ensures.value

pub returns-in_err-row-clause-broken : goal.returns-in_err-row-clause-broken
returns-in_err-row-clause-broken c =
    broken_past c.from_residual.result c.in_err-row.field-0.0 c.from_residual.ensures.1 (
    λ reason b key front. b (page_table key (prefix_form c.args.keys)) front element.CommonPrefixes
    (record { same = c.requires; read_so = refl })
    (fresh_many (page_table key (prefix_form c.args.keys)) front c.args.child.now.element element.CommonPrefixes
    c.requires refl)
    ) c.in_err-row.ensures.broken

pub returns-clause-well : goal.returns-clause-well
returns-clause-well c key front =
    c.in_ok-row.ensures.well (page_table key (prefix_form c.args.keys)) front element.CommonPrefixes
    (record { same = c.requires; read_so = refl })
    (fresh_many (page_table key (prefix_form c.args.keys)) front c.args.child.now.element element.CommonPrefixes
    c.requires refl)
