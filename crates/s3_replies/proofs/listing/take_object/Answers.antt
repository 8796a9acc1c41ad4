use Rattle.reply_xml.proofs.FrontLemmas.{fresh_many}
use Rattle.std.proofs.Common.{refl}
use Rattle.reply_xml.specs.declared.elements.Element.TheVariants as element
use Rattle.s3_replies.specs.Listing.{HasObjectBy, SpellsKey, key_form, page_table}
use Rattle.reply_xml.proofs.FaultLemmas.{refused_past}
use Rattle.s3_replies.proofs.EachLemmas.{each_advanced, each_stopped}
use Rattle.s3_replies.proofs.ObjectLemmas.{HasObject-same, object_closed, object_opened}
use Rattle.reply_xml.proofs.BreakLemmas.{broken_past}
use Rattle.s3_replies.proofs.PlainLemmas.{SpellsKey-same}
use Rattle.s3_replies.proofs.listing.take_object.Goals as goal

pub returns-in_err-row-clause-refused : goal.returns-in_err-row-clause-refused
returns-in_err-row-clause-refused c =
    refused_past c.from_residual.result c.in_err-row.field-0.0 c.from_residual.ensures.1
    (
    λ none. each_stopped (HasObjectBy (SpellsKey c.args.keys)) element.Contents c.args.rows.now.items c.args.child.now
    c.args.reader.now.rest.now c.requires
    (λ rest entry r. none rest entry (object_opened (SpellsKey c.args.keys) c.args.child.now c.args.reader.now.rest.now
    rest entry r))
    ) c.in_err-row.ensures.refused

pub returns-clause-value : goal.returns-clause-value
returns-clause-value c =
    each_advanced (HasObjectBy (SpellsKey c.args.keys)) element.Contents c.args.rows.now.items c.push.new.self.items
    c.args.child.now c.args.reader.now.rest.now c.element.new.self.rest.now c.in_ok-row.row
    c.requires c.in-Ok.ensures.items (HasObject-same (SpellsKey c.args.keys) (SpellsKey-same c.args.keys))
    (object_closed (SpellsKey c.args.keys) c.args.child.now c.args.reader.now.rest.now c.element.new.self.rest.now
    c.in_ok-row.row c.in_ok-row.ensures.value)

pub returns-in_err-row-clause-broken : goal.returns-in_err-row-clause-broken
returns-in_err-row-clause-broken c =
    broken_past c.from_residual.result c.in_err-row.field-0.0 c.from_residual.ensures.1 (
    λ reason b prefix front. b (page_table (key_form c.args.keys) prefix) front element.Contents
    (record { same = c.requires; read_so = refl })
    (fresh_many (page_table (key_form c.args.keys) prefix) front c.args.child.now.element element.Contents c.requires
    refl)
    ) c.in_err-row.ensures.broken

pub returns-clause-well : goal.returns-clause-well
returns-clause-well c prefix front =
    c.in_ok-row.ensures.well (page_table (key_form c.args.keys) prefix) front element.Contents
    (record { same = c.requires; read_so = refl })
    (fresh_many (page_table (key_form c.args.keys) prefix) front c.args.child.now.element element.Contents c.requires
    refl)
