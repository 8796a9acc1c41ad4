use Rattle.reply_xml.proofs.FaultLemmas.{IfOk-map, refused_so}
use Rattle.s3_replies.specs.Listing.{SpellsKey, SpellsPrefix}
use Rattle.s3_replies.proofs.PageLemmas.{page_started}
use Rattle.s3_replies.proofs.listing.written_page.Goals as goal

pub returns-clause-value : goal.returns-clause-value
returns-clause-value c =
    IfOk-map c.inside.result
    (λ page holds. (page_started (SpellsKey c.args.keys) (SpellsPrefix c.args.keys) c.new.result.items
    c.new-2.result.items c.args.root.now c.args.reader.now.rest.now _ page c.new.ensures.items
    c.new-2.ensures.items).1 holds)
    c.inside.ensures.value

pub returns-clause-refused : goal.returns-clause-refused
returns-clause-refused c =
    refused_so c.inside.result
    (λ none rest page holds. none rest page
    ((page_started (SpellsKey c.args.keys) (SpellsPrefix c.args.keys) c.new.result.items c.new-2.result.items
    c.args.root.now c.args.reader.now.rest.now rest page c.new.ensures.items c.new-2.ensures.items).0 holds))
    c.inside.ensures.refused
