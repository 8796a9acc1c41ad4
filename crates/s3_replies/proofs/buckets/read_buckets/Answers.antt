use Rattle.std.proofs.Common.{None, codes}
use Rattle.reply_xml.specs.Contents.{Content}
use Rattle.s3_model.specs.Lists.{Reserved}
use Rattle.s3_model.specs.declared.places.Entry.{Entry}
use Rattle.reply_xml.proofs.FaultLemmas.{refused_so}
use Rattle.reply_xml.proofs.WholeLemmas.{behind_map}
use Rattle.s3_replies.specs.Buckets.{HasBuckets, ListLeft}
use Rattle.s3_replies.proofs.buckets.read_buckets.Goals as goal

pub returns-clause-refused : goal.returns-clause-refused
returns-clause-refused c =
    refused_so c.read_document.result (λ none entries r. let rows : Reserved Entry =
    record { items = entries; spare = 0 } in none rows r) c.read_document.ensures.refused

pub returns-clause-behind : goal.returns-clause-behind
returns-clause-behind c place b =
    c.read_document.ensures.behind place
    (
    behind_map HasBuckets (λ (content : Content) (rows : Reserved Entry). ListLeft None content rows.items)
    (codes "ListAllMyBucketsResult") c.args.doc.now place
    (λ content entries m. let rows : Reserved Entry = record { items = entries; spare = 0 } in (rows, m)) b
    )
