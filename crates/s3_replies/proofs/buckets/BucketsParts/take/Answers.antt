use Rattle.reply_xml.specs.Fits.{Passed}
use Rattle.reply_xml.proofs.FrontLemmas.{fresh_many}
use Rattle.std.proofs.Common.{[], ◌∙◌, refl, sym}
use Rattle.s3_model.specs.Lists.{Reserved}
use Rattle.s3_model.specs.declared.places.Entry.{Entry}
use Rattle.reply_xml.specs.declared.elements.Element.TheVariants as element
use Rattle.s3_replies.specs.Buckets.{BucketsLeft, HasBucket, buckets_table}
use Rattle.reply_xml.proofs.FaultLemmas.{OnOk-map, refused_past, refused_so}
use Rattle.reply_xml.proofs.TakeLemmas.{part_advanced, part_stopped, stops_there}
use Rattle.s3_replies.proofs.EachLemmas.{each_advanced, each_stopped}
use Rattle.s3_replies.proofs.BucketLemmas.{HasBucket-same, bucket_closed, bucket_opened}
use Rattle.reply_xml.proofs.BreakLemmas.{broken_past, broken_so}
use Rattle.s3_replies.proofs.buckets.BucketsParts.take.Goals as goal

pub returns-then-not-is_the-clause-refused : goal.returns-then-not-is_the-clause-refused
returns-then-not-is_the-clause-refused c =
    refused_so c.skip.result (stops_there
    (λ content (rows : Reserved Entry). BucketsLeft c.args.self.now.rows.items content rows.items) c.args.child.now
    c.args.reader.now.rest.now) c.skip.ensures.refused

pub returns-in_err-key-clause-refused : goal.returns-in_err-key-clause-refused
returns-in_err-key-clause-refused c =
    refused_past c.from_residual.result c.in_err-key.field-0.0 c.from_residual.ensures.1
    (
    λ none. part_stopped (λ (rows : Reserved Entry). rows.items)
    (BucketsLeft c.args.self.now.rows.items) c.args.child.now c.args.reader.now.rest.now
    (each_stopped HasBucket element.Bucket c.args.self.now.rows.items c.args.child.now c.args.reader.now.rest.now
    (sym c.is_the.ensures ∙ c.if-not-is_the.false)
    (λ rest entry r. none rest (entry.key, entry.micros)
    (bucket_opened c.args.child.now c.args.reader.now.rest.now rest entry r)))
    )
    c.in_err-key.ensures.refused

pub returns-clause-value : goal.returns-clause-value
returns-clause-value c =
    let row : Entry = record { key = c.in_ok-key.key; size = 0; etag = []; micros = c.in_ok-key.micros } in
    OnOk-map c.push_bucket.result (λ pushed.
    part_advanced (λ (rows : Reserved Entry). rows.items) (BucketsLeft c.args.self.now.rows.items)
    (BucketsLeft c.push_bucket.new.rows.items) c.args.child.now c.args.reader.now.rest.now c.element.new.self.rest.now
    (each_advanced HasBucket element.Bucket c.args.self.now.rows.items c.push_bucket.new.rows.items c.args.child.now
    c.args.reader.now.rest.now c.element.new.self.rest.now row
    (sym c.is_the.ensures ∙ c.if-not-is_the.false) pushed HasBucket-same
    (bucket_closed c.args.child.now c.args.reader.now.rest.now c.element.new.self.rest.now row refl refl
    c.in_ok-key.ensures.value))) c.push_bucket.ensures.items

pub returns-clause-refused : goal.returns-clause-refused
returns-clause-refused c = refused_so c.push_bucket.result (λ never. absurd never) c.push_bucket.ensures.memory

pub returns-clause-known : goal.returns-clause-known
returns-clause-known c = OnOk-map c.push_bucket.result (λ pushed front found. tt) c.push_bucket.ensures.items

pub returns-clause-broken : goal.returns-clause-broken
returns-clause-broken c =
    broken_so c.push_bucket.result (λ reason never front found. absurd never) c.push_bucket.ensures.unbroken

pub returns-in_err-key-clause-broken : goal.returns-in_err-key-clause-broken
returns-in_err-key-clause-broken c =
    broken_past c.from_residual.result c.in_err-key.field-0.0 c.from_residual.ensures.1 (
    λ reason b front found. b buckets_table front element.Bucket
    (record { same = sym c.is_the.ensures ∙ c.if-not-is_the.false; read_so = refl })
    (fresh_many buckets_table front c.args.child.now.element element.Bucket
    (sym c.is_the.ensures ∙ c.if-not-is_the.false) refl)
    ) c.in_err-key.ensures.broken

pub returns-then-not-is_the-clause-broken : goal.returns-then-not-is_the-clause-broken
returns-then-not-is_the-clause-broken c =
    broken_so c.skip.result (λ reason b front found. b buckets_table front
    (sym c.is_the.ensures ∙ c.if-not-is_the.true, tt)) c.skip.ensures.broken

pub returns-then-not-is_the-clause-known : goal.returns-then-not-is_the-clause-known
returns-then-not-is_the-clause-known c = OnOk-map c.skip.result (λ read front found. tt) c.skip.ensures.value

pub returns-then-not-is_the-clause-well : goal.returns-then-not-is_the-clause-well
returns-then-not-is_the-clause-well c =
    OnOk-map c.skip.result (λ read front found.
    (read.0, read.1, Passed (sym c.is_the.ensures ∙ c.if-not-is_the.true, tt))) c.skip.ensures.value

pub returns-clause-well : goal.returns-clause-well
returns-clause-well c =
    OnOk-map c.push_bucket.result (λ pushed front found.
    c.in_ok-key.ensures.well buckets_table front element.Bucket
    (record { same = sym c.is_the.ensures ∙ c.if-not-is_the.false; read_so = refl })
    (fresh_many buckets_table front c.args.child.now.element element.Bucket
    (sym c.is_the.ensures ∙ c.if-not-is_the.false) refl)) c.push_bucket.ensures.items
