use Rattle.reply_xml.specs.Fits.{Passed}
use Rattle.reply_xml.proofs.FrontLemmas.{fresh_none}
use Rattle.reply_xml.specs.Breaks.{StandsAgain}
use Rattle.std.proofs.Common.{◌∙◌, Some, refl, sym}
use Rattle.s3_model.specs.Lists.{Reserved}
use Rattle.s3_model.specs.declared.places.Entry.{Entry}
use Rattle.s3_replies.specs.Buckets.{HasBucket, ListLeft, bucket_list_table}
use Rattle.reply_xml.specs.declared.elements.Element.TheVariants as element
use Rattle.reply_xml.proofs.FaultLemmas.{OnOk-map, refused_past, refused_so}
use Rattle.reply_xml.proofs.TakeLemmas.{part_advanced, part_stopped, stops_there}
use Rattle.s3_replies.proofs.EachLemmas.{each_started}
use Rattle.s3_replies.proofs.BucketLemmas.{list_advanced, list_stopped}
use Rattle.reply_xml.proofs.BreakLemmas.{broken_past, broken_so}
use Rattle.reply_xml.proofs.FrontLemmas.{found_past, stood_here}
use Rattle.s3_replies.proofs.buckets.BucketListParts.take.Goals as goal

pub returns-then-not-is_the-clause-refused : goal.returns-then-not-is_the-clause-refused
returns-then-not-is_the-clause-refused c =
    refused_so c.skip.result (stops_there
    (λ content (rows : Reserved Entry). ListLeft c.args.self.now.found content rows.items) c.args.child.now
    c.args.reader.now.rest.now) c.skip.ensures.refused

pub returns-in_err-element-clause-refused : goal.returns-in_err-element-clause-refused
returns-in_err-element-clause-refused c =
    refused_past c.from_residual.result c.in_err-element.field-0.0 c.from_residual.ensures.1
    (
    λ none. part_stopped (λ (rows : Reserved Entry). rows.items)
    (ListLeft c.args.self.now.found) c.args.child.now c.args.reader.now.rest.now
    (list_stopped c.args.self.now.found c.args.child.now c.args.reader.now.rest.now
    (sym c.is_some.ensures ∙ c.if-is_some.false) (sym c.is_the.ensures ∙ c.if-not-is_the.false)
    (
    λ rest entries r. let rows : Reserved Entry = record { items = entries; spare = 0 } in
    none rest rows ((each_started HasBucket element.Bucket c.make.result.items c.args.child.now
    c.args.reader.now.rest.now rest entries c.make.ensures).0 r)
    ))
    )
    c.in_err-element.ensures.refused

pub returns-clause-value : goal.returns-clause-value
returns-clause-value c =
    part_advanced (λ (rows : Reserved Entry). rows.items) (ListLeft c.args.self.now.found)
    (ListLeft (Some c.in_ok-element.field-0)) c.args.child.now c.args.reader.now.rest.now
    c.element.new.self.rest.now
    (list_advanced c.args.self.now.found c.in_ok-element.field-0 c.args.child.now c.args.reader.now.rest.now
    c.element.new.self.rest.now (sym c.is_some.ensures ∙ c.if-is_some.false)
    (sym c.is_the.ensures ∙ c.if-not-is_the.false)
    (
    (each_started HasBucket element.Bucket c.make.result.items c.args.child.now c.args.reader.now.rest.now
    c.element.new.self.rest.now c.in_ok-element.field-0.items c.make.ensures).1
    c.in_ok-element.ensures.value
    ))

pub returns-in_err-element-clause-broken : goal.returns-in_err-element-clause-broken
returns-in_err-element-clause-broken c =
    broken_past c.from_residual.result c.in_err-element.field-0.0 c.from_residual.ensures.1 (
    λ reason b front found. b bucket_list_table front element.Buckets
    (record { same = sym c.is_the.ensures ∙ c.if-not-is_the.false; read_so = refl })
    (fresh_none bucket_list_table front c.args.child.now.element element.Buckets
    (sym c.is_the.ensures ∙ c.if-not-is_the.false)
    (sym (sym c.is_some.ensures ∙ c.if-is_some.false) ∙ found))
    ) c.in_err-element.ensures.broken

pub returns-then-not-is_the-clause-broken : goal.returns-then-not-is_the-clause-broken
returns-then-not-is_the-clause-broken c =
    broken_so c.skip.result (λ reason b front found. b bucket_list_table front
    (sym c.is_the.ensures ∙ c.if-not-is_the.true, tt)) c.skip.ensures.broken

pub returns-then-not-is_the-clause-known : goal.returns-then-not-is_the-clause-known
returns-then-not-is_the-clause-known c =
    OnOk-map c.skip.result
    (λ read front found. found_past element.Buckets c.args.self.now.found c.args.child.now.element front
    (sym c.is_the.ensures ∙ c.if-not-is_the.true) found)
    c.skip.ensures.value

pub returns-then-is_some-clause-broken : goal.returns-then-is_some-clause-broken
returns-then-is_some-clause-broken c front found =
    StandsAgain element.Buckets
    (record {
      same = sym c.is_the.ensures ∙ c.if-not-is_the.false;
      alone = refl;
      before = sym found
          ∙ (sym c.is_some.ensures ∙ c.if-is_some.true);
    }) refl

pub returns-clause-known : goal.returns-clause-known
returns-clause-known c front found = stood_here element.Buckets c.args.child.now.element front
    (sym c.is_the.ensures ∙ c.if-not-is_the.false)

pub returns-then-not-is_the-clause-well : goal.returns-then-not-is_the-clause-well
returns-then-not-is_the-clause-well c =
    OnOk-map c.skip.result (λ read front found.
    (read.0, read.1, Passed (sym c.is_the.ensures ∙ c.if-not-is_the.true, tt))) c.skip.ensures.value

pub returns-clause-well : goal.returns-clause-well
returns-clause-well c front found =
    c.in_ok-element.ensures.well bucket_list_table front element.Buckets
    (record { same = sym c.is_the.ensures ∙ c.if-not-is_the.false; read_so = refl })
    (fresh_none bucket_list_table front c.args.child.now.element element.Buckets
    (sym c.is_the.ensures ∙ c.if-not-is_the.false)
    (sym (sym c.is_some.ensures ∙ c.if-is_some.false) ∙ found))

pub returns-then-is_some-clause-value : goal.returns-then-is_some-clause-value
returns-then-is_some-clause-value c = tt

pub returns-then-is_some-clause-known : goal.returns-then-is_some-clause-known
returns-then-is_some-clause-known c = tt

pub returns-then-is_some-clause-well : goal.returns-then-is_some-clause-well
returns-then-is_some-clause-well c = tt
