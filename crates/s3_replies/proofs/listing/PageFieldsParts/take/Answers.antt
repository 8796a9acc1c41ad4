use Rattle.reply_xml.specs.Fits.{Passed}
use Rattle.std.proofs.Common.{refl}
use Rattle.reply_xml.proofs.ChildLemmas.{is_other}
use Rattle.reply_xml.proofs.BreakLemmas.{broken_so}
use Rattle.reply_xml.proofs.FrontLemmas.{found_here, found_past, stood_here, stood_past}
use Rattle.std.proofs.Common.{◌∙◌, sym}
use Rattle.reply_xml.specs.declared.elements.Element.TheVariants as element
use Rattle.reply_xml.specs.Children.{IsFormed}
use Rattle.s3_replies.specs.Listing.{PageLeft, SpellsKey, SpellsPrefix, key_form, page_table, prefix_form}
use Rattle.reply_xml.proofs.FaultLemmas.{refused_so, OnOk-map, OnOk-all}
use Rattle.reply_xml.proofs.TakeLemmas.{stops_there, at_most_advanced, at_most_stopped}
use Rattle.s3_replies.proofs.PageLemmas.{entries_advanced, entries_stopped, prefixes_advanced, prefixes_stopped}
use Rattle.s3_replies.proofs.PageLemmas.{more_advanced, more_stopped, token_advanced, token_stopped, url_advanced}
use Rattle.s3_replies.proofs.PageLemmas.{url_stopped, page_skipped}
use Rattle.s3_replies.proofs.listing.PageFieldsParts.take.Goals as goal

pub returns-then-is_the-clause-value : goal.returns-then-is_the-clause-value
returns-then-is_the-clause-value c =
    OnOk-map c.take_object.result (entries_advanced (SpellsKey c.args.self.now.keys)
    (SpellsPrefix c.args.self.now.keys) c.args.self.now.more c.args.self.now.token c.args.self.now.url
    c.args.self.now.entries.items c.args.self.now.prefixes.items _ c.args.child.now c.args.reader.now.rest.now _
    (sym c.is_the.ensures ∙ c.if-is_the.true)) c.take_object.ensures.value

pub returns-then-is_the-clause-refused : goal.returns-then-is_the-clause-refused
returns-then-is_the-clause-refused c =
    refused_so c.take_object.result (entries_stopped (SpellsKey c.args.self.now.keys)
    (SpellsPrefix c.args.self.now.keys) c.args.self.now.more c.args.self.now.token c.args.self.now.url
    c.args.self.now.entries.items c.args.self.now.prefixes.items c.args.child.now c.args.reader.now.rest.now)
    c.take_object.ensures.refused

pub returns-then-is_the-2-clause-value : goal.returns-then-is_the-2-clause-value
returns-then-is_the-2-clause-value c =
    OnOk-map c.take_prefix.result (prefixes_advanced (SpellsKey c.args.self.now.keys)
    (SpellsPrefix c.args.self.now.keys) c.args.self.now.more c.args.self.now.token c.args.self.now.url
    c.args.self.now.entries.items c.args.self.now.prefixes.items _ c.args.child.now c.args.reader.now.rest.now _
    (sym c.is_the-2.ensures ∙ c.if-is_the-2.true)) c.take_prefix.ensures.value

pub returns-then-is_the-2-clause-refused : goal.returns-then-is_the-2-clause-refused
returns-then-is_the-2-clause-refused c =
    refused_so c.take_prefix.result (prefixes_stopped (SpellsKey c.args.self.now.keys)
    (SpellsPrefix c.args.self.now.keys) c.args.self.now.more c.args.self.now.token c.args.self.now.url
    c.args.self.now.entries.items c.args.self.now.prefixes.items c.args.child.now c.args.reader.now.rest.now)
    c.take_prefix.ensures.refused

pub returns-then-is_the-3-clause-value : goal.returns-then-is_the-3-clause-value
returns-then-is_the-3-clause-value c =
    OnOk-map c.take.result (more_advanced (SpellsKey c.args.self.now.keys)
    (SpellsPrefix c.args.self.now.keys) c.args.self.now.more c.args.self.now.token c.args.self.now.url
    c.args.self.now.entries.items c.args.self.now.prefixes.items _ c.args.child.now c.args.reader.now.rest.now _
    (sym c.is_the-3.ensures ∙ c.if-is_the-3.true)) c.take.ensures.value

pub returns-then-is_the-3-clause-refused : goal.returns-then-is_the-3-clause-refused
returns-then-is_the-3-clause-refused c =
    refused_so c.take.result (more_stopped (SpellsKey c.args.self.now.keys)
    (SpellsPrefix c.args.self.now.keys) c.args.self.now.more c.args.self.now.token c.args.self.now.url
    c.args.self.now.entries.items c.args.self.now.prefixes.items c.args.child.now c.args.reader.now.rest.now)
    c.take.ensures.refused

pub returns-then-is_the-4-clause-value : goal.returns-then-is_the-4-clause-value
returns-then-is_the-4-clause-value c =
    OnOk-all c.take-then-is_the-4.result
    (
    λ a e s. token_advanced (SpellsKey c.args.self.now.keys)
    (SpellsPrefix c.args.self.now.keys) c.args.self.now.more c.args.self.now.token c.args.self.now.url
    c.args.self.now.entries.items c.args.self.now.prefixes.items c.take-then-is_the-4.new.found c.args.child.now
    c.args.reader.now.rest.now c.take-then-is_the-4.new.self.rest.now (sym c.is_the-4.ensures ∙ c.if-is_the-4.true)
    (at_most_advanced (IsFormed element.NextContinuationToken) element.NextContinuationToken c.args.self.now.token
    c.take-then-is_the-4.new.found c.args.child.now c.args.reader.now.rest.now
    c.take-then-is_the-4.new.self.rest.now (sym c.is_the-4.ensures ∙ c.if-is_the-4.true) e s a)
    )
    c.take-then-is_the-4.ensures.value c.take-then-is_the-4.ensures.first c.take-then-is_the-4.ensures.some

pub returns-then-is_the-4-clause-refused : goal.returns-then-is_the-4-clause-refused
returns-then-is_the-4-clause-refused c =
    refused_so c.take-then-is_the-4.result
    (λ s. token_stopped (SpellsKey c.args.self.now.keys) (SpellsPrefix c.args.self.now.keys) c.args.self.now.more
    c.args.self.now.token c.args.self.now.url c.args.self.now.entries.items c.args.self.now.prefixes.items
    c.args.child.now c.args.reader.now.rest.now
    (at_most_stopped (IsFormed element.NextContinuationToken) element.NextContinuationToken c.args.self.now.token
    c.args.child.now c.args.reader.now.rest.now (sym c.is_the-4.ensures ∙ c.if-is_the-4.true) s))
    c.take-then-is_the-4.ensures.refused

pub returns-then-is_the-5-clause-value : goal.returns-then-is_the-5-clause-value
returns-then-is_the-5-clause-value c =
    OnOk-map c.take_encoding.result (url_advanced (SpellsKey c.args.self.now.keys)
    (SpellsPrefix c.args.self.now.keys) c.args.self.now.more c.args.self.now.token c.args.self.now.url
    c.args.self.now.entries.items c.args.self.now.prefixes.items _ c.args.child.now c.args.reader.now.rest.now _
    (sym c.is_the-5.ensures ∙ c.if-is_the-5.true)) c.take_encoding.ensures.value

pub returns-then-is_the-5-clause-refused : goal.returns-then-is_the-5-clause-refused
returns-then-is_the-5-clause-refused c =
    refused_so c.take_encoding.result (url_stopped (SpellsKey c.args.self.now.keys)
    (SpellsPrefix c.args.self.now.keys) c.args.self.now.more c.args.self.now.token c.args.self.now.url
    c.args.self.now.entries.items c.args.self.now.prefixes.items c.args.child.now c.args.reader.now.rest.now)
    c.take_encoding.ensures.refused

pub returns-clause-value : goal.returns-clause-value
returns-clause-value c = OnOk-map c.skip.result
    (page_skipped (SpellsKey c.args.self.now.keys) (SpellsPrefix c.args.self.now.keys) c.args.self.now.more
    c.args.self.now.token c.args.self.now.url c.args.self.now.entries.items c.args.self.now.prefixes.items
    c.args.child.now c.args.reader.now.rest.now _ (sym c.is_the-3.ensures ∙ c.if-is_the-3.false)
    (sym c.is_the-4.ensures ∙ c.if-is_the-4.false) (sym c.is_the-5.ensures ∙ c.if-is_the-5.false)
    (sym c.is_the.ensures ∙ c.if-is_the.false) (sym c.is_the-2.ensures ∙ c.if-is_the-2.false)) c.skip.ensures.value

pub returns-clause-refused : goal.returns-clause-refused
returns-clause-refused c = refused_so c.skip.result
    (stops_there (PageLeft (SpellsKey c.args.self.now.keys)
    (SpellsPrefix c.args.self.now.keys) c.args.self.now.more c.args.self.now.token c.args.self.now.url
    c.args.self.now.entries.items c.args.self.now.prefixes.items) c.args.child.now c.args.reader.now.rest.now)
    c.skip.ensures.refused

pub returns-then-is_the-clause-known : goal.returns-then-is_the-clause-known
returns-then-is_the-clause-known c =
    OnOk-map c.take_object.result
    (
    λ read front found. (
      found_past element.IsTruncated c.args.self.now.more c.args.child.now.element front
          (is_other element.Contents element.IsTruncated c.args.child.now.element
          (sym c.is_the.ensures ∙ c.if-is_the.true) refl) found.0,
      found_past element.NextContinuationToken c.args.self.now.token c.args.child.now.element front
          (is_other element.Contents element.NextContinuationToken c.args.child.now.element
          (sym c.is_the.ensures ∙ c.if-is_the.true) refl) found.1,
      stood_past element.EncodingType c.args.self.now.url c.args.child.now.element front
          (is_other element.Contents element.EncodingType c.args.child.now.element
          (sym c.is_the.ensures ∙ c.if-is_the.true) refl) found.2,
    )
    )
    c.take_object.ensures.value

pub returns-then-is_the-clause-broken : goal.returns-then-is_the-clause-broken
returns-then-is_the-clause-broken c = broken_so c.take_object.result
    (λ reason b front found. b _ front) c.take_object.ensures.broken

pub returns-then-is_the-2-clause-known : goal.returns-then-is_the-2-clause-known
returns-then-is_the-2-clause-known c =
    OnOk-map c.take_prefix.result
    (
    λ read front found. (
      found_past element.IsTruncated c.args.self.now.more c.args.child.now.element front
          (is_other element.CommonPrefixes element.IsTruncated c.args.child.now.element
          (sym c.is_the-2.ensures ∙ c.if-is_the-2.true) refl) found.0,
      found_past element.NextContinuationToken c.args.self.now.token c.args.child.now.element front
          (is_other element.CommonPrefixes element.NextContinuationToken c.args.child.now.element
          (sym c.is_the-2.ensures ∙ c.if-is_the-2.true) refl) found.1,
      stood_past element.EncodingType c.args.self.now.url c.args.child.now.element front
          (is_other element.CommonPrefixes element.EncodingType c.args.child.now.element
          (sym c.is_the-2.ensures ∙ c.if-is_the-2.true) refl) found.2,
    )
    )
    c.take_prefix.ensures.value

pub returns-then-is_the-2-clause-broken : goal.returns-then-is_the-2-clause-broken
returns-then-is_the-2-clause-broken c = broken_so c.take_prefix.result
    (λ reason b front found. b _ front) c.take_prefix.ensures.broken

pub returns-then-is_the-3-clause-known : goal.returns-then-is_the-3-clause-known
returns-then-is_the-3-clause-known c =
    OnOk-map c.take.result
    (
    λ some front found. (
      found_here element.IsTruncated c.take.new.found c.args.child.now.element front
          (sym c.is_the-3.ensures ∙ c.if-is_the-3.true) some,
      found_past element.NextContinuationToken c.args.self.now.token c.args.child.now.element front
          (is_other element.IsTruncated element.NextContinuationToken c.args.child.now.element
          (sym c.is_the-3.ensures ∙ c.if-is_the-3.true) refl) found.1,
      stood_past element.EncodingType c.args.self.now.url c.args.child.now.element front
          (is_other element.IsTruncated element.EncodingType c.args.child.now.element
          (sym c.is_the-3.ensures ∙ c.if-is_the-3.true) refl) found.2,
    )
    )
    c.take.ensures.some

pub returns-then-is_the-3-clause-broken : goal.returns-then-is_the-3-clause-broken
returns-then-is_the-3-clause-broken c =
    broken_so c.take.result (λ reason b front found. b
    (page_table (key_form c.args.self.now.keys) (prefix_form c.args.self.now.keys)) front refl refl found.0)
    c.take.ensures.broken

pub returns-then-is_the-4-clause-known : goal.returns-then-is_the-4-clause-known
returns-then-is_the-4-clause-known c =
    OnOk-map c.take-then-is_the-4.result
    (
    λ some front found. (
      found_past element.IsTruncated c.args.self.now.more c.args.child.now.element front
          (is_other element.NextContinuationToken element.IsTruncated c.args.child.now.element
          (sym c.is_the-4.ensures ∙ c.if-is_the-4.true) refl) found.0,
      found_here element.NextContinuationToken c.take-then-is_the-4.new.found c.args.child.now.element front
          (sym c.is_the-4.ensures ∙ c.if-is_the-4.true) some,
      stood_past element.EncodingType c.args.self.now.url c.args.child.now.element front
          (is_other element.NextContinuationToken element.EncodingType c.args.child.now.element
          (sym c.is_the-4.ensures ∙ c.if-is_the-4.true) refl) found.2,
    )
    )
    c.take-then-is_the-4.ensures.some

pub returns-then-is_the-4-clause-broken : goal.returns-then-is_the-4-clause-broken
returns-then-is_the-4-clause-broken c =
    broken_so c.take-then-is_the-4.result
    (λ reason b front found. b (page_table (key_form c.args.self.now.keys) (prefix_form c.args.self.now.keys)) front
    refl refl found.1) c.take-then-is_the-4.ensures.broken

pub returns-then-is_the-5-clause-known : goal.returns-then-is_the-5-clause-known
returns-then-is_the-5-clause-known c =
    OnOk-map c.take_encoding.result
    (
    λ named front found. (
      found_past element.IsTruncated c.args.self.now.more c.args.child.now.element front
          (is_other element.EncodingType element.IsTruncated c.args.child.now.element
          (sym c.is_the-5.ensures ∙ c.if-is_the-5.true) refl) found.0,
      found_past element.NextContinuationToken c.args.self.now.token c.args.child.now.element front
          (is_other element.EncodingType element.NextContinuationToken c.args.child.now.element
          (sym c.is_the-5.ensures ∙ c.if-is_the-5.true) refl) found.1,
      named ∙ stood_here element.EncodingType c.args.child.now.element front
          (sym c.is_the-5.ensures ∙ c.if-is_the-5.true),
    )
    )
    c.take_encoding.ensures.named

pub returns-then-is_the-5-clause-broken : goal.returns-then-is_the-5-clause-broken
returns-then-is_the-5-clause-broken c = broken_so c.take_encoding.result
    (λ reason b front found. b _ _ front found.2) c.take_encoding.ensures.broken

pub returns-clause-known : goal.returns-clause-known
returns-clause-known c =
    OnOk-map c.skip.result
    (
    λ read front found. (
      found_past element.IsTruncated c.args.self.now.more c.args.child.now.element front
          (sym c.is_the-3.ensures ∙ c.if-is_the-3.false) found.0,
      found_past element.NextContinuationToken c.args.self.now.token c.args.child.now.element front
          (sym c.is_the-4.ensures ∙ c.if-is_the-4.false) found.1,
      stood_past element.EncodingType c.args.self.now.url c.args.child.now.element front
          (sym c.is_the-5.ensures ∙ c.if-is_the-5.false) found.2,
    )
    )
    c.skip.ensures.value

pub returns-clause-broken : goal.returns-clause-broken
returns-clause-broken c =
    broken_so c.skip.result
    (
    λ reason b front found. b (page_table (key_form c.args.self.now.keys) (prefix_form c.args.self.now.keys)) front (
      (sym c.is_the-3.ensures ∙ c.if-is_the-3.false),
      (
        (sym c.is_the-5.ensures ∙ c.if-is_the-5.false),
        (
          (sym c.is_the-4.ensures ∙ c.if-is_the-4.false),
          ((sym c.is_the.ensures ∙ c.if-is_the.false), ((sym c.is_the-2.ensures ∙ c.if-is_the-2.false), tt)),
        ),
      ),
    )
    )
    c.skip.ensures.broken

pub returns-then-is_the-clause-well : goal.returns-then-is_the-clause-well
returns-then-is_the-clause-well c = OnOk-map c.take_object.result
    (λ well front found. well _ front) c.take_object.ensures.well

pub returns-then-is_the-2-clause-well : goal.returns-then-is_the-2-clause-well
returns-then-is_the-2-clause-well c = OnOk-map c.take_prefix.result
    (λ well front found. well _ front) c.take_prefix.ensures.well

pub returns-then-is_the-3-clause-well : goal.returns-then-is_the-3-clause-well
returns-then-is_the-3-clause-well c =
    OnOk-map c.take.result (λ well front found. well
    (page_table (key_form c.args.self.now.keys) (prefix_form c.args.self.now.keys)) front refl found.0)
    c.take.ensures.well

pub returns-then-is_the-4-clause-well : goal.returns-then-is_the-4-clause-well
returns-then-is_the-4-clause-well c =
    OnOk-map c.take-then-is_the-4.result
    (λ well front found. well (page_table (key_form c.args.self.now.keys) (prefix_form c.args.self.now.keys)) front
    refl found.1) c.take-then-is_the-4.ensures.well

pub returns-then-is_the-5-clause-well : goal.returns-then-is_the-5-clause-well
returns-then-is_the-5-clause-well c = OnOk-map c.take_encoding.result
    (λ well front found. well _ _ front found.2) c.take_encoding.ensures.well

pub returns-clause-well : goal.returns-clause-well
returns-clause-well c =
    OnOk-map c.skip.result
    (
    λ read front found. (
      read.0,
      read.1,
      Passed (
        (sym c.is_the-3.ensures ∙ c.if-is_the-3.false),
        (
          (sym c.is_the-5.ensures ∙ c.if-is_the-5.false),
          (
            (sym c.is_the-4.ensures ∙ c.if-is_the-4.false),
            ((sym c.is_the.ensures ∙ c.if-is_the.false), ((sym c.is_the-2.ensures ∙ c.if-is_the-2.false), tt)),
          ),
        ),
      ),
    )
    )
    c.skip.ensures.value
