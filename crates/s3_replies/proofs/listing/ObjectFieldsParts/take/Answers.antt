use Rattle.reply_xml.specs.Fits.{Passed}
use Rattle.std.proofs.Common.{refl}
use Rattle.reply_xml.specs.declared.elements.Element.TheVariants as element
use Rattle.reply_xml.proofs.ChildLemmas.{is_other}
use Rattle.reply_xml.proofs.BreakLemmas.{broken_so}
use Rattle.reply_xml.proofs.FrontLemmas.{found_here, found_past}
use Rattle.s3_replies.specs.Listing.{SpellsKey, key_form, object_table}
use Rattle.std.proofs.Common.{◌∙◌, sym}
use Rattle.s3_replies.specs.Listing.{ObjectLeft, SpellsKey, key_form}
use Rattle.reply_xml.proofs.FaultLemmas.{refused_so, OnOk-map}
use Rattle.reply_xml.proofs.TakeLemmas.{stops_there}
use Rattle.s3_replies.proofs.ObjectLemmas.{key_advanced, key_stopped, modified_advanced, modified_stopped}
use Rattle.s3_replies.proofs.ObjectLemmas.{etag_advanced, etag_stopped, size_advanced, size_stopped, object_skipped}
use Rattle.s3_replies.proofs.listing.ObjectFieldsParts.take.Goals as goal

pub returns-then-is_the-clause-value : goal.returns-then-is_the-clause-value
returns-then-is_the-clause-value c =
    OnOk-map c.take_key.result (key_advanced (SpellsKey c.args.self.now.keys) c.args.self.now.key
    c.args.self.now.modified c.args.self.now.etag c.args.self.now.size _ c.args.child.now c.args.reader.now.rest.now
    _ (sym c.is_the.ensures ∙ c.if-is_the.true)) c.take_key.ensures.value

pub returns-then-is_the-clause-refused : goal.returns-then-is_the-clause-refused
returns-then-is_the-clause-refused c =
    refused_so c.take_key.result (key_stopped (SpellsKey c.args.self.now.keys) c.args.self.now.key
    c.args.self.now.modified c.args.self.now.etag c.args.self.now.size c.args.child.now c.args.reader.now.rest.now)
    c.take_key.ensures.refused

pub returns-then-is_the-2-clause-value : goal.returns-then-is_the-2-clause-value
returns-then-is_the-2-clause-value c =
    OnOk-map c.take.result (modified_advanced (SpellsKey c.args.self.now.keys) c.args.self.now.key
    c.args.self.now.modified c.args.self.now.etag c.args.self.now.size _ c.args.child.now c.args.reader.now.rest.now
    _ (sym c.is_the-2.ensures ∙ c.if-is_the-2.true)) c.take.ensures.value

pub returns-then-is_the-2-clause-refused : goal.returns-then-is_the-2-clause-refused
returns-then-is_the-2-clause-refused c =
    refused_so c.take.result (modified_stopped (SpellsKey c.args.self.now.keys) c.args.self.now.key
    c.args.self.now.modified c.args.self.now.etag c.args.self.now.size c.args.child.now c.args.reader.now.rest.now)
    c.take.ensures.refused

pub returns-then-is_the-3-clause-value : goal.returns-then-is_the-3-clause-value
returns-then-is_the-3-clause-value c =
    OnOk-map c.take-then-is_the-3.result
    (etag_advanced (SpellsKey c.args.self.now.keys) c.args.self.now.key c.args.self.now.modified
    c.args.self.now.etag c.args.self.now.size _ c.args.child.now c.args.reader.now.rest.now _
    (sym c.is_the-3.ensures ∙ c.if-is_the-3.true)) c.take-then-is_the-3.ensures.value

pub returns-then-is_the-3-clause-refused : goal.returns-then-is_the-3-clause-refused
returns-then-is_the-3-clause-refused c =
    refused_so c.take-then-is_the-3.result
    (etag_stopped (SpellsKey c.args.self.now.keys) c.args.self.now.key c.args.self.now.modified c.args.self.now.etag
    c.args.self.now.size c.args.child.now c.args.reader.now.rest.now) c.take-then-is_the-3.ensures.refused

pub returns-then-is_the-4-clause-value : goal.returns-then-is_the-4-clause-value
returns-then-is_the-4-clause-value c =
    OnOk-map c.take-then-is_the-4.result
    (size_advanced (SpellsKey c.args.self.now.keys) c.args.self.now.key c.args.self.now.modified
    c.args.self.now.etag c.args.self.now.size _ c.args.child.now c.args.reader.now.rest.now _
    (sym c.is_the-4.ensures ∙ c.if-is_the-4.true)) c.take-then-is_the-4.ensures.value

pub returns-then-is_the-4-clause-refused : goal.returns-then-is_the-4-clause-refused
returns-then-is_the-4-clause-refused c =
    refused_so c.take-then-is_the-4.result
    (size_stopped (SpellsKey c.args.self.now.keys) c.args.self.now.key c.args.self.now.modified c.args.self.now.etag
    c.args.self.now.size c.args.child.now c.args.reader.now.rest.now) c.take-then-is_the-4.ensures.refused

pub returns-clause-value : goal.returns-clause-value
returns-clause-value c = OnOk-map c.skip.result
    (object_skipped (SpellsKey c.args.self.now.keys) c.args.self.now.key c.args.self.now.modified c.args.self.now.etag
    c.args.self.now.size c.args.child.now c.args.reader.now.rest.now _ (sym c.is_the.ensures ∙ c.if-is_the.false)
    (sym c.is_the-2.ensures ∙ c.if-is_the-2.false) (sym c.is_the-3.ensures ∙ c.if-is_the-3.false)
    (sym c.is_the-4.ensures ∙ c.if-is_the-4.false)) c.skip.ensures.value

pub returns-clause-refused : goal.returns-clause-refused
returns-clause-refused c = refused_so c.skip.result
    (stops_there (ObjectLeft (SpellsKey c.args.self.now.keys) c.args.self.now.key c.args.self.now.modified
    c.args.self.now.etag c.args.self.now.size) c.args.child.now c.args.reader.now.rest.now) c.skip.ensures.refused

pub returns-then-is_the-clause-known : goal.returns-then-is_the-clause-known
returns-then-is_the-clause-known c =
    OnOk-map c.take_key.result
    (λ some front found. (
      found_here element.Key c.take_key.new.found c.args.child.now.element front
          (sym c.is_the.ensures ∙ c.if-is_the.true) some,
      found_past element.LastModified c.args.self.now.modified c.args.child.now.element front
          (is_other element.Key element.LastModified c.args.child.now.element
          (sym c.is_the.ensures ∙ c.if-is_the.true) refl) found.1,
      found_past element.ETag c.args.self.now.etag c.args.child.now.element front
          (is_other element.Key element.ETag c.args.child.now.element (sym c.is_the.ensures ∙ c.if-is_the.true) refl)
          found.2,
      found_past element.Size c.args.self.now.size c.args.child.now.element front
          (is_other element.Key element.Size c.args.child.now.element (sym c.is_the.ensures ∙ c.if-is_the.true) refl)
          found.3,
    ))
    c.take_key.ensures.some

pub returns-then-is_the-clause-broken : goal.returns-then-is_the-clause-broken
returns-then-is_the-clause-broken c =
    broken_so c.take_key.result (λ reason b front found. b front found.0) c.take_key.ensures.broken

pub returns-then-is_the-2-clause-known : goal.returns-then-is_the-2-clause-known
returns-then-is_the-2-clause-known c =
    OnOk-map c.take.result
    (λ some front found. (
      found_past element.Key c.args.self.now.key c.args.child.now.element front
          (is_other element.LastModified element.Key c.args.child.now.element
          (sym c.is_the-2.ensures ∙ c.if-is_the-2.true) refl) found.0,
      found_here element.LastModified c.take.new.found c.args.child.now.element front
          (sym c.is_the-2.ensures ∙ c.if-is_the-2.true) some,
      found_past element.ETag c.args.self.now.etag c.args.child.now.element front
          (is_other element.LastModified element.ETag c.args.child.now.element
          (sym c.is_the-2.ensures ∙ c.if-is_the-2.true) refl) found.2,
      found_past element.Size c.args.self.now.size c.args.child.now.element front
          (is_other element.LastModified element.Size c.args.child.now.element
          (sym c.is_the-2.ensures ∙ c.if-is_the-2.true) refl) found.3,
    ))
    c.take.ensures.some

pub returns-then-is_the-2-clause-broken : goal.returns-then-is_the-2-clause-broken
returns-then-is_the-2-clause-broken c =
    broken_so c.take.result (λ reason b front found. b (object_table (key_form c.args.self.now.keys)) front refl refl
    found.1) c.take.ensures.broken

pub returns-then-is_the-3-clause-known : goal.returns-then-is_the-3-clause-known
returns-then-is_the-3-clause-known c =
    OnOk-map c.take-then-is_the-3.result
    (λ some front found. (
      found_past element.Key c.args.self.now.key c.args.child.now.element front
          (is_other element.ETag element.Key c.args.child.now.element
          (sym c.is_the-3.ensures ∙ c.if-is_the-3.true) refl)
          found.0,
      found_past element.LastModified c.args.self.now.modified c.args.child.now.element front
          (is_other element.ETag element.LastModified c.args.child.now.element
          (sym c.is_the-3.ensures ∙ c.if-is_the-3.true) refl) found.1,
      found_here element.ETag c.take-then-is_the-3.new.found c.args.child.now.element front
          (sym c.is_the-3.ensures ∙ c.if-is_the-3.true) some,
      found_past element.Size c.args.self.now.size c.args.child.now.element front
          (is_other element.ETag element.Size c.args.child.now.element
          (sym c.is_the-3.ensures ∙ c.if-is_the-3.true) refl)
          found.3,
    ))
    c.take-then-is_the-3.ensures.some

pub returns-then-is_the-3-clause-broken : goal.returns-then-is_the-3-clause-broken
returns-then-is_the-3-clause-broken c =
    broken_so c.take-then-is_the-3.result
    (λ reason b front found. b (object_table (key_form c.args.self.now.keys)) front refl refl found.2)
    c.take-then-is_the-3.ensures.broken

pub returns-then-is_the-4-clause-known : goal.returns-then-is_the-4-clause-known
returns-then-is_the-4-clause-known c =
    OnOk-map c.take-then-is_the-4.result
    (λ some front found. (
      found_past element.Key c.args.self.now.key c.args.child.now.element front
          (is_other element.Size element.Key c.args.child.now.element
          (sym c.is_the-4.ensures ∙ c.if-is_the-4.true) refl)
          found.0,
      found_past element.LastModified c.args.self.now.modified c.args.child.now.element front
          (is_other element.Size element.LastModified c.args.child.now.element
          (sym c.is_the-4.ensures ∙ c.if-is_the-4.true) refl) found.1,
      found_past element.ETag c.args.self.now.etag c.args.child.now.element front
          (is_other element.Size element.ETag c.args.child.now.element
          (sym c.is_the-4.ensures ∙ c.if-is_the-4.true) refl)
          found.2,
      found_here element.Size c.take-then-is_the-4.new.found c.args.child.now.element front
          (sym c.is_the-4.ensures ∙ c.if-is_the-4.true) some,
    ))
    c.take-then-is_the-4.ensures.some

pub returns-then-is_the-4-clause-broken : goal.returns-then-is_the-4-clause-broken
returns-then-is_the-4-clause-broken c =
    broken_so c.take-then-is_the-4.result
    (λ reason b front found. b (object_table (key_form c.args.self.now.keys)) front refl refl found.3)
    c.take-then-is_the-4.ensures.broken

pub returns-clause-known : goal.returns-clause-known
returns-clause-known c =
    OnOk-map c.skip.result
    (λ read front found. (
      found_past element.Key c.args.self.now.key c.args.child.now.element front
          (sym c.is_the.ensures ∙ c.if-is_the.false) found.0,
      found_past element.LastModified c.args.self.now.modified c.args.child.now.element front
          (sym c.is_the-2.ensures ∙ c.if-is_the-2.false) found.1,
      found_past element.ETag c.args.self.now.etag c.args.child.now.element front
          (sym c.is_the-3.ensures ∙ c.if-is_the-3.false) found.2,
      found_past element.Size c.args.self.now.size c.args.child.now.element front
          (sym c.is_the-4.ensures ∙ c.if-is_the-4.false) found.3,
    ))
    c.skip.ensures.value

pub returns-clause-broken : goal.returns-clause-broken
returns-clause-broken c =
    broken_so c.skip.result
    (λ reason b front found. b (object_table (key_form c.args.self.now.keys)) front (
      (sym c.is_the.ensures ∙ c.if-is_the.false),
      (
        (sym c.is_the-2.ensures ∙ c.if-is_the-2.false),
        ((sym c.is_the-3.ensures ∙ c.if-is_the-3.false), ((sym c.is_the-4.ensures ∙ c.if-is_the-4.false), tt)),
      ),
    ))
    c.skip.ensures.broken

pub returns-then-is_the-clause-well : goal.returns-then-is_the-clause-well
returns-then-is_the-clause-well c =
    OnOk-map c.take_key.result (λ well front found. well front found.0) c.take_key.ensures.well

pub returns-then-is_the-2-clause-well : goal.returns-then-is_the-2-clause-well
returns-then-is_the-2-clause-well c =
    OnOk-map c.take.result (λ well front found. well (object_table (key_form c.args.self.now.keys)) front refl found.1)
    c.take.ensures.well

pub returns-then-is_the-3-clause-well : goal.returns-then-is_the-3-clause-well
returns-then-is_the-3-clause-well c =
    OnOk-map c.take-then-is_the-3.result
    (λ well front found. well (object_table (key_form c.args.self.now.keys)) front refl found.2)
    c.take-then-is_the-3.ensures.well

pub returns-then-is_the-4-clause-well : goal.returns-then-is_the-4-clause-well
returns-then-is_the-4-clause-well c =
    OnOk-map c.take-then-is_the-4.result
    (λ well front found. well (object_table (key_form c.args.self.now.keys)) front refl found.3)
    c.take-then-is_the-4.ensures.well

pub returns-clause-well : goal.returns-clause-well
returns-clause-well c =
    OnOk-map c.skip.result
    (λ read front found. (
      read.0,
      read.1,
      Passed (
        (sym c.is_the.ensures ∙ c.if-is_the.false),
        (
          (sym c.is_the-2.ensures ∙ c.if-is_the-2.false),
          ((sym c.is_the-3.ensures ∙ c.if-is_the-3.false), ((sym c.is_the-4.ensures ∙ c.if-is_the-4.false), tt)),
        ),
      ),
    ))
    c.skip.ensures.value
