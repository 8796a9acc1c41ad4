use Rattle.std.proofs.Common.{◌∙◌, arith, codes, false, sym}
use Rattle.std.proofs.lemmas.Bool.{false≢true}
use Rattle.reply_xml.specs.declared.elements.Element.TheVariants as element
use Rattle.reply_xml.proofs.FaultLemmas.{IfOk-map, told}
use Rattle.reply_xml.proofs.TakeLemmas.{advanced, at_end_left, named_passes, skipped}
use Rattle.s3_replies.specs.Encodings.{Behind, Found}
use Rattle.s3_replies.specs.Listing.{EncodingLeft, HasEncoding}
use Rattle.s3_replies.proofs.EncodingLemmas.{first_at_end, first_here, first_no_child, first_no_end, first_past}
use Rattle.s3_replies.proofs.EncodingLemmas.{no_end_there, nothing_named, url_there}
use Rattle.s3_replies.proofs.encodings.names_url.Goals as goal
use Rattle.shared_lemmas.proofs.Tests.{iff_chain}

-- at the end nothing is named
pub returns-in-Ok-None-clause-first : goal.returns-in-Ok-None-clause-first
returns-in-Ok-None-clause-first c =
    let now = rw c.in-Ok-None.field-0-is at c.in-Ok-None.ensures in (
      λ h. absurd (false≢true h),
      λ f. absurd (first_at_end element.EncodingType c.args.root.now c.args.root.now.room
          (codes "url") c.children.here.rest.now _ f.0 now.end (c.children.invariant.first.0 f.1)),
    )

pub returns-in-Ok-None-clause-page : goal.returns-in-Ok-None-clause-page
returns-in-Ok-None-clause-page c rest url h =
    let now = rw c.in-Ok-None.field-0-is at c.in-Ok-None.ensures in
    let left = at_end_left (EncodingLeft false) c.args.root.now c.children.here.rest.now _ rest url now.end
    ((c.children.invariant.page rest url).0 h) in
    nothing_named url left.1

-- nor where no element begins
pub returns-in-Err-clause-first : goal.returns-in-Err-clause-first
returns-in-Err-clause-first c =
    IfOk-map c.unnamed.result
    (
    λ named n. (
      λ h. absurd (false≢true (sym n.0 ∙ h)),
      λ f. absurd (first_no_child element.EncodingType c.args.root.now.room (codes "url") c.children.here.rest.now
          (told c.in-Err.fault n.1 c.in-Err.ensures.none) (c.children.invariant.first.0 f.1)),
    )
    )
    c.unnamed.ensures.none

pub returns-in-Err-clause-page : goal.returns-in-Err-clause-page
returns-in-Err-clause-page c =
    IfOk-map c.unnamed.result
    (λ named n rest url h. let held = (c.children.invariant.page rest url).0 h in
    absurd (told c.in-Err.fault n.1 c.in-Err.ensures.refused held.0 rest held.1))
    c.unnamed.ensures.none

-- at the first one, its text decides
pub returns-then-is_the-clause-first : goal.returns-then-is_the-clause-first
returns-then-is_the-clause-first c =
    let now = rw c.in-Ok-Some.field-0-is at c.in-Ok-Some.ensures in
    let is = sym c.is_the.ensures ∙ c.if-is_the.true in
    IfOk-map c.is_url.result
    (
    λ named same. (
      λ h. (now.apart, c.children.invariant.first.1 (Found c.in-Ok-Some.child _ now.child is (same.0 h))),
      λ f. same.1 (first_here element.EncodingType c.args.root.now.room
          (codes "url") c.children.here.rest.now _ c.in-Ok-Some.child now.child is (c.children.invariant.first.0 f.1)),
    )
    )
    c.is_url.ensures.text

pub returns-then-is_the-clause-page : goal.returns-then-is_the-clause-page
returns-then-is_the-clause-page c =
    let now = rw c.in-Ok-Some.field-0-is at c.in-Ok-Some.ensures in
    let is = sym c.is_the.ensures ∙ c.if-is_the.true in
    IfOk-map c.is_url.result
    (
    λ named same rest url h.
    let there = url_there c.args.root.now c.children.here.rest.now _ rest c.in-Ok-Some.child url now.apart now.child is
    ((c.children.invariant.page rest url).0 h) in
    there.0 ∙ sym (same.1 there.1)
    )
    c.is_url.ensures.text

-- behind an element that does not end nothing is named
pub returns-in-Err-skip-clause-first : goal.returns-in-Err-skip-clause-first
returns-in-Err-skip-clause-first c =
    let now = rw c.in-Ok-Some.field-0-is at c.in-Ok-Some.ensures in
    let other = sym c.is_the.ensures ∙ c.if-is_the.false in
    IfOk-map c.unnamed-in-Err-skip.result
    (
    λ named n. (
      λ h. absurd (false≢true (sym n.0 ∙ h)),
      λ f. absurd
          (
          first_no_end element.EncodingType c.args.root.now.room
          (codes "url") c.children.here.rest.now _ c.in-Ok-Some.child now.child other
          (told c.in-Err-skip.fault n.1 c.in-Err-skip.ensures.refused) (c.children.invariant.first.0 f.1)
          ),
    )
    )
    c.unnamed-in-Err-skip.ensures.none

pub returns-in-Err-skip-clause-page : goal.returns-in-Err-skip-clause-page
returns-in-Err-skip-clause-page c =
    let now = rw c.in-Ok-Some.field-0-is at c.in-Ok-Some.ensures in
    IfOk-map c.unnamed-in-Err-skip.result
    (
    λ named n rest url h. absurd
    (
    no_end_there c.args.root.now c.children.here.rest.now _ rest c.in-Ok-Some.child url now.apart now.child
    (told c.in-Err-skip.fault n.1 c.in-Err-skip.ensures.refused) ((c.children.invariant.page rest url).0 h)
    )
    )
    c.unnamed-in-Err-skip.ensures.none

pub children-preserved : goal.children-preserved
children-preserved c =
    let now = rw c.in-Ok-Some.field-0-is at c.in-Ok-Some.ensures in
    let other = sym c.is_the.ensures ∙ c.if-is_the.false in
    record {
      first = iff_chain c.children.invariant.first (
        λ f. first_past element.EncodingType c.args.root.now.room
            (codes "url") c.children.here.rest.now _ _ c.in-Ok-Some.child now.child other c.in_default.ensures.value f,
        λ f. Behind c.in-Ok-Some.child _ _ now.child other c.in_default.ensures.value f,
      );
      page = λ rest url. iff_chain (c.children.invariant.page rest url)
          (
          advanced (EncodingLeft false) (EncodingLeft false) c.args.root.now c.in-Ok-Some.child _ _ _ rest url now.apart
          now.child
          (skipped (EncodingLeft false) c.in-Ok-Some.child _ _
          (named_passes HasEncoding element.EncodingType c.in-Ok-Some.child other) c.in_default.ensures.value)
          );
    }

pub children-smaller : goal.children-smaller
children-smaller c =
    let now = rw c.in-Ok-Some.field-0-is at c.in-Ok-Some.ensures in omega (arith, now.shorter, c.skip.ensures.no_longer)
