use Rattle.reply_xml.proofs.FrontLemmas.{fresh_none}
use Rattle.reply_xml.specs.Fits.{IsText}
use Rattle.reply_xml.specs.Unfit.{AnEncoding}
use Rattle.s3_replies.specs.Listing.{page_table}
use Rattle.reply_xml.specs.Breaks.{StandsAgain}
use Rattle.reply_xml.specs.declared.elements.Element.TheVariants as element
use Rattle.std.proofs.Common.{◌∙◌, sym}
use Rattle.std.proofs.Common.{codes, refl}
use Rattle.reply_xml.proofs.FaultLemmas.{refused_past}
use Rattle.s3_replies.proofs.PageLemmas.{encoding_advanced, encoding_none, encoding_twice}
use Rattle.reply_xml.proofs.BreakLemmas.{broken_past}
use Rattle.s3_replies.proofs.listing.take_encoding.Goals as goal

pub returns-then-url-clause-refused : goal.returns-then-url-clause-refused
returns-then-url-clause-refused c = encoding_twice c.args.url.now c.args.child.now c.args.reader.now.rest.now
    c.if-url.true c.requires

pub returns-in_err-leaf-clause-refused : goal.returns-in_err-leaf-clause-refused
returns-in_err-leaf-clause-refused c =
    refused_past c.from_residual.result c.in_err-leaf.field-0.0 c.from_residual.ensures.1
    (λ none. encoding_none c.args.url.now c.args.child.now c.args.reader.now.rest.now c.if-url.false c.requires
    (λ rest r. none rest tt (r.0, r.1, (codes "url", r.2, refl))))
    c.in_err-leaf.ensures.refused

pub returns-clause-value : goal.returns-clause-value
returns-clause-value c =
    let found = c.in_ok-leaf.ensures.value in
    encoding_advanced c.args.url.now c.args.child.now c.args.reader.now.rest.now c.leaf.new.self.rest.now found.2.0
    c.if-url.false c.requires found.2.2 (found.0, found.1, found.2.1)

pub returns-in_err-leaf-clause-broken : goal.returns-in_err-leaf-clause-broken
returns-in_err-leaf-clause-broken c =
    broken_past c.from_residual.result c.in_err-leaf.field-0.0 c.from_residual.ensures.1 (
    λ reason b key prefix front found. b (page_table key prefix) front refl
    (fresh_none (page_table key prefix) front c.args.child.now.element element.EncodingType c.requires
    (sym c.if-url.false ∙ found))
    ) c.in_err-leaf.ensures.broken

pub returns-then-url-clause-broken : goal.returns-then-url-clause-broken
returns-then-url-clause-broken c key prefix front found =
    StandsAgain element.EncodingType (record { same = c.requires; alone = refl; before = sym found ∙ c.if-url.true })
    refl

pub returns-clause-well : goal.returns-clause-well
returns-clause-well c key prefix front found =
    let read = c.in_ok-leaf.ensures.value in (
      read.0,
      read.1,
      IsText element.EncodingType AnEncoding read.2.0
          (fresh_none (page_table key prefix) front c.args.child.now.element element.EncodingType c.requires
          (sym c.if-url.false ∙ found))
          (record { same = c.requires; read_so = refl }) read.2.1 (λ reason u. u.1 read.2.2),
    )
