use Rattle.std.proofs.Common.{◌∙◌, refl, sym}
use Rattle.reply_xml.specs.Breaks.{StandsAgain}
use Rattle.reply_xml.specs.Fits.{IsText}
use Rattle.reply_xml.proofs.FrontLemmas.{fresh_none}
use Rattle.reply_xml.proofs.FaultLemmas.{refused_past}
use Rattle.reply_xml.proofs.TakeLemmas.{leaf_taken_at, leaf_bad_at, leaf_twice_at}
use Rattle.reply_xml.proofs.BreakLemmas.{broken_past}
use Rattle.reply_xml.proofs.reader.Reader.take.Goals as goal

pub returns-then-is_some-clause-refused : goal.returns-then-is_some-clause-refused
returns-then-is_some-clause-refused g c =
    leaf_twice_at (g.L.Leaf.spells c.args.element) c.args.element c.args.found.now c.args.child.now
    c.args.self.now.rest.now (sym c.is_some.ensures ∙ c.if-is_some.true) c.requires

pub returns-in_err-leaf-clause-refused : goal.returns-in_err-leaf-clause-refused
returns-in_err-leaf-clause-refused g c =
    refused_past c.from_residual.result c.in_err-leaf.field-0.0 c.from_residual.ensures.1
    (leaf_bad_at (g.L.Leaf.spells c.args.element) c.args.element c.args.found.now c.args.child.now
    c.args.self.now.rest.now (sym c.is_some.ensures ∙ c.if-is_some.false) c.requires)
    c.in_err-leaf.ensures.refused

pub returns-clause-value : goal.returns-clause-value
returns-clause-value g c =
    leaf_taken_at (g.L.Leaf.spells c.args.element) c.args.element c.args.found.now c.args.child.now
    c.args.self.now.rest.now c.leaf.new.self.rest.now c.in_ok-leaf.field-0
    (g.met.L.Leaf.alone c.args.element) (sym c.is_some.ensures ∙ c.if-is_some.false) c.requires
    c.in_ok-leaf.ensures.value

pub returns-in_err-leaf-clause-broken : goal.returns-in_err-leaf-clause-broken
returns-in_err-leaf-clause-broken g c =
    broken_past c.from_residual.result c.in_err-leaf.field-0.0 c.from_residual.ensures.1 (
    λ reason b table front form alone found. b table front form
    (fresh_none table front c.args.child.now.element c.args.element c.requires
    (sym (sym c.is_some.ensures ∙ c.if-is_some.false) ∙ found))
    ) c.in_err-leaf.ensures.broken

pub returns-then-is_some-clause-broken : goal.returns-then-is_some-clause-broken
returns-then-is_some-clause-broken g c table front form alone found =
    StandsAgain c.args.element
    (record { same = c.requires; alone = alone; before = sym found ∙ (sym c.is_some.ensures ∙ c.if-is_some.true) }) refl

pub returns-clause-well : goal.returns-clause-well
returns-clause-well g c table front form found =
    let read = c.in_ok-leaf.ensures.value in (
      read.0,
      read.1,
      IsText c.args.element g.L.Leaf.form read.2.0
          (fresh_none table front c.args.child.now.element c.args.element c.requires
          (sym (sym c.is_some.ensures ∙ c.if-is_some.false) ∙ found))
          (record { same = c.requires; read_so = form }) read.2.1
          (g.met.L.Leaf.fits c.args.element read.2.0 _ read.2.2),
    )
