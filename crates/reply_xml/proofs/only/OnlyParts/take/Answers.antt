use Rattle.std.proofs.Common.{◌∙◌, sym}
use Rattle.reply_xml.specs.Children.{IsLeafOf}
use Rattle.reply_xml.specs.Reading.{LeafLeft, OnceLeft}
use Rattle.reply_xml.proofs.FaultLemmas.{OnOk-map, refused_so}
use Rattle.reply_xml.specs.Fits.{Passed}
use Rattle.reply_xml.proofs.BreakLemmas.{broken_so}
use Rattle.reply_xml.proofs.FrontLemmas.{found_here, found_past, only_alone, only_form}
use Rattle.reply_xml.proofs.TakeLemmas.{named_passes, skipped, stops_there}
use Rattle.reply_xml.proofs.only.OnlyParts.take.Goals as goal

pub returns-then-not-is_the-clause-value : goal.returns-then-not-is_the-clause-value
returns-then-not-is_the-clause-value g c =
    OnOk-map c.skip.result
    (
    skipped (LeafLeft (g.L.Leaf.spells c.args.self.now.element) c.args.self.now.element c.args.self.now.found)
    c.args.child.now c.args.reader.now.rest.now _
    (named_passes (λ cs v. OnceLeft (IsLeafOf (g.L.Leaf.spells c.args.self.now.element)) c.args.self.now.found cs v)
    c.args.self.now.element c.args.child.now (sym c.is_the.ensures ∙ c.if-not-is_the.true))
    )
    c.skip.ensures.value

pub returns-then-not-is_the-clause-refused : goal.returns-then-not-is_the-clause-refused
returns-then-not-is_the-clause-refused g c =
    refused_so c.skip.result
    (stops_there (LeafLeft (g.L.Leaf.spells c.args.self.now.element) c.args.self.now.element c.args.self.now.found)
    c.args.child.now c.args.reader.now.rest.now)
    c.skip.ensures.refused

pub returns-then-not-is_the-clause-known : goal.returns-then-not-is_the-clause-known
returns-then-not-is_the-clause-known g c =
    OnOk-map c.skip.result
    (λ read front found. found_past c.args.self.now.element c.args.self.now.found c.args.child.now.element front
    (sym c.is_the.ensures ∙ c.if-not-is_the.true) found)
    c.skip.ensures.value

pub returns-then-not-is_the-clause-broken : goal.returns-then-not-is_the-clause-broken
returns-then-not-is_the-clause-broken g c =
    broken_so c.skip.result (λ reason b front found. b _ front (sym c.is_the.ensures ∙ c.if-not-is_the.true, tt))
    c.skip.ensures.broken

pub returns-clause-known : goal.returns-clause-known
returns-clause-known g c =
    OnOk-map c.take.result
    (λ some front found. found_here c.args.self.now.element c.take.new.found c.args.child.now.element front
    (sym c.is_the.ensures ∙ c.if-not-is_the.false) some)
    c.take.ensures.some

pub returns-clause-broken : goal.returns-clause-broken
returns-clause-broken g c =
    broken_so c.take.result
    (
    λ reason b front found. b _ front (only_form c.args.self.now.element g.L.Leaf.form)
    (only_alone c.args.self.now.element g.L.Leaf.form) found
    )
    c.take.ensures.broken

pub returns-then-not-is_the-clause-well : goal.returns-then-not-is_the-clause-well
returns-then-not-is_the-clause-well g c =
    OnOk-map c.skip.result
    (λ read front found. (read.0, read.1, Passed (sym c.is_the.ensures ∙ c.if-not-is_the.true, tt)))
    c.skip.ensures.value

pub returns-clause-well : goal.returns-clause-well
returns-clause-well g c =
    OnOk-map c.take.result
    (λ well front found. well _ front (only_form c.args.self.now.element g.L.Leaf.form) found) c.take.ensures.well
