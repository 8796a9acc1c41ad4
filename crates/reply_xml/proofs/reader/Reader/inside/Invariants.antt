use Rattle.std.proofs.Common.{◌≡◌, ◌≤◌, ◌↔◌, ℕ, List, [], Option, length}
use Rattle.reply_xml.specs.declared.elements.Element.{Element}
use Rattle.reply_xml.specs.declared.faults.DocFault.{DocFault}
use Rattle.reply_xml.specs.Breaks.{BreaksIn}
use Rattle.reply_xml.specs.Fits.{GoesOnWell, HoldsWell}
use Rattle.reply_xml.specs.Reading.{HoldsAs}
use Rattle.reply_xml.proofs.reader.Reader.inside.Given as goal

abbrev pub invariant-children : goal.invariant-children
invariant-children g l = record {
  no_longer : length l.self.rest.now ≤ length l.fn.self.rest.now;
  same : (rest : List ℕ) (whole : _) → HoldsAs (g.P.Parts.left l.fn.parts) l.fn.parent l.fn.self.rest.now rest whole ↔
      HoldsAs (g.P.Parts.left l.parts) l.fn.parent l.self.rest.now rest whole;
  size : l.self.size ≡ l.fn.self.size;
  table : g.P.Parts.table l.parts ≡ g.P.Parts.table l.fn.parts;
  front : (front : List (Option Element)) × g.P.Parts.knows l.parts front
      × ((reason : DocFault) → BreaksIn l.self.size reason (g.P.Parts.table l.fn.parts) front l.fn.parent
      l.self.rest.now
      → BreaksIn l.fn.self.size reason (g.P.Parts.table l.fn.parts) [] l.fn.parent l.fn.self.rest.now)
      × ((rest : List ℕ) → GoesOnWell (g.P.Parts.table l.fn.parts) front l.fn.parent l.self.rest.now rest
      → HoldsWell (g.P.Parts.table l.fn.parts) l.fn.parent l.fn.self.rest.now rest);
}

abbrev pub decreases-children : goal.decreases-children
decreases-children g l = length l.self.rest.now
