use Rattle.std.proofs.Common.{◌≡◌, ◌≤◌, ◌+◌, ◌*◌, ◌↔◌, ℕ, List, [], length, vec_len}
use Rattle.reply_xml.specs.Tables.{Done}
use Rattle.reply_xml.specs.declared.faults.DocFault.{DocFault}
use Rattle.reply_xml.specs.Breaks.{BreaksIn}
use Rattle.reply_xml.proofs.BreakLemmas.{BreaksOpen}
use Rattle.reply_xml.specs.Reading.{HoldsSome, ReadsOpen}
use Rattle.reply_xml.proofs.reader.Reader.skip_content.Given as goal

abbrev pub invariant-elements : goal.invariant-elements
invariant-elements l = record {
  no_longer : length l.self.rest.now ≤ length l.fn.self.rest.now;
  same : (rest : List ℕ) → ((at : List ℕ) × HoldsSome l.inner l.self.rest.now at × ReadsOpen l.outer.items at rest) ↔
      HoldsSome l.fn.tag l.fn.self.rest.now rest;
  size : l.self.size ≡ l.fn.self.size;
  broken : (reason : DocFault) → BreaksOpen l.self.size reason l.inner l.outer.items l.self.rest.now → BreaksIn
      l.fn.self.size reason Done [] l.fn.tag l.fn.self.rest.now;
}

abbrev pub decreases-elements : goal.decreases-elements
decreases-elements l = 2 * length l.self.rest.now + vec_len l.outer
