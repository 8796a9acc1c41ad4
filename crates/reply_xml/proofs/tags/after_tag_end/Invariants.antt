use Rattle.std.proofs.Common.{◌≤◌, ◌↔◌, ℕ, Bool, List, length}
use Rattle.reply_xml.specs.Leaves.{LeavesTagEnd}
use Rattle.reply_xml.specs.Tags.{ReadsTagEnd}
use Rattle.reply_xml.proofs.tags.after_tag_end.Given as goal

abbrev pub invariant-attributes : goal.invariant-attributes
invariant-attributes l = record {
  shorter : length l.here ≤ length l.bytes;
  same : (closed : Bool) (rest : List ℕ) → ReadsTagEnd closed l.here rest ↔ ReadsTagEnd closed l.bytes rest;
  leaves : (left : ℕ) → LeavesTagEnd l.here left → LeavesTagEnd l.bytes left;
}

abbrev pub decreases-attributes : goal.decreases-attributes
decreases-attributes l = length l.here
