use Rattle.std.proofs.Common.{◌≤◌, ◌-◌, length, take}
use Rattle.run_report.specs.Printed.{Prints}
use Rattle.run_report.proofs.output.write_text.Given as goal

-- the bytes before this place were written
abbrev pub invariant-pieces : goal.invariant-pieces
invariant-pieces g l = record {
  inside : l.at ≤ length l.bytes;
  printed : Prints (g.S.Sink.seen l.fn.sink) (g.S.Sink.seen l.sink) (take l.at l.bytes);
  later : g.S.Sink.faults l.fn.sink ≤ g.S.Sink.faults l.sink;
}

abbrev pub decreases-pieces : goal.decreases-pieces
decreases-pieces g l = length l.bytes - l.at
