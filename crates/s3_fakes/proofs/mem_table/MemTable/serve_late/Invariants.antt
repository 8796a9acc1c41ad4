use Rattle.s3_fakes.specs.Holdings.{Follows}
use Rattle.s3_fakes.proofs.mem_table.MemTable.serve_late.Given as goal

abbrev pub invariant-loop-request : goal.invariant-loop-request
invariant-loop-request l = Follows l.fn.self l.self
