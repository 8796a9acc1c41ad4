use Rattle.s3_fakes.specs.Holdings.{Follows}
use Rattle.s3_fakes.proofs.mem_table.MemTable.write_all_foreign.Given as goal

abbrev pub invariant-loop-write : goal.invariant-loop-write
invariant-loop-write l = Follows l.fn.self l.self
