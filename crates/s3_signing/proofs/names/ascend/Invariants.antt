use Rattle.std.specs.List.{AllAdjacentBelow}
use Rattle.s3_signing.specs.Signing.{IsBefore}
use Rattle.s3_signing.proofs.names.ascend.Given as goal

abbrev pub invariant-loop-i : goal.invariant-loop-i
invariant-loop-i l = AllAdjacentBelow IsBefore l.headers l.i
