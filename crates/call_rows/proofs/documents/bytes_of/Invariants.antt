use Rattle.std.proofs.Common.{length}
use Rattle.call_rows.proofs.documents.bytes_of.Given as goal

abbrev pub decreases-pieces : goal.decreases-pieces
decreases-pieces l = length l.rest
