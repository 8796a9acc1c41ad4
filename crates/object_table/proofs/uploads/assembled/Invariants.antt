use Rattle.std.proofs.Common.{take}
use Rattle.object_table.specs.Assembly.{Joined}
use Rattle.object_table.proofs.uploads.assembled.Given as goal

abbrev pub invariant-loop-place : goal.invariant-loop-place
invariant-loop-place l = Joined l.upload l.least (take l.place l.etags) l.bytes.items l.last
