use Rattle.object_table.proofs.Sound.{sound_none}
use Rattle.object_table.proofs.table.ObjectTable.make.Goals as goal

pub invariant_of-result : goal.invariant_of-result
invariant_of-result c = sound_none _ _ _ c.make-2.ensures
