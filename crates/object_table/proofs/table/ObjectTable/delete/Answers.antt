use Rattle.object_table.proofs.Sound.{sound_objects}
use Rattle.object_table.proofs.table.ObjectTable.delete.Goals as goal

pub invariant_of-self : goal.invariant_of-self
invariant_of-self c =
    sound_objects c.self.inside.objects c.self.inside.uploads c.self.inside.ended c.self.invariant c.take_object.new.objects c.args.bucket.now _ c.take_object.ensures
