use Rattle.object_table.proofs.Sound.{sound_stored}
use Rattle.object_table.proofs.table.ObjectTable.store.Goals as goal

pub invariant_of-self : goal.invariant_of-self
invariant_of-self c =
    sound_stored c.self.inside.objects c.self.inside.uploads c.self.inside.ended c.self.invariant c.put_object.result c.put_object.new.objects c.args.bucket.now _ c.put_object.ensures.put c.put_object.ensures.same
