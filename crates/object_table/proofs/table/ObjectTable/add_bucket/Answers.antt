use Rattle.object_table.proofs.Sound.{sound_stored}
use Rattle.object_table.proofs.table.ObjectTable.add_bucket.Goals as goal

pub invariant_of-self : goal.invariant_of-self
invariant_of-self c =
    sound_stored c.self.inside.objects c.self.inside.uploads c.self.inside.ended c.self.invariant c.insert.result c.insert.new.self c.args.bucket.now c.make.result c.insert.ensures.put c.insert.ensures.same
