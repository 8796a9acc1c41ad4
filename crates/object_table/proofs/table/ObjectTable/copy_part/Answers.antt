use Rattle.std.proofs.Common.{rules}
use Rattle.object_table.proofs.Changes.{range_put}
use Rattle.object_table.proofs.table.ObjectTable.copy_part.Goals as goal

pub returns-clause-stored : goal.returns-clause-stored
returns-clause-stored c =
    range_put c.put_part.result c.args.self.now c.put_part.new.self c.args.bucket.now c.args.key.now c.args.id.now c.args.number c.args.source.bucket.now c.args.source.key.now c.args.source.etag.now c.args.range c.in_ok-bytes.bytes.items
    c.in_ok-object.object.now c.put_part.ensures.stored c.in_ok-object.ensures.there (search rules) (search rules)
