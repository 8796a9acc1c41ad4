use Rattle.s3_fakes.proofs.Following.{follows_put, follows_removal}
use Rattle.s3_fakes.proofs.mem_table.MemTable.write_foreign.Goals as goal

pub returns-in-Put : goal.returns-in-Put
returns-in-Put c =
    follows_put c.put.result c.args.self.now c.put.new.self c.as_str.result.now c.as_str-in-Put.result.now c.in-Put.bytes.items c.put.ensures.limits c.put.ensures.scripted c.put.ensures.put c.put.ensures.same

pub returns : goal.returns
returns c =
    follows_removal c.delete.result c.args.self.now (record { limits = c.self.inside.manner.limits; state = c.self.inside.objects; is_scripted = c.self.inside.is_scripted }) c.delete.new.self c.as_str-in-Remove.result.now c.as_str-in-Remove-2.result.now c.self.view_is c.delete.ensures.deleted c.delete.ensures.same
