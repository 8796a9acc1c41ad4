use Rattle.s3_fakes.proofs.Following.{follows_both, follows_same}
use Rattle.s3_fakes.proofs.mem_table.MemTable.write_all_foreign.Goals as goal

pub loop-write-preserved : goal.loop-write-preserved
loop-write-preserved c =
    follows_both c.args.self.now c.loop-write.self c.write_foreign.new.self c.loop-write.invariant c.write_foreign.ensures

pub returns-in_err-write_foreign : goal.returns-in_err-write_foreign
returns-in_err-write_foreign c =
    follows_both c.args.self.now c.loop-write.self c.write_foreign.new.self c.loop-write.invariant c.write_foreign.ensures

pub loop-write-init : goal.loop-write-init
loop-write-init c =
    follows_same c.args.self.now (record { limits = c.self.inside.manner.limits; state = c.self.inside.objects; is_scripted = c.self.inside.is_scripted }) c.self.view_is
