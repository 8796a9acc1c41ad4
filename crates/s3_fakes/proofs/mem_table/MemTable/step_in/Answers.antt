use Rattle.s3_fakes.proofs.Following.{follows_both}
use Rattle.s3_fakes.proofs.mem_table.MemTable.step_in.Goals as goal

pub returns-clause-follows : goal.returns-clause-follows
returns-clause-follows c =
    follows_both c.args.self.now c.serve_late.new.self c.write_all_foreign.new.self c.serve_late.ensures c.write_all_foreign.ensures
