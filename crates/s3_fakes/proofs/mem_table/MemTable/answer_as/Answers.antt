use Rattle.std.proofs.Common.{rules}
use Rattle.s3_fakes.proofs.mem_table.MemTable.answer_as.Goals as goal

pub returns-in_err-bytes-clause-follows : goal.returns-in_err-bytes-clause-follows
returns-in_err-bytes-clause-follows c = search rules

pub returns-clause-follows : goal.returns-clause-follows
returns-clause-follows c = search rules

pub returns-clause-answered : goal.returns-clause-answered
returns-clause-answered c = search rules
