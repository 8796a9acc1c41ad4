use Rattle.row_words.proofs.endings.ended_as.Goals as goal

pub returns-in-refused-clause-ends : goal.returns-in-refused-clause-ends
returns-in-refused-clause-ends c = c.refused.ensures.ends c.args.op
