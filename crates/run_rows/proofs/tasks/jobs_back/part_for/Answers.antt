use Rattle.std.proofs.Common.{◌∙◌, sym}
use Rattle.run_rows.proofs.JobLemmas.{needs_none, needs_part}
use Rattle.run_rows.proofs.tasks.jobs_back.part_for.Goals as goal

pub returns-then-not-has_part-clause-part : goal.returns-then-not-has_part-clause-part
returns-then-not-has_part-clause-part c = needs_none c.args.op (sym c.has_part.ensures ∙ c.if-not-has_part.true)

pub returns-clause-part : goal.returns-clause-part
returns-clause-part c = needs_part c.args.op c.in_ok-part.part (sym c.has_part.ensures ∙ c.if-not-has_part.false) c.in_ok-part.ensures.room
