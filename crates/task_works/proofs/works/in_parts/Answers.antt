use Rattle.std.proofs.Common.{rules}
use Rattle.task_works.proofs.works.in_parts.Goals as goal

pub returns-clause-parts : goal.returns-clause-parts
returns-clause-parts c = search rules

pub part_count-requires-clause-countable : goal.part_count-requires-clause-countable
part_count-requires-clause-countable c = search rules

pub returns-clause-few : goal.returns-clause-few
returns-clause-few c = search rules
