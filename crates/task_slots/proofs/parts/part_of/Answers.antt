use Rattle.std.proofs.Common.{rules}
use Rattle.task_slots.proofs.parts.part_of.Goals as goal

pub take-requires : goal.take-requires
take-requires c = search rules

pub lend-requires : goal.lend-requires
lend-requires c = search rules

pub unreachable-requires : goal.unreachable-requires
unreachable-requires c = search rules

pub returns-clause-bytes : goal.returns-clause-bytes
returns-clause-bytes c = search rules

pub returns-then-is_some-clause-held : goal.returns-then-is_some-clause-held
returns-then-is_some-clause-held c = search rules

pub returns-then-is_some-clause-bytes : goal.returns-then-is_some-clause-bytes
returns-then-is_some-clause-bytes c = search rules
