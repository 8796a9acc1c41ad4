use Rattle.std.proofs.Common.{rules}
use Rattle.kept_jobs.proofs.tags.PartTags.put.Goals as goal

pub returns-clause-tags : goal.returns-clause-tags
returns-clause-tags c = search rules

pub index_mut-requires : goal.index_mut-requires
index_mut-requires c = search rules
