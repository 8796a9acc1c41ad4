use Rattle.std.proofs.Common.{take}
use Rattle.s3_words.specs.Commands.{AreFilters}
use Rattle.s3_words.specs.Given.{filters_in}
use Rattle.s3_words.specs.Shown.{all_shown}
use Rattle.s3_words.proofs.given.filters_of.Given as goal

abbrev pub invariant-loop-role : goal.invariant-loop-role
invariant-loop-role l = AreFilters (filters_in (all_shown (take l.role-index l.roles))) l.filters
