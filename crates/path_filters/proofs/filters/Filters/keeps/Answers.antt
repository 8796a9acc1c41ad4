use Rattle.std.proofs.lemmas.List.{nil_from_length}
use Rattle.path_filters.proofs.FilterLemmas.{is_kept-last, is_kept-none}
use Rattle.path_filters.proofs.filters.Filters.keeps.Goals as goal

pub returns-then-matches-clause-value : goal.returns-then-matches-clause-value
returns-then-matches-clause-value c =
    let left = c.loop-filter.invariant in
    is_kept-last _ _ left.0 _ _ _ left.1 c.in-Some.ensures.cases.0 (c.matches.ensures.stands.0 c.if-matches.true) left.2

pub returns-clause-value : goal.returns-clause-value
returns-clause-value c =
    let left = c.loop-filter.invariant in
    is_kept-none _ _ left.0 _ left.1 (nil_from_length _ c.in_default.ensures.cases) left.2
