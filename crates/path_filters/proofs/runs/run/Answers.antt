use Rattle.std.proofs.Common.{ap, ◌∙◌, rules, sym}
use Rattle.std.specs.Str.{chars}
use Rattle.std.proofs.lemmas.Bool.{both_ways}
use Rattle.std.proofs.lemmas.Str.{chars-nil}
use Rattle.path_filters.proofs.MatchLemmas.{stuck_at_end, stuck_at, IsLeft-more, IsLeft-at}
use Rattle.path_filters.proofs.runs.run.Goals as goal

pub returns-in_default-first_char-clause-stuck : goal.returns-in_default-first_char-clause-stuck
returns-in_default-first_char-clause-stuck c =
    let here = IsLeft-at c.in-Some.ensures.cases.0 c.loop-piece.invariant.1 in
    stuck_at_end here (sym c.is_star.ensures ∙ c.if-is_star.false) (ap chars c.in_default-first_char.ensures.parts ∙ chars-nil)

pub returns-then-not-takes-clause-stuck : goal.returns-then-not-takes-clause-stuck
returns-then-not-takes-clause-stuck c =
    let here = IsLeft-at c.in-Some.ensures.cases.0 c.loop-piece.invariant.1 in
    stuck_at _ _ here (sym c.is_star.ensures ∙ c.if-is_star.false) c.in-Some-first_char.ensures.parts (λ t. both_ways _ c.if-not-takes.true (c.takes.ensures.1 t))

pub loop-piece-preserved : goal.loop-piece-preserved
loop-piece-preserved c =
    let here = IsLeft-at c.in-Some.ensures.cases.0 c.loop-piece.invariant.1 in
    (search rules, IsLeft-more _ _ here c.in-Some-first_char.ensures.parts (c.takes.ensures.0 c.if-not-takes.false))
