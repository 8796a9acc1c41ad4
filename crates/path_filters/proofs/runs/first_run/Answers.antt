use Rattle.std.proofs.Common.{rules}
use Rattle.path_filters.proofs.MatchLemmas.{first_found, star_at_end, star_moves}
use Rattle.path_filters.proofs.TextLemmas.{chars_empty}
use Rattle.path_filters.proofs.runs.first_run.Goals as goal
use Rattle.shared_lemmas.proofs.Tests.{iff_chain}

pub loop-left-init : goal.loop-left-init
loop-left-init c = (search rules, (λ m. m, λ m. m))

pub returns-in-Some-clause-left : goal.returns-in-Some-clause-left
returns-in-Some-clause-left c =
    iff_chain c.loop-left.invariant.1 (first_found c.in-Some.left.now c.in-Some.ensures.left c.in-Some.ensures.stops (λ e. chars_empty _ (c.in-Some.ensures.end e)))

pub returns-in_default-first_char-clause-stuck : goal.returns-in_default-first_char-clause-stuck
returns-in_default-first_char-clause-stuck c =
    λ m. star_at_end c.args.pieces.now _ (chars_empty _ c.in_default-first_char.ensures.parts) c.in_default.ensures.stuck (c.loop-left.invariant.1.0 m)

pub loop-left-preserved : goal.loop-left-preserved
loop-left-preserved c =
    (search rules, iff_chain c.loop-left.invariant.1 (star_moves c.args.pieces.now _ _ _ c.in-Some-first_char.ensures.parts c.in_default.ensures.stuck))
