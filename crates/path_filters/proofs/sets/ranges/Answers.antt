use Rattle.std.proofs.Common.{◌++◌, sym, ap, ◌∙◌, List, ℕ}
use Rattle.std.proofs.lemmas.List.{append-nil}
use Rattle.path_filters.specs.Patterns.{ranges_of}
use Rattle.path_filters.proofs.TextLemmas.{chars_empty}
use Rattle.path_filters.proofs.sets.ranges.Goals as goal

pub returns : goal.returns
returns c =
    let ended = chars_empty _ c.in_default.ensures.parts in
    sym (append-nil c.loop-code.ranges) ∙ ap (λ (codes : List ℕ). c.loop-code.ranges ++ ranges_of codes) (sym ended) ∙ c.loop-code.invariant.1
