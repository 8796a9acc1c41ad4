use Rattle.std.proofs.Common.{◌≡◌, ◌∙◌, ◌/◌, ◌+◌, ℕ, List, replicate, subst, sym, ap, arith, refl}
use Rattle.number_sets.specs.Members.{IsSummed, flags}
use Rattle.number_sets.proofs.Changes.{no_flags, none_summed}
use Rattle.number_sets.proofs.number_set.NumberSet.make.Goals as goal

pub invariant_of-result : goal.invariant_of-result
invariant_of-result c =
    let words : c.in_ok-words.words.items ≡ replicate (c.args.count / 64 + 1) 0 = c.in_ok-words.ensures.items_if_clones_equal (λ y h. h) in
    let summary : c.in_ok-summary.summary.items ≡ replicate ((c.args.count / 64 + 1) / 64 + 1) 0 = c.in_ok-summary.ensures.items_if_clones_equal (λ y h. h) in
    let count = c.ranges.count in
    subst (λ (ws : List ℕ). IsSummed c.args.count ws c.in_ok-summary.summary.items) (sym words)
    (subst (λ (ws : List ℕ). IsSummed c.args.count (replicate (c.args.count / 64 + 1) 0) ws) (sym summary)
    (none_summed c.args.count (c.args.count / 64 + 1) (omega (arith, count)) refl))

pub returns : goal.returns
returns c =
    let words : c.in_ok-words.words.items ≡ replicate (c.args.count / 64 + 1) 0 = c.in_ok-words.ensures.items_if_clones_equal (λ y h. h) in
    ap (λ (ws : List ℕ). flags ws c.args.count) words ∙ no_flags (c.args.count / 64 + 1) c.args.count
