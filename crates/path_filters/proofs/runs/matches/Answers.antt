use Rattle.std.proofs.Common.{rules, ◌≡◌, [], ap, ◌∙◌, sym, eq-eqb, eqb-true, length}
use Rattle.std.specs.Str.{IsUtf8}
use Rattle.std.proofs.lemmas.List.{nil_from_length}
use Rattle.path_filters.proofs.MatchLemmas.{Matches-left, Matches-whole, Matches-ended}
use Rattle.path_filters.proofs.TextLemmas.{chars_empty, empty_from_chars}
use Rattle.path_filters.proofs.runs.matches.Goals as goal

pub loop-more-init : goal.loop-more-init
loop-more-init c =
    let left = c.in-Some.ensures.left in
    (search rules, (Matches-left left, Matches-whole left), c.in-Some.ensures.stops)

pub returns : goal.returns
returns c =
    let none : c.loop-more.left.now ≡ [] = nil_from_length _ c.in_default-split_first.ensures.cases in
    let text : IsUtf8 c.loop-more.rest.now = search rules in
    let ended = Matches-ended none in
    let whole = c.loop-more.invariant.1 in
    (λ t. whole.1 (ended.1 (chars_empty _ (nil_from_length _ (eqb-true _ _ (sym c.is_empty.ensures ∙ t))))), λ m. c.is_empty.ensures ∙ eq-eqb _ _ (ap length (empty_from_chars _ text (ended.0 (whole.0 m)))))
