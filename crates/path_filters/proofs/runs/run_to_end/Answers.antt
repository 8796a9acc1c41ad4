use Rattle.std.proofs.Common.{rules, ◌≡◌, [], ap, ◌∙◌, sym, eq-eqb, eqb-true, length}
use Rattle.std.specs.Str.{IsUtf8}
use Rattle.std.proofs.lemmas.Bool.{both_ways}
use Rattle.std.proofs.lemmas.List.{nil_from_length}
use Rattle.path_filters.proofs.MatchLemmas.{unended}
use Rattle.path_filters.proofs.TextLemmas.{empty_from_chars}
use Rattle.path_filters.proofs.runs.run_to_end.Goals as goal

pub returns-then-not-is_empty-clause-stuck : goal.returns-then-not-is_empty-clause-stuck
returns-then-not-is_empty-clause-stuck c =
    let none : c.in-Some.left.now ≡ [] = nil_from_length _ (eqb-true _ _ (sym c.is_empty.ensures ∙ c.if-is_empty.true)) in
    let text : IsUtf8 c.in-Some.rest.now = search rules in
    unended c.in-Some.ensures.left none (λ e. both_ways _ c.if-not-is_empty.true (c.is_empty-then-is_empty.ensures ∙ eq-eqb _ _ (ap length (empty_from_chars _ text e))))
