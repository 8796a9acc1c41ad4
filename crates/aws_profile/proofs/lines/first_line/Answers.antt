use Rattle.std.proofs.Common.{◌≡◌, ◌∷◌, ◌<◌, ◌∙◌, ap, sym, arith, length, ℕ, List, true}
use Rattle.std.specs.List.{list_any, before_first, after_first}
use Rattle.std.specs.Str.Lines.{lines, strip_carriage_return}
use Rattle.std.proofs.lemmas.Bool.Decides.{nat_tests}
use Rattle.std.proofs.lemmas.List.{drop_all}
use Rattle.aws_profile.proofs.TextLemmas.{lines_found, lines_one, take_rest, is_line_feed}
use Rattle.aws_profile.proofs.lines.first_line.Goals as goal

first_and_rest : (file line rest : List ℕ) → list_any is_line_feed file ≡ true → line ≡ strip_carriage_return (before_first is_line_feed file) → rest ≡ after_first is_line_feed file → lines file ≡ line ∷ lines rest
first_and_rest file line rest h e f = rw (e, f) (lines_found file h)

pub returns-in-Some-clause-parts : goal.returns-in-Some-clause-parts
returns-in-Some-clause-parts c =
    first_and_rest c.args.file.now c.without_carriage_return.result.now c.in-Some.rest.now (sym c.in-Some.ensures.found)
    (c.without_carriage_return.ensures ∙ ap strip_carriage_return c.in-Some.ensures.before) c.in-Some.ensures.after

pub returns-in-None-clause-parts : goal.returns-in-None-clause-parts
returns-in-None-clause-parts c =
    let file = c.args.file.now in
    let some : 0 < length file = grind (arith, nat_tests) in
    let empty = take_rest (length file) file ∙ drop_all (length file) file (omega arith) in
    lines_one file some (sym c.in-None.ensures.found) ∙ ap (λ rest. file ∷ lines rest) (sym empty)
