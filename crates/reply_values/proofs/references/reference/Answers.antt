use Rattle.std.proofs.Common.{not, ◌==◌}
use Rattle.std.proofs.lemmas.List.Sums.{list_all-from_AllPass}
use Rattle.reply_values.proofs.ReferenceLemmas.{no_end, no_name, reference_stands}
use Rattle.reply_values.proofs.references.reference.Goals as goal

pub returns-in_err-name-clause-refused : goal.returns-in_err-name-clause-refused
returns-in_err-name-clause-refused c =
    let text = c.args.text.now in
    rw c.from_residual.ensures (no_end text
    (list_all-from_AllPass (λ b. not (b == 59)) text c.in_err-name.ensures.none))

pub returns-in_err-named-clause-refused : goal.returns-in_err-named-clause-refused
returns-in_err-named-clause-refused c =
    let text = c.args.text.now in
    let name = c.in_ok-name.name in
    let rest = c.in_ok-name.rest in
    let lacks = list_all-from_AllPass (λ b. not (b == 59)) name.now c.in_ok-name.ensures.first in
    rw c.from_residual-in_err-named.ensures
    (no_name text name.now rest.now c.in_ok-name.ensures.value lacks c.in_err-named.ensures.refused)

pub returns-clause-value : goal.returns-clause-value
returns-clause-value c =
    let text = c.args.text.now in
    let name = c.in_ok-name.name in
    let rest = c.in_ok-name.rest in
    reference_stands text name.now rest.now c.in_ok-named.field-0 c.in_ok-name.ensures.value c.in_ok-named.ensures.value
