use Rattle.std.proofs.Common.{◌≡◌, ◌<◌, ◌-◌, ◌∙◌, ◌==◌, ap, arith, get_or, not, subst, sym, take}
use Rattle.std.specs.List.{AllPass}
use Rattle.std.proofs.lemmas.Bool.{eqb-true}
use Rattle.std.proofs.lemmas.Str.{lead_after_ascii}
use Rattle.reply_values.proofs.ByteLemmas.{none_before}
use Rattle.reply_values.proofs.references.split_at_byte.Goals as goal

pub range_from-requires : goal.range_from-requires
range_from-requires c positive =
    let text = c.args.text.now in
    let place = c.in-Some.place in
    let found = rw c.as_bytes.ensures.value at c.in-Some.ensures in
    let same : get_or text place 0 ≡ c.args.byte = eqb-true (get_or text place 0) c.args.byte found.1 in
    let inside = found.0.high in
    let small : get_or text place 0 < 128 = omega (arith, same, c.requires) in (
      omega (arith, inside),
      λ more high. lead_after_ascii text place c.utf8.text small more high,
    )

pub returns-in-Some-clause-first : goal.returns-in-Some-clause-first
returns-in-Some-clause-first c =
    let text = c.args.text.now in
    let found = rw c.as_bytes.ensures.value at c.in-Some.ensures in
    let inside = found.0.high in
    let whole : c.in-Some.place - 0 ≡ c.in-Some.place = omega arith in
    subst (AllPass (λ b. not (b == c.args.byte))) (sym (c.range.ensures.value ∙ ap (λ n. take n text) whole))
    (none_before c.args.byte text c.in-Some.place (omega (arith, inside)) found.0.before)
