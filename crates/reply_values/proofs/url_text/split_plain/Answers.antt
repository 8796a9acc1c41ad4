use Rattle.std.proofs.Common.{List, ℕ, length, sym, subst, arith}
use Rattle.std.proofs.lemmas.List.{take_all}
use Rattle.reply_values.specs.Spelling.{Spells}
use Rattle.reply_values.specs.UrlText.{StandsForByte}
use Rattle.reply_values.proofs.PlainBytes.{plain_front}
use Rattle.reply_values.proofs.url_text.split_plain.Goals as goal

pub returns-in-Some-clause-plain : goal.returns-in-Some-clause-plain
returns-in-Some-clause-plain c =
    let found = c.in-Some.ensures in
    let within = found.0.high in
    subst (λ (t : List ℕ). Spells StandsForByte t t) (sym c.split_at.ensures.front)
    (plain_front c.args.text.now c.in-Some.place (omega (arith, within)) found.0.before)

pub returns-in-None-clause-plain : goal.returns-in-None-clause-plain
returns-in-None-clause-plain c =
    let text = c.args.text.now in
    subst (λ (t : List ℕ). Spells StandsForByte t t) (take_all (length text) text (omega arith))
    (plain_front text (length text) (omega arith) c.in-None.ensures)
