use Rattle.std.proofs.Common.{sym, ap, ◌∙◌, refl}
use Rattle.http1.specs.declared.fields.KnownFields.{KnownFields}
use Rattle.answer_grammar.proofs.FramingLemmas.{known_length, no_values, no_length}
use Rattle.answer_grammar.specs.Parts.{pairs}
use Rattle.answer_grammar.proofs.head.stated_length.Goals as goal

pub returns-in-Absent-clause-value : goal.returns-in-Absent-clause-value
returns-in-Absent-clause-value c =
    let same = ap (λ (k : KnownFields). k.content_length) c.requires ∙ known_length (pairs c.args.lines.now) in
    no_values _ (sym same ∙ c.in-Absent.is)

pub returns-in-Value-clause-value : goal.returns-in-Value-clause-value
returns-in-Value-clause-value c =
    let same = ap (λ (k : KnownFields). k.content_length) c.requires ∙ known_length (pairs c.args.lines.now) in
    (sym same ∙ c.in-Value.is, sym c.lengths_are_short.ensures ∙ c.if-lengths_are_short.true)

pub returns-in_default-2-clause-none : goal.returns-in_default-2-clause-none
returns-in_default-2-clause-none c =
    let same = ap (λ (k : KnownFields). k.content_length) c.requires ∙ known_length (pairs c.args.lines.now) in
    (refl, λ stated. no_length _ stated (sym same ∙ c.in_default.is))
