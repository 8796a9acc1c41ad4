use Rattle.std.proofs.Common.{ℕ, take, subst, refl, arith, inl, inr, ap, ◌∙◌}
use Rattle.std.proofs.lemmas.List.{length-take}
use Rattle.httparse.specs.Grammar.{HasNoSection, NeverHasSection}
use Rattle.httparse.specs.Spans.{SectionExceeds}
use Rattle.answer_grammar.proofs.ChunkLemmas.{window_is}
use Rattle.answer_grammar.proofs.HeadLemmas.{about_bytes, no_section_excess}
use Rattle.answer_grammar.proofs.chunks.read_trailers.Goals as goal

pub returns-in-Ok-Partial-2 : goal.returns-in-Ok-Partial-2
returns-in-Ok-Partial-2 c =
    let none = rw c.in-Ok-Partial.field-0-is at c.in-Ok-Partial.ensures.partial in
    let window = ap (λ (n : ℕ). take n c.args.after.now) c.min.ensures ∙ window_is 1024 c.args.after.now in
    (refl, inr (omega (arith, c.if-after-lt-LINE_LIMIT.false), subst HasNoSection window none))

pub returns-in-Err : goal.returns-in-Err
returns-in-Err c =
    let window = ap (λ (n : ℕ). take n c.args.after.now) c.min.ensures ∙ window_is 1024 c.args.after.now in
    let P : ℕ → Type 0 = λ n. SectionExceeds n (take c.min.result c.args.after.now) in
    let never = about_bytes (NeverHasSection (take c.min.result c.args.after.now)) c.parse_headers.result c.in-Err.field-0 c.in-Err.is c.parse_headers.ensures.invalid
    (λ same. no_section_excess (take c.min.result c.args.after.now) (omega (arith, length-take c.min.result c.args.after.now, c.min.ensures))
    (subst P (c.deref_mut.ensures.len ∙ c.args.room.now.all) (c.parse_headers.ensures.too_many same))) in
    (refl, inl (subst NeverHasSection window never))
