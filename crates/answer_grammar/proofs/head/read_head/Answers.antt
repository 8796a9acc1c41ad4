use Rattle.std.proofs.Common.{ℕ, subst, inl, refl, ◌∙◌}
use Rattle.httparse.specs.Grammar.{NeverHasResponse}
use Rattle.httparse.specs.Spans.{ResponseExceeds}
use Rattle.answer_grammar.specs.Parts.{not_http}
use Rattle.answer_grammar.proofs.HeadLemmas.{about_bytes, no_excess}
use Rattle.answer_grammar.proofs.head.read_head.Goals as goal

pub returns-in-Err : goal.returns-in-Err
returns-in-Err c =
    let P : ℕ → Type 0 = λ n. ResponseExceeds n c.args.got.now in
    let never = about_bytes (NeverHasResponse c.args.got.now) c.parse_response.result c.in-Err.field-0 c.in-Err.is c.parse_response.ensures.invalid
    (λ same. no_excess c.args.got.now c.requires (subst P (c.deref_mut.ensures.len ∙ c.args.room.now.all) (c.parse_response.ensures.too_many same))) in
    not_http (inl never) refl
