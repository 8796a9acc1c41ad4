use Rattle.std.proofs.Common.{ℕ, take, subst, refl, arith, inl, inr, ap, ◌∙◌}
use Rattle.httparse.specs.Grammar.{HasNoChunkLine, NeverHasChunkLine}
use Rattle.answer_grammar.proofs.ChunkLemmas.{window_is, size_found}
use Rattle.answer_grammar.proofs.chunks.read_size.Goals as goal

pub returns-in-Ok-Complete : goal.returns-in-Ok-Complete
returns-in-Ok-Complete c =
    let found = rw c.in-Ok-Complete.field-0-is at c.in-Ok-Complete.ensures.complete in
    size_found c.min.result c.in-Ok-Complete.len c.in-Ok-Complete.size c.args.after.now found.0 (omega (arith, c.min.ensures)) found.1

pub returns-in_default : goal.returns-in_default
returns-in_default c =
    let none = rw c.in-Ok-Partial.field-0-is at c.in-Ok-Partial.ensures.partial in
    let window = ap (λ (n : ℕ). take n c.args.after.now) c.min.ensures ∙ window_is 1024 c.args.after.now in
    (refl, inr (omega (arith, c.if-after-lt-LINE_LIMIT.false), subst HasNoChunkLine window none))

pub returns-in_default-2 : goal.returns-in_default-2
returns-in_default-2 c =
    let never = rw c.in_default.is at c.parse_chunk_size.ensures.invalid in
    let window = ap (λ (n : ℕ). take n c.args.after.now) c.min.ensures ∙ window_is 1024 c.args.after.now in
    (refl, inl (subst NeverHasChunkLine window never))
