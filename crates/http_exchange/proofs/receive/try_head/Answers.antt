use Rattle.std.proofs.Common.{ℕ, List, take, subst, ap, ◌∙◌}
use Rattle.answer_grammar.specs.Parts.{ReadsStep}
use Rattle.answer_grammar.proofs.ChunkLemmas.{window_is}
use Rattle.http_exchange.proofs.receive.try_head.Goals as goal

pub returns : goal.returns
returns c =
    let window = ap (λ (n : ℕ). take n c.args.got.now) c.min.ensures ∙ window_is 65536 c.args.got.now in
    let P : List ℕ → Type 0 = λ bytes. ReadsStep c.args.head_only bytes c.read_head.result in
    subst P window c.read_head.ensures
