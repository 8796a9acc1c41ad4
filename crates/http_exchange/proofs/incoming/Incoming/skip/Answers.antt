use Rattle.std.proofs.Common.{ℕ, List, ◌-◌, length, drop, ap, ◌∙◌, arith}
use Rattle.std.proofs.lemmas.List.{length-take}
use Rattle.http_exchange.proofs.IncomingLemmas.{skipped}
use Rattle.http_exchange.proofs.incoming.Incoming.skip.Goals as goal

pub returns : goal.returns
returns c =
    let i = c.self.inside in
    let long = ap length c.self.view_is in
    skipped i.start c.args.count i.end i.buffer.items (omega (arith, c.requires, length-take (i.end - i.start) (drop i.start i.buffer.items), long)) ∙ ap (λ (b : List ℕ). drop c.args.count b) c.self.view_is
