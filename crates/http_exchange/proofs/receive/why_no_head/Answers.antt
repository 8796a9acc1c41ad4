use Rattle.std.proofs.Common.{inl, inr, refl}
use Rattle.http_exchange.proofs.LineLemmas.{lacks_head}
use Rattle.http_exchange.proofs.receive.why_no_head.Goals as goal

pub returns-in-Ok : goal.returns-in-Ok
returns-in-Ok c = inr (lacks_head c.args.head_only _ c.in-Ok.found c.requires c.in-Ok.ensures, refl)

pub returns-in-Err : goal.returns-in-Err
returns-in-Err c = inl c.in-Err.ensures
