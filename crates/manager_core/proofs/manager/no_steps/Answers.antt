use Rattle.std.proofs.Common.{◌+◌, ◌∙◌, ℕ, None, ap, arith}
use Rattle.kept_jobs.proofs.Filled.{one_more, so_many}
use Rattle.manager_core.proofs.manager.no_steps.Goals as goal

pub push_reserved-requires : goal.push_reserved-requires
push_reserved-requires c = omega (arith, c.loop.invariant.1, c.loop.invariant.2)

pub loop-preserved : goal.loop-preserved
loop-preserved c = (
  one_more None c.loop.counter _ _ _ c.loop.invariant.0 c.empty.ensures c.push_reserved.ensures.items,
  c.push_reserved.ensures.len ∙ ap (λ (n : ℕ). n + 1) c.loop.invariant.1,
  c.push_reserved.ensures.capacity ∙ c.loop.invariant.2,
)

pub returns : goal.returns
returns c = so_many None _ _ _ c.loop.invariant.0 c.loop.auto.counter-end c.loop-test.false
