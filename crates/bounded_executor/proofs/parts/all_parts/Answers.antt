use Rattle.std.proofs.Common.{◌+◌, ◌∙◌, ℕ, ap, arith}
use Rattle.bounded_executor.proofs.Filled.{one_more, so_many}
use Rattle.bounded_executor.proofs.parts.all_parts.Goals as goal

pub push_reserved-requires : goal.push_reserved-requires
push_reserved-requires g c = omega (arith, c.loop-made.invariant.1, c.loop-made.invariant.2)

pub loop-made-preserved : goal.loop-made-preserved
loop-made-preserved g c = (
  one_more c.args.depth c.loop-made._made _ _ _ c.loop-made.invariant.0 c.in-Ok.ensures c.push_reserved.ensures.items,
  c.push_reserved.ensures.len ∙ ap (λ (n : ℕ). n + 1) c.loop-made.invariant.1,
  omega (arith, c.push_reserved.ensures.capacity, c.loop-made.invariant.2),
)

pub returns : goal.returns
returns g c = so_many c.args.depth _ _ _ c.loop-made.invariant.0 c.loop-made.auto._made-end c.loop-made-test.false
