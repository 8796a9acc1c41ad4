use Rattle.std.proofs.Common.{◌+◌, ◌∙◌, ℕ, Some, ap, arith, refl}
use Rattle.std.specs.Arc.{arc_value}
use Rattle.jobs.specs.Holders.{Holder}
use Rattle.kept_jobs.proofs.Filled.{one_more, so_many}
use Rattle.step_jobs.specs.Shares.{share_of}
use Rattle.step_jobs.proofs.step_jobs.make_shares.Goals as goal

pub loop-init : goal.loop-init
loop-init c = (c.in_ok-shares.ensures.items, refl, c.in_ok-shares.ensures.len, c.in_ok-shares.ensures.exact)

pub push_reserved-requires : goal.push_reserved-requires
push_reserved-requires c = omega (arith, c.loop.invariant.2, c.loop.invariant.3)

pub loop-preserved : goal.loop-preserved
loop-preserved c = (
  one_more _ c.loop.counter _ _ _ c.loop.invariant.0
      (ap Some c.in_ok-make_share.ensures.share
      ∙ ap (λ (h : Holder). Some (share_of (arc_value c.args.task.now) h)) c.loop.invariant.1)
      c.push_reserved.ensures.items,
  c.in_ok-make_share.ensures.same ∙ c.loop.invariant.1,
  c.push_reserved.ensures.len ∙ ap (λ (n : ℕ). n + 1) c.loop.invariant.2,
  c.push_reserved.ensures.capacity ∙ c.loop.invariant.3,
)

pub returns-clause-many : goal.returns-clause-many
returns-clause-many c = so_many _ _ _ _ c.loop.invariant.0 c.loop.auto.counter-end c.loop-test.false
