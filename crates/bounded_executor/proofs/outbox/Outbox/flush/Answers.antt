use Rattle.std.proofs.Common.{◌≡◌, ◌++◌, ◌∷◌, [], ◌∙◌, length, ap, arith}
use Rattle.std.proofs.lemmas.List.{length_push}
use Rattle.rtrb.specs.Ring.{sent}
use Rattle.bounded_executor.proofs.OutboxLemmas.{moved}
use Rattle.bounded_executor.proofs.RingLemmas.{same_producers}
use Rattle.bounded_executor.proofs.outbox.Outbox.flush.Goals as goal

pub loop-self-preserved : goal.loop-self-preserved
loop-self-preserved g c =
    let before = c.loop-self.self.ring in
    let later = c.push_reserved.new.self in
    let known = c.loop-self.invariant in
    let looked = c.is_full.ensures.looked in
    let popped = c.in-Some.ensures in
    let pushed = c.push_reserved.ensures in
    let more : sent later ≡ sent before ++ c.in-Some.job ∷ [] = pushed.sent.0 ∙ ap (λ jobs. jobs ++ c.in-Some.job ∷ []) looked.1 in
    let longer = ap length more ∙ length_push (sent before) c.in-Some.job in
    let same = ap length looked.1 in (
      same_producers c.args.self.now.ring before later known.0 (same_producers before c.is_full.new.self later looked.0 pushed.ring),
      moved _ _ _ _ _ _ more popped.items known.1,
      popped.capacity ∙ known.2,
      omega (arith, known.3, longer),
      omega (arith, known.4, ap length popped.items),
      omega (arith, known.5, looked.2, pushed.sent.1, longer, same),
    )
