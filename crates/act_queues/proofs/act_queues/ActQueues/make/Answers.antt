use Rattle.std.proofs.Common.{◌≡◌, ◌∙◌, ℕ, Bool, List, Option, None, ap, map, replicate, rules, sym}
use Rattle.act_queues.specs.Sorts.{is_call, is_get, is_job, is_read}
use Rattle.act_queues.specs.declared.act_queues.ActSort.{ActSort}
use Rattle.act_queues.proofs.PositionLemmas.{all_of}
use Rattle.act_queues.proofs.act_queues.ActQueues.make.Goals as goal

none : (f : Option ActSort → Bool) (n : ℕ) (xs : List (Option ActSort)) → xs ≡ replicate n None → replicate n (f None) ≡ map f xs
none f n xs e = all_of f n None ∙ sym (ap (λ (ys : List (Option ActSort)). map f ys) e)

pub invariant_of-result : goal.invariant_of-result
invariant_of-result c =
    let e : c.in_ok-sorts.sorts.items ≡ replicate c.args.count None = c.in_ok-sorts.ensures.items_if_clones_equal (λ y h. search rules) in (
      c.in_ok-calls.ensures.first ∙ none is_call c.args.count _ e,
      c.in_ok-calls.ensures.second ∙ none is_read c.args.count _ e,
      c.in_ok-jobs.ensures.first ∙ none is_job c.args.count _ e,
      c.in_ok-jobs.ensures.second ∙ none is_get c.args.count _ e,
    )
