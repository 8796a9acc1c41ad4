use Rattle.std.proofs.Common.{◌∙◌, Bool, List, Option, sym, ap}
use Rattle.std.specs.List.{position}
use Rattle.act_queues.specs.Sorts.{lesser, may_call}
use Rattle.act_queues.specs.declared.act_queues.ActSort.{ActSort}
use Rattle.act_queues.proofs.PositionLemmas.{call_free, call_full}
use Rattle.act_queues.proofs.act_queues.ActQueues.first_call.Goals as goal
use Rattle.number_sets.specs.Members.{is_set}

pub returns-then-has_part : goal.returns-then-has_part
returns-then-has_part c =
    let q = c.self.inside in
    c.least.ensures
    ∙ ap (λ (o : Option _). lesser o c.first.result) c.first-call.ensures
    ∙ ap (λ (o : Option _). lesser (position is_set q.calls) o) c.first.ensures
    ∙ call_free q.sorts.items q.calls q.reads c.self.invariant.0 c.self.invariant.1
    ∙ ap (λ (b : Bool). position (may_call b) q.sorts.items) (sym c.if-has_part.true)
    ∙ ap (λ (xs : List (Option ActSort)). position (may_call c.args.has_part) xs) c.self.view_is

pub returns-else-has_part : goal.returns-else-has_part
returns-else-has_part c =
    let q = c.self.inside in
    c.first-call.ensures
    ∙ call_full q.sorts.items q.calls c.self.invariant.0
    ∙ ap (λ (b : Bool). position (may_call b) q.sorts.items) (sym c.if-has_part.false)
    ∙ ap (λ (xs : List (Option ActSort)). position (may_call c.args.has_part) xs) c.self.view_is
