use Rattle.std.proofs.Common.{◌∙◌, Bool, List, Option, sym, ap, true}
use Rattle.std.specs.List.{position}
use Rattle.act_queues.specs.Sorts.{lesser, may_give}
use Rattle.act_queues.specs.declared.act_queues.ActSort.{ActSort}
use Rattle.act_queues.proofs.PositionLemmas.{giving_free, giving_full, no_giving}
use Rattle.act_queues.proofs.act_queues.ActQueues.first_giving.Goals as goal
use Rattle.number_sets.specs.Members.{is_set}

pub returns-then-not-has_room : goal.returns-then-not-has_room
returns-then-not-has_room c =
    no_giving c.args.self.now c.args.has_part
    ∙ ap (λ (b : Bool). position (may_give b c.args.has_part) c.args.self.now) (sym c.if-not-has_room.true)

pub returns-then-has_part : goal.returns-then-has_part
returns-then-has_part c =
    let q = c.self.inside in
    c.least.ensures
    ∙ ap (λ (o : Option _). lesser o c.first.result) c.first-job.ensures
    ∙ ap (λ (o : Option _). lesser (position is_set q.jobs) o) c.first.ensures
    ∙ giving_free q.sorts.items q.jobs q.gets c.self.invariant.2 c.self.invariant.3
    ∙ ap (λ (b : Bool). position (may_give true b) q.sorts.items) (sym c.if-has_part.true)
    ∙ ap (λ (b : Bool). position (may_give b c.args.has_part) q.sorts.items) (sym c.if-not-has_room.false)
    ∙ ap (λ (xs : List (Option ActSort)). position (may_give c.args.has_room c.args.has_part) xs) c.self.view_is

pub returns-else-has_part : goal.returns-else-has_part
returns-else-has_part c =
    let q = c.self.inside in
    c.first-job.ensures
    ∙ giving_full q.sorts.items q.jobs c.self.invariant.2
    ∙ ap (λ (b : Bool). position (may_give true b) q.sorts.items) (sym c.if-has_part.false)
    ∙ ap (λ (b : Bool). position (may_give b c.args.has_part) q.sorts.items) (sym c.if-not-has_room.false)
    ∙ ap (λ (xs : List (Option ActSort)). position (may_give c.args.has_room c.args.has_part) xs) c.self.view_is
