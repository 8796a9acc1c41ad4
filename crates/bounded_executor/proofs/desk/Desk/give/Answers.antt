use Rattle.std.proofs.Common.{ap, ◌∙◌, arith, rules}
use Rattle.bounded_executor.specs.Exchange.{with_given}
use Rattle.bounded_executor.proofs.DeskLemmas.{in_range, lane_has_room, lane_is_alike, desk_of-exchanged, IsDesk-set, out_is_small}
use Rattle.bounded_executor.proofs.desk.Desk.give.Goals as goal

pub index_mut-requires : goal.index_mut-requires
index_mut-requires g c = omega (arith, in_range _ _ _ _ c.self.view_is c.requires, c.self.inside.lanes.ok.0)

pub give-requires-after_bounds : goal.give-requires-after_bounds
give-requires-after_bounds g c κs within =
    lane_has_room _ _ _ _ _ _ c.self.invariant c.self.view_is (in_range _ _ _ _ c.self.view_is c.requires) c.index_mut.ensures.value (c.is_full.ensures.room c.if-is_full.false)

pub overflow_add-self : goal.overflow_add-self
overflow_add-self g c = omega (arith, out_is_small _ _ _ c.self.invariant)

pub invariant_of-self : goal.invariant_of-self
invariant_of-self g c =
    let in' = in_range _ _ _ _ c.self.view_is c.requires in
    let is = c.index_mut.ensures.value in
    let alike = lane_is_alike _ _ _ _ _ c.self.invariant in' is in
    let room = lane_has_room _ _ _ _ _ _ c.self.invariant c.self.view_is in' is (c.is_full.ensures.room c.if-is_full.false) in
    IsDesk-set _ _ _ _ _ _ _ c.self.invariant in' is (ap (λ l. l.depth) c.give.ensures.given ∙ alike.0, omega (arith, c.give.ensures.one_more, alike.0, room)) (omega (arith, c.give.ensures.one_more))

pub returns-then-is_full-clause-refused : goal.returns-then-is_full-clause-refused
returns-then-is_full-clause-refused g c = search (rules, c.is_full.ensures.full)

pub returns-clause-refused : goal.returns-clause-refused
returns-clause-refused g c = (λ no. cc, λ full. absurd (omega (arith, c.is_full.ensures.room c.if-is_full.false)))

pub returns-clause-ok : goal.returns-clause-ok
returns-clause-ok g c =
    let in' = in_range _ _ _ _ c.self.view_is c.requires in
    rw (← c.self.view_is) (desk_of-exchanged _ _ _ _ _ (λ e. with_given e c.args.job) in' c.index_mut.ensures.value c.give.ensures.given)

pub returns-clause-one_more : goal.returns-clause-one_more
returns-clause-one_more g c = rw (← c.self.view_is) (omega (arith, (invariant_of-self g c).counted, c.self.invariant.counted))
