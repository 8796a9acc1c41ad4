use Rattle.std.proofs.Common.{ap, arith, set, ◌∙◌}
use Rattle.bounded_executor.specs.Desk.{desk_of}
use Rattle.bounded_executor.proofs.DeskLemmas.{in_range, out_is_positive, put_back, IsDesk-taken, took_one}
use Rattle.bounded_executor.proofs.desk.Desk.take_of.Goals as goal

pub index_mut-slot-requires : goal.index_mut-slot-requires
index_mut-slot-requires g c = omega (arith, in_range _ _ _ _ c.self.view_is c.requires, c.self.inside.lanes.ok.0)

pub invariant_of-self : goal.invariant_of-self
invariant_of-self g c = rw (c.in_default.ensures.none, put_back _ _ _ c.index_mut-slot.ensures.value) c.self.invariant

pub returns-in_default-clause-none : goal.returns-in_default-clause-none
returns-in_default-clause-none g c =
    ap (desk_of c.self.inside.depth) (ap (set c.self.inside.lanes.items c.args.lane) c.in_default.ensures.none ∙ put_back _ _ _ c.index_mut-slot.ensures.value) ∙ c.self.view_is

pub overflow_sub-self : goal.overflow_sub-self
overflow_sub-self g c =
    out_is_positive _ _ _ _ _ c.self.invariant (in_range _ _ _ _ c.self.view_is c.requires) c.index_mut-slot.ensures.value c.in-Some.ensures.was_out

pub invariant_of-self-2 : goal.invariant_of-self-2
invariant_of-self-2 g c =
    IsDesk-taken _ _ _ _ _ _ _ c.self.invariant (in_range _ _ _ _ c.self.view_is c.requires) c.index_mut-slot.ensures.value c.in-Some.ensures.some c.in-Some.ensures.was_out

pub returns-clause-taken : goal.returns-clause-taken
returns-clause-taken g c =
    rw (← c.self.view_is) (took_one _ _ _ _ _ _ _ c.self.invariant (in_range _ _ _ _ c.self.view_is c.requires) c.index_mut-slot.ensures.value c.in-Some.ensures.some c.in-Some.ensures.was_out)
