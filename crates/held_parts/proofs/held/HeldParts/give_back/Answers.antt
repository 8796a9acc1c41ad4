use Rattle.std.proofs.Common.{◌∙◌, ◌+◌, ◌==◌, ◌&&◌, None, ap, arith}
use Rattle.std.specs.Prelude.{if◌then◌else◌}
use Rattle.chunk_plan.specs.Pool.{Pool}
use Rattle.held_parts.specs.Held.{SeenParts, held_at, lent_in}
use Rattle.held_parts.proofs.SlotLemmas as lemmas
use Rattle.held_parts.proofs.held.HeldParts.give_back.Goals as goal

pub give_back-requires-clause-lent : goal.give_back-requires-clause-lent
give_back-requires-clause-lent c =
    let s : SeenParts = record { pool = c.self.inside.pool; slots = c.self.inside.slots.items } in
    let at = lemmas.placed c.args.self.now s c.args.task c.args.number c.place-place.result c.self.view_is c.place-place.ensures.place in
    let back = lemmas.back_now c.args.task c.args.number s.pool s.slots c.place-place.result at c.self.invariant in
    omega (arith, c.self.invariant.lent_are)

pub invariant_of-self : goal.invariant_of-self
invariant_of-self c =
    let s : SeenParts = record { pool = c.self.inside.pool; slots = c.self.inside.slots.items } in
    let at = lemmas.placed c.args.self.now s c.args.task c.args.number c.place-place.result c.self.view_is c.place-place.ensures.place in
    let back = lemmas.back_now c.args.task c.args.number s.pool s.slots c.place-place.result at c.self.invariant in
    lemmas.back_table c.args.task c.args.number s.pool s.slots c.place-place.result at c.self.invariant c.give_back.new.self
    (ap (λ (p : Pool). p.count) c.give_back.ensures)
    (ap (λ (p : Pool). p.lent + 1) c.give_back.ensures ∙ omega (arith, c.self.invariant.lent_are))
    (ap (λ (p : Pool). p.free) c.give_back.ensures) (ap (λ (p : Pool). p.room) c.give_back.ensures)

pub returns-clause-held : goal.returns-clause-held
returns-clause-held c x y =
    let s : SeenParts = record { pool = c.self.inside.pool; slots = c.self.inside.slots.items } in
    let at = lemmas.placed c.args.self.now s c.args.task c.args.number c.place-place.result c.self.view_is c.place-place.ensures.place in
    lemmas.held_now c.args.task c.args.number s.pool s.slots c.place-place.result at c.self.invariant None tt x y
    ∙ ap (λ (s : SeenParts). if (c.args.task == x) && (c.args.number == y) then None else held_at s.slots x y) c.self.view_is

pub returns-clause-lent : goal.returns-clause-lent
returns-clause-lent c =
    let s : SeenParts = record { pool = c.self.inside.pool; slots = c.self.inside.slots.items } in
    let at = lemmas.placed c.args.self.now s c.args.task c.args.number c.place-place.result c.self.view_is c.place-place.ensures.place in
    lemmas.back_now c.args.task c.args.number s.pool s.slots c.place-place.result at c.self.invariant
    ∙ ap (λ (s : SeenParts). lent_in s.slots) c.self.view_is
