use Rattle.std.proofs.Common.{◌∙◌, ◌<◌, ◌+◌, None, sym, ap, arith, length, get_or, subst}
use Rattle.chunk_plan.specs.Pool.{Pool}
use Rattle.held_parts.specs.Held.{SeenParts, part_of}
use Rattle.held_parts.proofs.SlotLemmas as lemmas
use Rattle.std.proofs.lemmas.List.{get_or_default}
use Rattle.held_parts.proofs.held.HeldParts.stop_at.Goals as goal

pub give_back-requires-clause-room : goal.give_back-requires-clause-room
give_back-requires-clause-room c =
    let slots = c.self.inside.slots.items in
    let was = c.take-slot.ensures.value ∙ c.index_mut.ensures.value ∙ get_or_default slots c.args.place c.index_mut.result.now None (subst (λ (s : SeenParts). c.args.place < length s.slots) (sym c.self.view_is) c.requires) in
    lemmas.room_at c.self.inside.pool.room c.args.place slots c.into_part-part.result c.self.invariant.room
    (ap part_of (sym was) ∙ c.into_part-part.ensures)

pub invariant_of-self : goal.invariant_of-self
invariant_of-self c =
    let slots = c.self.inside.slots.items in
    let was = c.take-slot.ensures.value ∙ c.index_mut.ensures.value ∙ get_or_default slots c.args.place c.index_mut.result.now None (subst (λ (s : SeenParts). c.args.place < length s.slots) (sym c.self.view_is) c.requires) in
    let taken = lemmas.part_taken (get_or slots c.args.place None) c.into_part-part.result (ap part_of (sym was) ∙ c.into_part-part.ensures) in
    let some = lemmas.back_some slots c.args.place taken in
    rw c.take-slot.ensures.after (lemmas.freed_table c.self.inside.pool c.give_back.new.self slots c.args.place (subst (λ (s : SeenParts). c.args.place < length s.slots) (sym c.self.view_is) c.requires) c.self.invariant taken
    (ap (λ (p : Pool). p.count) c.give_back.ensures) (ap (λ (p : Pool). p.lent + 1) c.give_back.ensures ∙ omega (arith, c.self.invariant.lent_are, some)) (ap (λ (p : Pool). p.free) c.give_back.ensures)
    (ap (λ (p : Pool). p.room) c.give_back.ensures))
