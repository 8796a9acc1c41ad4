use Rattle.std.proofs.Common.{◌∙◌, sym, ap}
use Rattle.std.specs.List.{position}
use Rattle.held_parts.specs.Held.{SeenParts, held_at, is_of}
use Rattle.held_parts.proofs.SlotLemmas as lemmas
use Rattle.held_parts.proofs.held.HeldParts.place.Goals as goal

pub unreachable-requires : goal.unreachable-requires
unreachable-requires c = c.requires (ap (λ (s : SeenParts). held_at s.slots c.args.task c.args.number) (sym c.self.view_is)
    ∙ lemmas.has_place c.args.task c.args.number c.self.inside.slots.items
    (ap (position (is_of c.args.task c.args.number)) (sym c.deref.ensures.value) ∙ sym c.in_default.ensures))
