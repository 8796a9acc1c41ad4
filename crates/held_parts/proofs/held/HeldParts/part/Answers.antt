use Rattle.std.proofs.Common.{◌∙◌, sym, ap}
use Rattle.std.specs.List.{position}
use Rattle.held_parts.specs.Held.{SeenParts, is_of, here, here_at, inner}
use Rattle.held_parts.proofs.SlotLemmas as lemmas
use Rattle.std.specs.Option.{option_copied}
use Rattle.held_parts.proofs.held.HeldParts.part.Goals as goal

pub returns-in_err-place : goal.returns-in_err-place
returns-in_err-place c = ap option_copied c.from_residual.ensures
    ∙ ap inner (sym (lemmas.has_place c.args.task c.args.number c.self.inside.slots.items
    (ap (position (is_of c.args.task c.args.number)) (sym c.deref.ensures.value) ∙ sym c.in_err-place.ensures)))
    ∙ ap (λ (s : SeenParts). here_at s.slots c.args.task c.args.number) c.self.view_is

pub returns : goal.returns
returns c =
    let slots = c.self.inside.slots.items in
    let at = ap (position (is_of c.args.task c.args.number)) (sym c.deref.ensures.value) ∙ sym c.in_ok-place.ensures in
    c.part_in.ensures
    ∙ ap here (lemmas.stood c.args.task c.args.number c.self.inside.pool slots c.in_ok-place.place at c.self.invariant
    c.index.result.now c.index.result.now c.index.ensures)
    ∙ ap inner (sym (lemmas.stands_at c.args.task c.args.number c.self.inside.pool slots c.in_ok-place.place at c.self.invariant))
    ∙ ap (λ (s : SeenParts). here_at s.slots c.args.task c.args.number) c.self.view_is
