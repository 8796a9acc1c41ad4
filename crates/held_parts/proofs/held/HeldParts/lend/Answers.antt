use Rattle.std.proofs.Common.{◌≡◌, ◌∙◌, ◌+◌, ◌==◌, ◌&&◌, None, Some, refl, sym, ap}
use Rattle.std.specs.List.{position}
use Rattle.std.specs.Prelude.{if◌then◌else◌}
use Rattle.std.proofs.lemmas.List.Quantifiers.{position-Some}
use Rattle.held_parts.specs.Held.{SeenParts, held_at, is_vacant, lent_in}
use Rattle.held_parts.specs.declared.held.Held.{Held}
use Rattle.held_parts.proofs.SlotLemmas as lemmas
use Rattle.held_parts.proofs.held.HeldParts.lend.Goals as goal

abbrev held : goal.Joined-index_mut → Held
held c = record { task = c.args.task; number = c.args.number; part = None }

place_is : (c : goal.Joined-index_mut) → position is_vacant c.self.inside.slots.items ≡ Some c.in_ok-place.place
place_is c = ap (position is_vacant) (sym c.deref.ensures.value) ∙ sym c.in_ok-place.ensures

none_is : (c : goal.Joined-index_mut) → held_at c.self.inside.slots.items c.args.task c.args.number ≡ None
none_is c = ap (λ (s : SeenParts). held_at s.slots c.args.task c.args.number) c.self.view_is ∙ c.requires

pub returns-in_err-place-clause-none : goal.returns-in_err-place-clause-none
returns-in_err-place-clause-none c =
    let lent = lemmas.none_free c.self.inside.slots.items
    (ap (position is_vacant) (sym c.deref.ensures.value) ∙ sym c.in_err-place.ensures) in (
      λ e. ap (λ (s : SeenParts). lent_in s.slots) (sym c.self.view_is) ∙ lent ∙ c.self.invariant.many
          ∙ ap (λ (s : SeenParts). s.pool.count) c.self.view_is,
      λ e. rw c.from_residual.ensures refl,
    )

pub invariant_of-self-2 : goal.invariant_of-self-2
invariant_of-self-2 c =
    lemmas.lent_table c.self.inside.pool c.lend.new.self c.self.inside.slots.items c.in_ok-place.place (held c) c.self.invariant
    (place_is c) (none_is c) refl c.in_ok-part.ensures.lent

pub returns-clause-held : goal.returns-clause-held
returns-clause-held c x y =
    let e = place_is c in
    let at = position-Some is_vacant c.self.inside.slots.items c.in_ok-place.place None e in
    lemmas.lent_at (held c) c.in_ok-place.place c.self.inside.slots.items at.0 at.1 (none_is c) x y
    ∙ ap (λ (s : SeenParts). if (c.args.task == x) && (c.args.number == y) then Some None else held_at s.slots x y) c.self.view_is

pub returns-clause-lent : goal.returns-clause-lent
returns-clause-lent c =
    let e = place_is c in
    let at = position-Some is_vacant c.self.inside.slots.items c.in_ok-place.place None e in
    lemmas.one_lent (held c) c.in_ok-place.place c.self.inside.slots.items at.0 at.1
    ∙ ap (λ (s : SeenParts). lent_in s.slots + 1) c.self.view_is
