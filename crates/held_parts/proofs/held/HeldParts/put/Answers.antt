use Rattle.std.proofs.Common.{ℕ, ◌∙◌, ◌≤◌, ◌==◌, ◌&&◌, Some, refl, sym, ap, subst}
use Rattle.s3_model.specs.declared.bytes.Part.{Part}
use Rattle.std.specs.Prelude.{if◌then◌else◌}
use Rattle.held_parts.specs.Held.{SeenParts, held_at, lent_in}
use Rattle.held_parts.specs.declared.held.Held.{Held}
use Rattle.held_parts.proofs.SlotLemmas as lemmas
use Rattle.held_parts.proofs.held.HeldParts.put.Goals as goal

abbrev with_part : (task number : ℕ) → Part → Held
with_part task number part = record { task = task; number = number; part = Some part }

pub invariant_of-self : goal.invariant_of-self
invariant_of-self c =
    let s : SeenParts = record { pool = c.self.inside.pool; slots = c.self.inside.slots.items } in
    let at = lemmas.placed c.args.self.now s c.args.task c.args.number c.place-place.result c.self.view_is c.place-place.ensures.place in
    lemmas.same_table c.args.task c.args.number s.pool s.slots c.place-place.result at c.self.invariant
    (with_part c.args.task c.args.number c.args.part) (refl, refl)
    (subst (λ (x : SeenParts). x.pool.room ≤ c.args.part.bytes.room) (sym c.self.view_is) c.requires.room)

pub returns-clause-held : goal.returns-clause-held
returns-clause-held c x y =
    let s : SeenParts = record { pool = c.self.inside.pool; slots = c.self.inside.slots.items } in
    let at = lemmas.placed c.args.self.now s c.args.task c.args.number c.place-place.result c.self.view_is c.place-place.ensures.place in
    lemmas.held_now c.args.task c.args.number s.pool s.slots c.place-place.result at c.self.invariant
    (Some (with_part c.args.task c.args.number c.args.part)) (refl, refl) x y
    ∙ ap (λ (z : SeenParts). if (c.args.task == x) && (c.args.number == y) then Some (Some c.args.part) else held_at z.slots x y)
    c.self.view_is

pub returns-clause-lent : goal.returns-clause-lent
returns-clause-lent c =
    let s : SeenParts = record { pool = c.self.inside.pool; slots = c.self.inside.slots.items } in
    let at = lemmas.placed c.args.self.now s c.args.task c.args.number c.place-place.result c.self.view_is c.place-place.ensures.place in
    lemmas.lent_now c.args.task c.args.number s.pool s.slots c.place-place.result at c.self.invariant
    (with_part c.args.task c.args.number c.args.part) ∙ ap (λ (z : SeenParts). lent_in z.slots) c.self.view_is
