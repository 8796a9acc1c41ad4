use Rattle.std.proofs.Common.{◌∙◌, ◌≤◌, ◌==◌, ◌&&◌, ℕ, None, Some, Option, refl, sym, ap, set, subst}
use Rattle.std.specs.Prelude.{if◌then◌else◌}
use Rattle.held_parts.specs.Held.{IsHere, SeenParts, held_at, lent_in, part_of}
use Rattle.held_parts.specs.declared.held.Held.{Held}
use Rattle.held_parts.proofs.SlotLemmas as lemmas
use Rattle.held_parts.proofs.held.HeldParts.take.Goals as goal

abbrev away : (task number : ℕ) → Held
away task number = record { task = task; number = number; part = None }

pub into_part-requires : goal.into_part-requires
into_part-requires c =
    let s : SeenParts = record { pool = c.self.inside.pool; slots = c.self.inside.slots.items } in
    let at = lemmas.placed c.args.self.now s c.args.task c.args.number c.place-place.result c.self.view_is c.place-place.ensures.place in
    let was = lemmas.stood c.args.task c.args.number s.pool s.slots c.place-place.result at c.self.invariant c.replace-before.result
    c.index_mut.result.now (c.replace-before.ensures.value ∙ c.index_mut.ensures.value) in
    lemmas.part_here c.args.task c.args.number s.pool s.slots c.place-place.result at c.self.invariant c.replace-before.result
    (ap (λ (x : Option Held). x) was) (subst (λ (x : SeenParts). IsHere (held_at x.slots c.args.task c.args.number)) (sym c.self.view_is) c.requires)

pub invariant_of-self : goal.invariant_of-self
invariant_of-self c =
    let s : SeenParts = record { pool = c.self.inside.pool; slots = c.self.inside.slots.items } in
    let at = lemmas.placed c.args.self.now s c.args.task c.args.number c.place-place.result c.self.view_is c.place-place.ensures.place in
    rw c.replace-before.ensures.after (lemmas.same_table c.args.task c.args.number s.pool s.slots c.place-place.result at c.self.invariant
    (away c.args.task c.args.number) (refl, refl) tt)

pub returns-clause-part : goal.returns-clause-part
returns-clause-part c =
    let s : SeenParts = record { pool = c.self.inside.pool; slots = c.self.inside.slots.items } in
    let at = lemmas.placed c.args.self.now s c.args.task c.args.number c.place-place.result c.self.view_is c.place-place.ensures.place in
    let was = lemmas.stood c.args.task c.args.number s.pool s.slots c.place-place.result at c.self.invariant c.replace-before.result
    c.index_mut.result.now (c.replace-before.ensures.value ∙ c.index_mut.ensures.value) in
    ap (λ (x : SeenParts). held_at x.slots c.args.task c.args.number) (sym c.self.view_is)
    ∙ lemmas.part_is c.args.task c.args.number s.pool s.slots c.place-place.result at c.self.invariant c.replace-before.result
    c.into_part.result was c.into_part.ensures

pub returns-clause-room : goal.returns-clause-room
returns-clause-room c =
    let s : SeenParts = record { pool = c.self.inside.pool; slots = c.self.inside.slots.items } in
    let at = lemmas.placed c.args.self.now s c.args.task c.args.number c.place-place.result c.self.view_is c.place-place.ensures.place in
    let was = lemmas.stood c.args.task c.args.number s.pool s.slots c.place-place.result at c.self.invariant c.replace-before.result
    c.index_mut.result.now (c.replace-before.ensures.value ∙ c.index_mut.ensures.value) in
    subst (λ (x : SeenParts). x.pool.room ≤ c.into_part.result.bytes.room) c.self.view_is
    (lemmas.part_room c.args.task c.args.number s.pool s.slots c.place-place.result at c.self.invariant c.into_part.result
    (ap part_of (sym was) ∙ c.into_part.ensures))

pub returns-clause-held : goal.returns-clause-held
returns-clause-held c x y =
    let s : SeenParts = record { pool = c.self.inside.pool; slots = c.self.inside.slots.items } in
    let at = lemmas.placed c.args.self.now s c.args.task c.args.number c.place-place.result c.self.view_is c.place-place.ensures.place in
    ap (λ (n : Option Held). held_at (set s.slots c.place-place.result n) x y) c.replace-before.ensures.after
    ∙ lemmas.held_now c.args.task c.args.number s.pool s.slots c.place-place.result at c.self.invariant
    (Some (away c.args.task c.args.number)) (refl, refl) x y
    ∙ ap (λ (z : SeenParts). if (c.args.task == x) && (c.args.number == y) then Some None else held_at z.slots x y) c.self.view_is

pub returns-clause-lent : goal.returns-clause-lent
returns-clause-lent c =
    let s : SeenParts = record { pool = c.self.inside.pool; slots = c.self.inside.slots.items } in
    let at = lemmas.placed c.args.self.now s c.args.task c.args.number c.place-place.result c.self.view_is c.place-place.ensures.place in
    ap (λ (n : Option Held). lent_in (set s.slots c.place-place.result n)) c.replace-before.ensures.after
    ∙ lemmas.lent_now c.args.task c.args.number s.pool s.slots c.place-place.result at c.self.invariant
    (away c.args.task c.args.number)
    ∙ ap (λ (z : SeenParts). lent_in z.slots) c.self.view_is
