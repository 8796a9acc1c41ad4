-- A task that moves keeps its entity tags, and parts keep their room.
use Rattle.std.proofs.Common.{◌≡◌, ◌∙◌, ◌==◌, ◌<◌, ℕ, Bool, true, false, List, Option, Some, None}
use Rattle.std.proofs.Common.{refl, sym, subst, ap, inl, inr, get_or, length, length-set, set, if◌then◌else◌}
use Rattle.std.proofs.lemmas.Bool.{cases_lt, eqb-true}
use Rattle.std.proofs.lemmas.List.{get_or_past}
use Rattle.std.specs.Prelude.{is_some}
use Rattle.held_parts.specs.Held.{IsSamePool, SeenParts}
use Rattle.lane_queues.specs.Lanes.{SeenLanes}
use Rattle.manager_moves.proofs.CountLemmas.{no}
use Rattle.manager_moves.proofs.HoldLemmas.{same_number}
use Rattle.manager_moves.proofs.PartLaws.{nothing}
use Rattle.s3_model.specs.declared.outcomes.Outcome.{Outcome}
use Rattle.task_core.specs.Machine.{SeenTask}
use Rattle.move_laws.proofs.Moving.{set_at}
use Rattle.move_laws.proofs.Settled.{between}
use Rattle.move_laws.specs.Kept.{SeenMoves, at_task, slot_for, state_at, with_slot, with_state}
use Rattle.move_laws.specs.Making.{with_lost, with_made}
use Rattle.move_laws.specs.Steady.{IsSteady, IsSteadyBut, has_tags}

pub slot_there : (m : SeenMoves) (task : ℕ) (t : SeenTask) → state_at m task ≡ Some t → task < length m.slots
slot_there m task t e = elim (cases_lt task (length m.slots)) [
  | inl below ↦ below
  | inr past ↦ absurd (nothing (sym (get_or_past m.slots task None past) ∙ e))
]

pub steady_same : (m : SeenMoves) → IsSteady m m
steady_same m = record { room = refl; went_on = λ n there. there; tags = λ n there. refl }

pub steady_then : (a b c : SeenMoves) → IsSteady a b → IsSteady b c → IsSteady a c
steady_then a b c one two = record {
  room = two.room ∙ one.room;
  went_on = λ n there. one.went_on n (two.went_on n there);
  tags = λ n there. two.tags n there ∙ one.tags n (two.went_on n there);
}

abbrev tags_for : (ended : Option Outcome) → SeenTask → Option SeenTask
tags_for ended t = if is_some ended then None else Some t

slot_tags : (ended : Option Outcome) (t : SeenTask) → is_some (tags_for ended t) ≡ true
    → has_tags (tags_for ended t) ≡ is_some t.tags
slot_tags None t e = refl
slot_tags (Some x) t e = no e

module _ (task : ℕ) (t t2 : SeenTask) (parts : SeenParts) (lanes : SeenLanes) (m new : SeenMoves)
    (slot : state_at m task ≡ Some t) (tags : is_some t2.tags ≡ is_some t.tags)
    (pool : IsSamePool m.parts.pool parts.pool) (is : new ≡ with_state task t2 (between task parts lanes m)) where
  within : task < length m.slots
  within = slot_there m task t slot

  -- its place holds it if it goes on, and each other place what it held
  at : (n : ℕ) → state_at new n ≡ at_task task n (slot_for t2) (at_task task n None (state_at m n))
  at n =
      ap (λ (x : SeenMoves). state_at x n) is
      ∙ set_at None (set m.slots task None) task (slot_for t2)
      (subst (λ (k : ℕ). task < k) (sym (length-set m.slots task None)) within) n
      ∙ ap (λ (x : Option SeenTask). at_task task n (slot_for t2) x) (set_at None m.slots task None within n)

  same_tags : (n : ℕ) (b : Bool) → (task == n) ≡ b
      → is_some (if b then slot_for t2 else if b then None else state_at m n) ≡ true
      → has_tags (if b then slot_for t2 else if b then None else state_at m n) ≡ has_tags (state_at m n)
  same_tags n true e there =
      slot_tags t2.outcome t2 there ∙ tags ∙ ap has_tags (sym slot)
      ∙ ap (λ (k : ℕ). has_tags (state_at m k)) (eqb-true task n e)
  same_tags n false e there = refl

  -- a task that goes on went on before
  went_on_by : (n : ℕ) (b : Bool) → (task == n) ≡ b
      → is_some (if b then slot_for t2 else if b then None else state_at m n) ≡ true → is_some (state_at m n) ≡ true
  went_on_by n true e there = ap (λ (k : ℕ). is_some (state_at m k)) (sym (eqb-true task n e))
      ∙ ap (λ (o : Option SeenTask). is_some o) slot
  went_on_by n false e there = there

  pub steady_moved : IsSteady m new
  steady_moved = record {
    room = ap (λ (x : SeenMoves). x.parts.pool.room) is ∙ pool.room;
    went_on = λ n there. went_on_by n (task == n) refl (sym (ap (λ (o : Option SeenTask). is_some o) (at n)) ∙ there);
    tags = λ n there. ap has_tags (at n)
        ∙ same_tags n (task == n) refl (sym (ap (λ (o : Option SeenTask). is_some o) (at n)) ∙ there);
  }

-- where the slots and the room of parts are the same
pub steady_as : (m new : SeenMoves) → new.slots ≡ m.slots → new.parts.pool.room ≡ m.parts.pool.room → IsSteady m new
steady_as m new slots room = record {
  room = room;
  went_on = λ n there. sym (ap (λ (xs : List (Option SeenTask)). is_some (get_or xs n None)) slots) ∙ there;
  tags = λ n there. ap (λ (xs : List (Option SeenTask)). has_tags (get_or xs n None)) slots;
}

-- ---- a task that is made

module _ (m new : SeenMoves) (within : m.made < length m.slots) where
  -- it goes on in that state, or has ended in it
  pub steady_made : (t t2 : SeenTask) → is_some t2.tags ≡ is_some t.tags → new ≡ with_state m.made t2 (with_made m)
      → IsSteadyBut (Some t) m new
  steady_made t t2 tags is = record {
    room = ap (λ (x : SeenMoves). x.parts.pool.room) is;
    others = λ n apart. at n ∙ ap (λ (b : Bool). if b then slot_for t2 else state_at m n) apart;
    went_on = λ there. refl;
    its = λ there. ap has_tags here
        ∙ slot_tags t2.outcome t2 (sym (ap (λ (o : Option SeenTask). is_some o) here) ∙ there) ∙ tags;
  }
    where
      at : (n : ℕ) → state_at new n ≡ at_task m.made n (slot_for t2) (state_at m n)
      at n = ap (λ (x : SeenMoves). state_at x n) is ∙ set_at None m.slots m.made (slot_for t2) within n

      here : state_at new m.made ≡ slot_for t2
      here = at m.made ∙ ap (λ (b : Bool). if b then slot_for t2 else state_at m m.made) (same_number m.made)

  pub steady_lost : (given : Option SeenTask) → new ≡ with_lost m → IsSteadyBut given m new
  steady_lost given is = record {
    room = ap (λ (x : SeenMoves). x.parts.pool.room) is;
    others = λ n apart. at n ∙ ap (λ (b : Bool). if b then None else state_at m n) apart;
    went_on = λ there. no (gone there);
    its = λ there. no (gone there);
  }
    where
      at : (n : ℕ) → state_at new n ≡ at_task m.made n None (state_at m n)
      at n = ap (λ (x : SeenMoves). state_at x n) is ∙ set_at None m.slots m.made None within n

      gone : is_some (state_at new m.made) ≡ true → false ≡ true
      gone there = sym (ap (λ (o : Option SeenTask). is_some o)
          (at m.made ∙ ap (λ (b : Bool). if b then None else state_at m m.made) (same_number m.made))) ∙ there

pub slot_apart : (m : SeenMoves) (task n : ℕ) (x : Option SeenTask) → task < length m.slots → (task == n) ≡ false
    → state_at (with_slot task x m) n ≡ state_at m n
slot_apart m task n x within apart =
    set_at None m.slots task x within n ∙ ap (λ (b : Bool). if b then x else state_at m n) apart
