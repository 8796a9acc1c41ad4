-- Pieces keep the parts that they have here.
use Rattle.std.proofs.Common.{◌≡◌, ◌∙◌, ◌==◌, ◌&&◌, ℕ, Bool, true, false, List, Option, Some, None, IfSome, refl, sym}
use Rattle.std.proofs.Common.{subst, ap, is_some, if◌then◌else◌}
use Rattle.std.proofs.lemmas.Bool.{eqb-true}
use Rattle.std.specs.Option.{option_map, option_or}
use Rattle.held_parts.specs.Held.{SeenParts, grown, held_at, here_at, inner, with_more}
use Rattle.part_tables.specs.Tables.{IsFreed, IsPut, IsPutWhere, Slots}
use Rattle.s3_model.specs.declared.bytes.Part.{Part}
use Rattle.task_acts.specs.declared.acts.Act.{Act}
use Rattle.task_acts.specs.declared.acts.Act.TheVariants as act
use Rattle.task_core.specs.Machine.{SeenTask}
use Rattle.move_laws.specs.Bytes.{KeepsBytes, no_part, only_at}
use Rattle.move_laws.specs.Calls.{IsBrought, IsFreedWhere, IsPlaced}

-- what is here now was brought, or was here before
abbrev IsFrom : (brought before now : Option Part) → Type 0
IsFrom brought before now = IfSome now (λ part. option_or brought before ≡ Some part)

first_counts : (o before : Option Part) → IfSome o (λ part. option_or o before ≡ Some part)
first_counts None before = tt
first_counts (Some part) before = refl

same_here : (o : Option Part) → IfSome o (λ part. o ≡ Some part)
same_here None = tt
same_here (Some part) = refl

pub bytes_same : (slots new : Slots) → new ≡ slots → KeepsBytes no_part slots new
bytes_same slots new e x y =
    subst (λ (z : Slots). IfSome (here_at z x y) (λ part. here_at slots x y ≡ Some part)) (sym e)
    (same_here (here_at slots x y))

pub bytes_then : (brought : ℕ → ℕ → Option Part) (a b c : Slots) → KeepsBytes brought a b → KeepsBytes no_part b c
    → KeepsBytes brought a c
bytes_then brought a b c one two x y = by (here_at c x y) (two x y)
  where
    by : (now : Option Part) → IfSome now (λ part. here_at b x y ≡ Some part)
        → IsFrom (brought x y) (here_at a x y) now
    by None kept = tt
    by (Some part) kept = subst (λ (o : Option Part). IsFrom (brought x y) (here_at a x y) o) kept (one x y)

-- ---- one piece

module _ (task number : ℕ) (part : Option (Option Part)) (slots new : Slots) (put : IsPut task number part slots new)
  where
    pub bytes_put : KeepsBytes (only_at task number (inner part)) slots new
    bytes_put x y =
        subst (λ (o : Option (Option Part)). IfSome (inner o)
        (λ p. option_or (only_at task number (inner part) x y) (here_at slots x y) ≡ Some p)) (sym (put x y))
        (by ((task == x) && (number == y)))
      where
        by : (b : Bool) → IfSome (inner (if b then part else held_at slots x y))
            (λ p. option_or (if b then inner part else None) (here_at slots x y) ≡ Some p)
        by true = first_counts (inner part) (here_at slots x y)
        by false = same_here (here_at slots x y)

    pub bytes_emptied : inner part ≡ None → KeepsBytes no_part slots new
    bytes_emptied none x y =
        subst (λ (o : Option (Option Part)). IfSome (inner o) (λ p. here_at slots x y ≡ Some p)) (sym (put x y))
        (by ((task == x) && (number == y)))
      where
        by : (b : Bool) → IfSome (inner (if b then part else held_at slots x y)) (λ p. here_at slots x y ≡ Some p)
        by true = subst (λ (o : Option Part). IfSome o (λ p. here_at slots x y ≡ Some p)) (sym none) tt
        by false = same_here (here_at slots x y)

pub bytes_away : (b : Bool) (task number : ℕ) (slots new : Slots) → IsPutWhere b task number (Some None) slots new
    → KeepsBytes no_part slots new
bytes_away true task number slots new put = bytes_emptied task number (Some None) slots new put refl
bytes_away false task number slots new same = bytes_same slots new same

pub bytes_placed : (task : ℕ) (called : Act) (slots new : Slots) → IsPlaced task called slots new
    → KeepsBytes no_part slots new
bytes_placed task (act.Place n) slots new put = bytes_emptied task n None slots new put refl
bytes_placed task (act.Read n) slots new same = bytes_same slots new same
bytes_placed task (act.Send o n) slots new same = bytes_same slots new same
bytes_placed task act.Assemble slots new same = bytes_same slots new same
bytes_placed task act.Rename slots new same = bytes_same slots new same
bytes_placed task act.DropTemp slots new same = bytes_same slots new same
bytes_placed task act.Remove slots new same = bytes_same slots new same
bytes_placed task act.Stamp slots new same = bytes_same slots new same

-- ---- a task that stops

pub bytes_freed : (task : ℕ) (kept : ℕ → Bool) (slots new : Slots) → IsFreed task kept slots new
    → KeepsBytes no_part slots new
bytes_freed task kept slots new freed x y =
    subst (λ (o : Option (Option Part)). IfSome (inner o) (λ p. here_at slots x y ≡ Some p)) (sym (freed x y))
    (by (task == x) (kept y) (held_at slots x y))
  where
    by : (its away : Bool) (held : Option (Option Part))
        → IfSome (inner (if its && is_some (inner (if its && away then None else held)) then None
        else if its && away then None else held)) (λ p. inner held ≡ Some p)
    by false away held = same_here (inner held)
    by true true held = tt
    by true false None = tt
    by true false (Some None) = tt
    by true false (Some (Some part)) = tt

pub bytes_freed_where : (stops : Bool) (task : ℕ) (t : SeenTask) (slots new : Slots)
    → IsFreedWhere stops task t slots new → KeepsBytes no_part slots new
bytes_freed_where true task t slots new freed = bytes_freed task _ slots new freed
bytes_freed_where false task t slots new same = bytes_same slots new same

-- one that hears of a cancel, where it had not failed
pub bytes_heard : (failing : Bool) (task : ℕ) (kept : ℕ → Bool) (parts new : SeenParts)
    → (failing ≡ false → IsFreed task kept parts.slots new.slots) → (failing ≡ true → new ≡ parts)
    → KeepsBytes no_part parts.slots new.slots
bytes_heard false task kept parts new freed same = bytes_freed task kept parts.slots new.slots (freed refl)
bytes_heard true task kept parts new freed same =
    bytes_same parts.slots new.slots (ap (λ (p : SeenParts). p.slots) (same refl))

-- ---- a piece that is read

abbrev more_at : Slots → (task number : ℕ) → List ℕ → Option Part
more_at slots task number bytes = option_map (with_more bytes) (here_at slots task number)

pub bytes_added : (task number : ℕ) (bytes : List ℕ) (slots new : Slots)
    → ((x y : ℕ) → held_at new x y
    ≡ (if (task == x) && (number == y) then grown bytes (held_at slots x y) else held_at slots x y))
    → KeepsBytes (only_at task number (option_map (with_more bytes) (here_at slots task number))) slots new
bytes_added task number bytes slots new added x y =
    subst (λ (o : Option (Option Part)). IsFrom (only_at task number (more_at slots task number bytes) x y)
    (here_at slots x y) (inner o)) (sym (added x y)) (by (task == x) (number == y) refl refl)
  where
    grow : (held : Option (Option Part))
        → IsFrom (option_map (with_more bytes) (inner held)) (inner held) (inner (grown bytes held))
    grow None = tt
    grow (Some None) = tt
    grow (Some (Some part)) = refl

    by : (a b : Bool) → (task == x) ≡ a → (number == y) ≡ b
        → IsFrom (if a && b then more_at slots task number bytes else None) (here_at slots x y)
        (inner (if a && b then grown bytes (held_at slots x y) else held_at slots x y))
    by true true e f =
        let at : here_at slots x y ≡ here_at slots task number =
        ap (λ (k : ℕ). here_at slots k y) (sym (eqb-true task x e))
        ∙ ap (λ (k : ℕ). here_at slots task k) (sym (eqb-true number y f)) in
        subst (λ (o : Option Part). IsFrom (option_map (with_more bytes) o) (here_at slots x y)
        (inner (grown bytes (held_at slots x y)))) at (grow (held_at slots x y))
    by true false e f = same_here (here_at slots x y)
    by false b e f = same_here (here_at slots x y)

-- ---- a job that comes back

module _ (task number : ℕ) (slots : Slots) where
  -- the part that came was away, and stays away
  still_away : (part : Option Part) → (is_some part ≡ true → held_at slots task number ≡ Some None)
      → KeepsBytes (only_at task number part) slots slots
  still_away part away x y = by (task == x) (number == y) refl refl
    where
      here : (came : Option Part) → (is_some came ≡ true → held_at slots task number ≡ Some None)
          → IsFrom came (here_at slots task number) (here_at slots task number)
      here None none = same_here (here_at slots task number)
      here (Some p) some = subst (λ (o : Option (Option Part)). IsFrom (Some p) (inner o) (inner o)) (sym (some refl))
          tt

      by : (a b : Bool) → (task == x) ≡ a → (number == y) ≡ b
          → IsFrom (if a && b then part else None) (here_at slots x y) (here_at slots x y)
      by true true e f = subst (λ (k : ℕ). IsFrom part (here_at slots k y) (here_at slots k y)) (eqb-true task x e)
          (subst (λ (k : ℕ). IsFrom part (here_at slots task k) (here_at slots task k)) (eqb-true number y f)
          (here part away))
      by true false e f = same_here (here_at slots x y)
      by false b e f = same_here (here_at slots x y)

  -- the part that came is free
  part_freed : (part : Part) (new : Slots) → IsPut task number None slots new
      → KeepsBytes (only_at task number (Some part)) slots new
  part_freed part new put x y = subst (λ (o : Option (Option Part)).
      IsFrom (only_at task number (Some part) x y) (here_at slots x y) (inner o)) (sym (put x y))
      (by ((task == x) && (number == y)))
    where
      by : (b : Bool) → IsFrom (if b then Some part else None) (here_at slots x y)
          (inner (if b then None else held_at slots x y))
      by true = tt
      by false = same_here (here_at slots x y)

  pub bytes_brought : (keeps : Bool) (part came : Option Part) (stays : Bool) (new : Slots)
      → came ≡ (if keeps then None else part) → (is_some part ≡ true → held_at slots task number ≡ Some None)
      → IsBrought task number came stays slots new → KeepsBytes (only_at task number part) slots new
  bytes_brought keeps part came stays new is away brought =
      by keeps part away (subst (λ (o : Option Part). IsBrought task number o stays slots new) is brought)
    where
      unchanged : (p : Option Part) → (is_some p ≡ true → held_at slots task number ≡ Some None) → new ≡ slots
          → KeepsBytes (only_at task number p) slots new
      unchanged p its same = subst (λ (z : Slots). KeepsBytes (only_at task number p) slots z) (sym same)
          (still_away p its)

      put : (b : Bool) (p : Part) → IsPut task number (if b then Some (Some p) else None) slots new
          → KeepsBytes (only_at task number (Some p)) slots new
      put true p its = bytes_put task number (Some (Some p)) slots new its
      put false p its = part_freed p new its

      by : (k : Bool) (p : Option Part) → (is_some p ≡ true → held_at slots task number ≡ Some None)
          → IsBrought task number (if k then None else p) stays slots new
          → KeepsBytes (only_at task number p) slots new
      by true p its same = unchanged p its same
      by false None its same = unchanged None its same
      by false (Some p) its moved = put stays p moved
