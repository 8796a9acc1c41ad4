-- The parts of the jobs that a task keeps, as they are freed one after the other.
use Rattle.std.proofs.Common.{◌≡◌, ◌≢◌, ◌∙◌, ◌==◌, ◌&&◌, ◌+◌, ◌<◌, ◌≤◌, ℕ, Bool, true, false, Option, None}
use Rattle.std.proofs.Common.{refl, sym, ap, arith, nat_lt, if◌then◌else◌}
use Rattle.std.proofs.lemmas.Bool.{eqb-true, le-ltb, lt-ltb, ltb-false, ltb-true}
use Rattle.held_parts.specs.Held.{held_at}
use Rattle.manager_moves.proofs.CountLemmas.{no}
use Rattle.part_tables.specs.Tables.{IsPutWhere, Slots}
use Rattle.s3_model.specs.declared.bytes.Part.{Part}

none_right : (b : Bool) → (b && false) ≡ false
none_right true = refl
none_right false = refl

all_right : (b : Bool) → (b && true) ≡ b
all_right true = refl
all_right false = refl

-- one piece of the task, and any other
freed_own : (b h k : Bool) (old init : Option (Option Part)) → k ≡ h → old ≡ (if b && (k && false) then None else init)
    → (if b && true && h then None else old) ≡ (if b && (k && true) then None else init)
freed_own false h k old init e f = f
freed_own true true true old init e f = refl
freed_own true false false old init e f = f
freed_own true true false old init e f = no e
freed_own true false true old init e f = no (sym e)

freed_other : (b h : Bool) (old : Option (Option Part)) → (if b && false && h then None else old) ≡ old
freed_other true h old = refl
freed_other false h old = refl

-- a part that is free where there was one
pub none_where : (b : Bool) (task number : ℕ) (slots new : Slots) → IsPutWhere b task number None slots new → (x y : ℕ)
    → held_at new x y ≡ (if (task == x) && (number == y) && b then None else held_at slots x y)
none_where true task number slots new put x y =
    put x y ∙ ap (λ (b : Bool). if b then None else held_at slots x y) (sym (all_right ((task == x) && (number == y))))
none_where false task number slots new same x y =
    ap (λ (z : Slots). held_at z x y) same
    ∙ ap (λ (b : Bool). if b then None else held_at slots x y) (sym (none_right ((task == x) && (number == y))))

module _ (first count : ℕ) (has : ℕ → Bool) where
  -- the pieces from the first on that have a part
  abbrev is_its : ℕ → Bool
  is_its n = nat_lt n (first + count) && nat_lt first (n + 1) && has n

  before_first : (n : ℕ) (b : Bool) → nat_lt n first ≡ b → (is_its n && b) ≡ false
  before_first n false e = none_right (is_its n)
  before_first n true e =
      let l = ltb-true n first e in
      ap (λ (b : Bool). (nat_lt n (first + count) && b && has n) && true) (le-ltb first (n + 1) (omega arith))
      ∙ ap (λ (b : Bool). (b && has n) && true) (none_right (nat_lt n (first + count)))

  pub none_freed : (n : ℕ) → (is_its n && nat_lt n first) ≡ false
  none_freed n = before_first n (nat_lt n first) refl

  pub all_freed : (n : ℕ) → (is_its n && nat_lt n (first + count)) ≡ is_its n
  all_freed n = by (nat_lt n (first + count)) (nat_lt first (n + 1)) (has n)
    where
      by : (a b c : Bool) → ((a && b && c) && a) ≡ (a && b && c)
      by true b c = all_right (b && c)
      by false b c = refl

  module _ (task number : ℕ) (from : first ≤ number) (below : number < first + count) (h : Bool) (h_is : has number ≡ h)
      (x : ℕ) (old init : ℕ → Option (Option Part))
      (so_far : (y : ℕ) → old y ≡ (if (task == x) && (is_its y && nat_lt y number) then None else init y)) where
    its_is : is_its number ≡ has number
    its_is =
        ap (λ (b : Bool). b && nat_lt first (number + 1) && has number) (lt-ltb number (first + count) below)
        ∙ ap (λ (b : Bool). b && has number) (lt-ltb first (number + 1) (omega arith))

    own : (y : ℕ) → (number == y) ≡ true
        → (if (task == x) && true && h then None else old y)
        ≡ (if (task == x) && (is_its y && nat_lt y (number + 1)) then None else init y)
    own y e =
        let same = eqb-true number y e in
        freed_own (task == x) h (is_its y) (old y) (init y)
        (ap is_its (sym same) ∙ its_is ∙ h_is)
        (so_far y ∙ ap (λ (b : Bool). if (task == x) && (is_its y && b) then None else init y)
        (le-ltb y number (omega arith)))
        ∙ sym (ap (λ (b : Bool). if (task == x) && (is_its y && b) then None else init y)
        (lt-ltb y (number + 1) (omega arith)))

    later : (y : ℕ) → (number == y) ≡ false → (b : Bool) → nat_lt y number ≡ b → nat_lt y (number + 1) ≡ b
    later y e true l = lt-ltb y (number + 1) (let k = ltb-true y number l in omega arith)
    later y e false l =
        le-ltb y (number + 1) (let k = ltb-false y number l in let d : number ≢ y = grind arith in omega arith)

    other : (y : ℕ) → (number == y) ≡ false
        → (if (task == x) && false && h then None else old y)
        ≡ (if (task == x) && (is_its y && nat_lt y (number + 1)) then None else init y)
    other y e =
        freed_other (task == x) h (old y) ∙ so_far y
        ∙ ap (λ (b : Bool). if (task == x) && (is_its y && b) then None else init y)
        (sym (later y e (nat_lt y number) refl))

    pub one_freed : (y : ℕ) → (if (task == x) && (number == y) && h then None else old y)
        ≡ (if (task == x) && (is_its y && nat_lt y (number + 1)) then None else init y)
    one_freed y = by (number == y) refl
      where
        by : (b : Bool) → (number == y) ≡ b → (if (task == x) && b && h then None else old y)
            ≡ (if (task == x) && (is_its y && nat_lt y (number + 1)) then None else init y)
        by true e = own y e
        by false e = other y e
