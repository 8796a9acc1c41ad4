-- What pieces hold where one place changes.
use Rattle.std.proofs.Common.{◌≡◌, ◌∙◌, ◌<◌, ◌≤◌, ◌^◌, ◌+◌, ◌-◌, ◌++◌, ◌==◌, ◌&&◌, ℕ, zero, suc, Bool, true, false, not, List, [], ◌∷◌, Option, Some, None, get_or, set, length, map, take, drop, replicate, refl, sym, ap, subst, arith, is_some, nat_lt, if◌then◌else◌}
use Rattle.std.specs.List.{position, position_or_len}
use Rattle.std.proofs.lemmas.Bool.{and_parts, eqb-true, ltb-false}
use Rattle.std.proofs.lemmas.List.{get_or_default, length-replicate, length-set}
use Rattle.std.proofs.lemmas.List.Quantifiers.{position-Some}
use Rattle.std.proofs.lemmas.List.Sums.{count_by-le-length}
use Rattle.std.proofs.lemmas.Grind.{common_steps}
use Rattle.s3_model.specs.declared.bytes.Part.{Part}
use Rattle.held_parts.specs.declared.held.Held.{Held}
use Rattle.chunk_plan.specs.Pool.{Pool}
use Rattle.held_parts.specs.Held.{AreSingle, HasRoomIn, IsTable, SeenParts, HaveRoom, HasRoom, HoldsNone, IsHere, held_at, inner, is_here_of, stopped, stopped_at, is_of, is_vacant, lent_in, part_of}

no : {P : Type 0} → false ≡ true → P
no e = cc

clash : {X : Type 0} {P : Type 0} {x : X} → Some x ≡ None → P
clash e = cc

no_part : {X : Type 0} {P : Type 0} {x : X} → None ≡ Some x → P
no_part e = cc

same_some : {X : Type 0} {x y : X} → Some x ≡ Some y → x ≡ y
same_some e = cc

-- ---- pieces

-- numbers that are the same hold the same
same_piece : (slots : List (Option Held)) (a b x y : ℕ) → ((a == x) && (b == y)) ≡ true → held_at slots a b ≡ held_at slots x y
same_piece slots a b x y e =
    let each = and_parts (a == x) (b == y) e in
    ap (λ (t : ℕ). held_at slots t b) (eqb-true a x each.0) ∙ ap (held_at slots x) (eqb-true b y each.1)

both : (a b c d x y : ℕ) → ((a == x) && (b == y)) ≡ true → ((c == x) && (d == y)) ≡ true → ((c == a) && (d == b)) ≡ true
both a b c d x y e f = grind arith

-- who holds nothing stands at no place
none_here : (b : Bool) (s : Option Held) (rest : Option (Option Part)) → (b ≡ true → is_some s ≡ true)
    → (if b then part_of s else rest) ≡ None → (b ≡ false) × (rest ≡ None)
none_here true None rest h e = no (h refl)
none_here true (Some held) rest h e = clash e
none_here false s rest h e = (refl, e)

of_some : (task number : ℕ) (s : Option Held) → is_of task number s ≡ true → is_some s ≡ true
of_some task number None e = no e
of_some task number (Some held) e = refl

holds_none : (task number : ℕ) (s : Option Held) (slots : List (Option Held)) → held_at (s ∷ slots) task number ≡ None
    → (is_of task number s ≡ false) × (held_at slots task number ≡ None)
holds_none task number s slots e =
    none_here (is_of task number s) s (held_at slots task number) (of_some task number s) e

-- what stands at a place is held
stands : (task number k : ℕ) (slots : List (Option Held)) → is_of task number (get_or slots k None) ≡ true
    → held_at slots task number ≡ None → false ≡ true
stands task number k [] is e = is
stands task number zero (s ∷ slots) is e = sym (holds_none task number s slots e).0 ∙ is
stands task number (suc k) (s ∷ slots) is e = stands task number k slots is (holds_none task number s slots e).1

-- ---- a free part is lent

module _ (h : Held) where
  abbrev by_piece : ℕ → ℕ → Option (Option Part) → Option (Option Part)
  by_piece x y before = if (h.task == x) && (h.number == y) then Some h.part else before

  swap : (x y : ℕ) (b p : Bool) (part rest : Option (Option Part)) → (b ≡ true → p ≡ true → false ≡ true)
      → (if b then part else (if p then Some h.part else rest)) ≡ (if p then Some h.part else (if b then part else rest))
  swap x y true true part rest never = no (never refl refl)
  swap x y true false part rest never = refl
  swap x y false p part rest never = refl

  apart : (x y : ℕ) (s : Option Held) → is_of h.task h.number s ≡ false → is_of x y s ≡ true
      → ((h.task == x) && (h.number == y)) ≡ true → false ≡ true
  apart x y None e f same = f
  apart x y (Some g) e f same = sym e ∙ both h.task h.number g.task g.number x y same f

  pub lent_at : (k : ℕ) (slots : List (Option Held)) → k < length slots → is_vacant (get_or slots k None) ≡ true
      → held_at slots h.task h.number ≡ None → (x y : ℕ)
      → held_at (set slots k (Some h)) x y ≡ by_piece x y (held_at slots x y)
  lent_at k [] inside vacant none x y = absurd (omega arith)
  lent_at zero (None ∷ slots) inside vacant none x y = refl
  lent_at zero (Some g ∷ slots) inside vacant none x y = no vacant
  lent_at (suc k) (s ∷ slots) inside vacant none x y =
      let parts = holds_none h.task h.number s slots none in
      ap (λ (rest : Option (Option Part)). if is_of x y s then part_of s else rest)
      (lent_at k slots (omega arith) vacant parts.1 x y)
      ∙ swap x y (is_of x y s) ((h.task == x) && (h.number == y)) (part_of s) (held_at slots x y)
      (apart x y s parts.0)

  differs : (g : Held) → is_of h.task h.number (Some g) ≡ false → ((h.task == g.task) && (h.number == g.number)) ≡ false
  differs g e = grind arith

  pub lent_single : (k : ℕ) (slots : List (Option Held)) → k < length slots → is_vacant (get_or slots k None) ≡ true
      → held_at slots h.task h.number ≡ None → AreSingle slots → AreSingle (set slots k (Some h))
  lent_single k [] inside vacant none single = absurd (omega arith)
  lent_single zero (s ∷ slots) inside vacant none single = ((holds_none h.task h.number s slots none).1, single.1)
  lent_single (suc k) (None ∷ slots) inside vacant none single =
      (tt, lent_single k slots (omega arith) vacant (holds_none h.task h.number None slots none).1 single.1)
  lent_single (suc k) (Some g ∷ slots) inside vacant none single =
      let parts = holds_none h.task h.number (Some g) slots none in (
        lent_at k slots (omega arith) vacant parts.1 g.task g.number
            ∙ ap (λ (b : Bool). if b then Some h.part else held_at slots g.task g.number) (differs g parts.0) ∙ single.0,
        lent_single k slots (omega arith) vacant parts.1 single.1,
      )

-- ---- a place of a piece changes

-- the place is vacant now, or has the same piece
abbrev pub IsOf : (task number : ℕ) → Option Held → Type 0
IsOf task number None = Unit {0}
IsOf task number (Some held) = (held.task ≡ task) × (held.number ≡ number)

module _ (task number : ℕ) where
  abbrev pub changed : ℕ → ℕ → Option Held → Option (Option Part) → Option (Option Part)
  changed x y s before = if (task == x) && (number == y) then part_of s else before

  its_own : (x y : ℕ) (h : Held) → (h.task ≡ task) × (h.number ≡ number) → is_of x y (Some h) ≡ ((task == x) && (number == y))
  its_own x y h own = rw (own.0, own.1) refl

  removed : (b c : Bool) (part rest : Option (Option Part)) → c ≡ b → (b ≡ true → rest ≡ None)
      → rest ≡ (if b then None else (if c then part else rest))
  removed true c part rest e alone = alone refl
  removed false true part rest e alone = no (sym e)
  removed false false part rest e alone = refl

  replaced : (d b c : Bool) (new part rest : Option (Option Part)) → d ≡ b → c ≡ b
      → (if d then new else rest) ≡ (if b then new else (if c then part else rest))
  replaced true true c new part rest e f = refl
  replaced true false c new part rest e f = no (sym e)
  replaced false true c new part rest e f = no e
  replaced false false true new part rest e f = no (sym f)
  replaced false false false new part rest e f = refl

  swap_later : (b p : Bool) (part new rest : Option (Option Part)) → (b ≡ true → p ≡ true → false ≡ true)
      → (if b then part else (if p then new else rest)) ≡ (if p then new else (if b then part else rest))
  swap_later true true part new rest never = no (never refl refl)
  swap_later true false part new rest never = refl
  swap_later false p part new rest never = refl

  numbers_of : (g : Held) → is_of task number (Some g) ≡ true → (g.task ≡ task) × (g.number ≡ number)
  numbers_of g e = let each = and_parts (g.task == task) (g.number == number) e in
      (eqb-true g.task task each.0, eqb-true g.number number each.1)

  -- no place behind that of a piece has it too
  alone : (g : Held) (slots : List (Option Held)) → is_of task number (Some g) ≡ true → held_at slots g.task g.number ≡ None
      → held_at slots task number ≡ None
  alone g slots e none = let own = numbers_of g e in
      subst (λ (n : ℕ). held_at slots task n ≡ None) own.1
      (subst (λ (t : ℕ). held_at slots t g.number ≡ None) own.0 none)

  twice : (x y k : ℕ) (s : Option Held) (slots : List (Option Held)) → HoldsNone slots s → is_of task number (get_or slots k None) ≡ true
      → is_of x y s ≡ true → ((task == x) && (number == y)) ≡ true → false ≡ true
  twice x y k None slots none is e same = e
  twice x y k (Some g) slots none is e same =
      stands task number k slots is (alone g slots (both task number g.task g.number x y same e) none)

  pub changed_at : (k : ℕ) (slots : List (Option Held)) (n : Option Held) → k < length slots
      → is_of task number (get_or slots k None) ≡ true → IsOf task number n → AreSingle slots → (x y : ℕ)
      → held_at (set slots k n) x y ≡ changed x y n (held_at slots x y)
  changed_at k [] n inside is own single x y = absurd (omega arith)
  changed_at zero (None ∷ slots) n inside is own single x y = no is
  changed_at zero (Some g ∷ slots) None inside is own single x y =
      removed ((task == x) && (number == y)) (is_of x y (Some g)) (Some g.part) (held_at slots x y)
      (its_own x y g (numbers_of g is))
      (λ same. sym (same_piece slots task number x y same) ∙ alone g slots is single.0)
  changed_at zero (Some g ∷ slots) (Some h) inside is own single x y =
      replaced (is_of x y (Some h)) ((task == x) && (number == y)) (is_of x y (Some g)) (Some h.part) (Some g.part)
      (held_at slots x y) (its_own x y h own) (its_own x y g (numbers_of g is))
  changed_at (suc k) (s ∷ slots) n inside is own single x y =
      ap (λ (rest : Option (Option Part)). if is_of x y s then part_of s else rest)
      (changed_at k slots n (omega arith) is own single.1 x y)
      ∙ swap_later (is_of x y s) ((task == x) && (number == y)) (part_of s) (part_of n) (held_at slots x y)
      (twice x y k s slots single.0 is)

  none_new : (slots : List (Option Held)) (n : Option Held) → IsOf task number n → held_at slots task number ≡ None → HoldsNone slots n
  none_new slots None own none = tt
  none_new slots (Some h) own none = rw (own.0, own.1) none

  not_same : (k : ℕ) (g : Held) (slots : List (Option Held)) → is_of task number (get_or slots k None) ≡ true
      → held_at slots g.task g.number ≡ None → (b : Bool) → ((task == g.task) && (number == g.number)) ≡ b → b ≡ false
  not_same k g slots is none true e = no (stands task number k slots is (same_piece slots task number g.task g.number e ∙ none))
  not_same k g slots is none false e = refl

  pub changed_single : (k : ℕ) (slots : List (Option Held)) (n : Option Held) → k < length slots
      → is_of task number (get_or slots k None) ≡ true → IsOf task number n → AreSingle slots → AreSingle (set slots k n)
  changed_single k [] n inside is own single = absurd (omega arith)
  changed_single zero (None ∷ slots) n inside is own single = no is
  changed_single zero (Some g ∷ slots) n inside is own single = (none_new slots n own (alone g slots is single.0), single.1)
  changed_single (suc k) (None ∷ slots) n inside is own single =
      (tt, changed_single k slots n (omega arith) is own single.1)
  changed_single (suc k) (Some g ∷ slots) n inside is own single =
      let b = (task == g.task) && (number == g.number) in (
        changed_at k slots n (omega arith) is own single.1 g.task g.number
            ∙ ap (λ (p : Bool). if p then part_of n else held_at slots g.task g.number) (not_same k g slots is single.0 b refl) ∙ single.0,
        changed_single k slots n (omega arith) is own single.1,
      )

-- ---- how many are lent

pub one_lent : (h : Held) (k : ℕ) (slots : List (Option Held)) → k < length slots → is_vacant (get_or slots k None) ≡ true
    → lent_in (set slots k (Some h)) ≡ lent_in slots + 1
one_lent h k [] inside vacant = absurd (omega arith)
one_lent h zero (None ∷ slots) inside vacant = grind (arith, common_steps)
one_lent h zero (Some g ∷ slots) inside vacant = no vacant
one_lent h (suc k) (s ∷ slots) inside vacant =
    let rest = one_lent h k slots (omega arith) vacant in grind (arith, common_steps)

pub as_lent : (s : Option Held) (k : ℕ) (slots : List (Option Held)) → k < length slots → is_some s ≡ is_some (get_or slots k None)
    → lent_in (set slots k s) ≡ lent_in slots
as_lent s k [] inside same = refl
as_lent s zero (r ∷ slots) inside same = grind (arith, common_steps)
as_lent s (suc k) (r ∷ slots) inside same =
    let rest = as_lent s k slots (omega arith) same in grind (arith, common_steps)

pub one_back : (k : ℕ) (slots : List (Option Held)) → k < length slots → is_some (get_or slots k None) ≡ true
    → lent_in (set slots k None) + 1 ≡ lent_in slots
one_back k [] inside is = absurd (omega arith)
one_back zero (None ∷ slots) inside is = no is
one_back zero (Some g ∷ slots) inside is = grind (arith, common_steps)
one_back (suc k) (s ∷ slots) inside is =
    let rest = one_back k slots (omega arith) is in grind (arith, common_steps)

-- someone holds a part
pub back_some : (slots : List (Option Held)) (k : ℕ) → is_some (get_or slots k None) ≡ true → 0 < lent_in slots
back_some [] k is = no is
back_some (None ∷ slots) zero is = no is
back_some (Some g ∷ slots) zero is = grind (arith, common_steps)
back_some (s ∷ slots) (suc k) is = let rest = back_some slots k is in grind (arith, common_steps)

-- a place is free unless all are lent
pub some_free : (slots : List (Option Held)) (k : ℕ) → position is_vacant slots ≡ Some k → lent_in slots < length slots
some_free slots k e =
    let at = position-Some is_vacant slots k None e in
    let h : Held = record { task = 0; number = 0; part = None } in
    let one = one_lent h k slots at.0 at.1 in
    let most = count_by-le-length is_some (set slots k (Some h)) in
    let same = length-set slots k (Some h) in
    omega arith

past : (b : Bool) (a n : ℕ) → nat_lt a n ≡ b → (if b then Some a else None) ≡ None → n ≤ a
past true a n l e = clash e
past false a n l e = ltb-false a n l

none_left : (slots : List (Option Held)) → length slots ≤ position_or_len is_vacant slots → lent_in slots ≡ length slots
none_left [] l = refl
none_left (None ∷ slots) l = absurd (grind (arith, common_steps))
none_left (Some h ∷ slots) l =
    let rest = none_left slots (grind (arith, common_steps)) in grind (arith, common_steps)

pub none_free : (slots : List (Option Held)) → position is_vacant slots ≡ None → lent_in slots ≡ length slots
none_free slots e =
    none_left slots (past (nat_lt (position_or_len is_vacant slots) (length slots)) (position_or_len is_vacant slots)
    (length slots) refl e)

-- ---- the room of what is here

pub room_set : (room k : ℕ) (slots : List (Option Held)) (s : Option Held) → HasRoom room s → HaveRoom room slots
    → HaveRoom room (set slots k s)
room_set room k [] s has all = tt
room_set room zero (r ∷ slots) s has all = (has, all.1)
room_set room (suc k) (r ∷ slots) s has all = (all.0, room_set room k slots s has all.1)

room_of : (room : ℕ) (s : Option Held) (part : Part) → HasRoom room s → part_of s ≡ Some (Some part) → room ≤ part.bytes.room
room_of room None part has is = no_part is
room_of room (Some held) part has is = subst (HasRoomIn room) (same_some is) has

pub part_taken : (s : Option Held) (part : Part) → part_of s ≡ Some (Some part) → is_some s ≡ true
part_taken None part is = no_part is
part_taken (Some held) part is = refl

pub room_at : (room k : ℕ) (slots : List (Option Held)) (part : Part) → HaveRoom room slots
    → part_of (get_or slots k None) ≡ Some (Some part) → room ≤ part.bytes.room
room_at room k [] part all is = no_part is
room_at room zero (s ∷ slots) part all is = room_of room s part all.0 is
room_at room (suc k) (s ∷ slots) part all is = room_at room k slots part all.1 is

-- ---- the table

pub lent_table : (pool new : Pool) (slots : List (Option Held)) (k : ℕ) (h : Held) → IsTable pool slots
    → position is_vacant slots ≡ Some k → held_at slots h.task h.number ≡ None → h.part ≡ None
    → new ≡ record pool { free = pool.free - 1; lent = pool.lent + 1 } → IsTable new (set slots k (Some h))
lent_table pool new slots k h table e none away is =
    let at = position-Some is_vacant slots k None e in
    let one = one_lent h k slots at.0 at.1 in
    let fewer = some_free slots k e in
    let many = length-set slots k (Some h) in
    rw is (record {
      many = many ∙ table.many;
      lent_are = omega (arith, table.lent_are);
      whole = omega (arith, table.whole, table.lent_are, table.many);
      few = table.few;
      single = lent_single h k slots at.0 at.1 none table.single;
      room = room_set pool.room k slots (Some h) (rw away tt) table.room;
    })

nobody : (n : ℕ) → lent_in (replicate n None) ≡ 0
nobody zero = refl
nobody (suc n) = let rest = nobody n in grind (arith, common_steps)

single_none : (n : ℕ) → AreSingle (replicate n None)
single_none zero = tt
single_none (suc n) = (tt, single_none n)

room_none : (room n : ℕ) → HaveRoom room (replicate n None)
room_none room zero = tt
room_none room (suc n) = (tt, room_none room n)

pub empty_table : (n room : ℕ) → n < 2 ^ 32
    → IsTable (record { count = n; free = n; lent = 0; room = room; most = room }) (replicate n None)
empty_table n room few = record {
  many = length-replicate n None;
  lent_are = sym (nobody n);
  whole = omega arith;
  few = few;
  single = single_none n;
  room = room_none room n;
}

-- ---- the place of a piece

found_behind : (task number : ℕ) (s : Option Held) (slots : List (Option Held)) (b : Bool) → is_of task number s ≡ b
    → length (s ∷ slots) ≤ position_or_len (is_of task number) (s ∷ slots)
    → (length slots ≤ position_or_len (is_of task number) slots → held_at slots task number ≡ None)
    → (if b then part_of s else held_at slots task number) ≡ None
found_behind task number s slots true e l rest = absurd (grind (arith, common_steps))
found_behind task number s slots false e l rest = rest (grind (arith, common_steps))

-- a piece that holds a part has a place
found : (task number : ℕ) (slots : List (Option Held)) → length slots ≤ position_or_len (is_of task number) slots
    → held_at slots task number ≡ None
found task number [] l = refl
found task number (s ∷ slots) l = found_behind task number s slots (is_of task number s) refl l (found task number slots)

pub has_place : (task number : ℕ) (slots : List (Option Held)) → position (is_of task number) slots ≡ None
    → held_at slots task number ≡ None
has_place task number slots e =
    found task number slots (past (nat_lt (position_or_len (is_of task number) slots) (length slots))
    (position_or_len (is_of task number) slots) (length slots) refl e)

at_place : (task number : ℕ) (slots : List (Option Held)) (k : ℕ) → k < length slots → is_of task number (get_or slots k None) ≡ true
    → ((j : ℕ) → j < k → is_of task number (get_or slots j None) ≡ false) → held_at slots task number ≡ part_of (get_or slots k None)
at_place task number [] k inside is first = absurd (omega arith)
at_place task number (s ∷ slots) zero inside is first = rw is refl
at_place task number (s ∷ slots) (suc k) inside is first =
    ap (λ (b : Bool). if b then part_of s else held_at slots task number) (first 0 (omega arith))
    ∙ at_place task number slots k (omega arith) is (λ j l. first (suc j) (omega arith))

pub placed : (s inside : SeenParts) (task number place : ℕ) → inside ≡ s → position (is_of task number) s.slots ≡ Some place
    → position (is_of task number) inside.slots ≡ Some place
placed s inside task number place is at = ap (λ (x : SeenParts). position (is_of task number) x.slots) is ∙ at

module _ (task number : ℕ) (pool : Pool) (slots : List (Option Held)) (k : ℕ) (e : position (is_of task number) slots ≡ Some k)
    (table : IsTable pool slots) where
  abbrev at : (k < length slots) × (is_of task number (get_or slots k None) ≡ true)
      × ((j : ℕ) → j < k → is_of task number (get_or slots j None) ≡ false)
  at = position-Some (is_of task number) slots k None e

  pub stands_at : held_at slots task number ≡ part_of (get_or slots k None)
  stands_at = at_place task number slots k at.0 at.1 at.2

  pub is_taken : is_some (get_or slots k None) ≡ true
  is_taken = of_some task number (get_or slots k None) at.1

  pub held_now : (s : Option Held) → IsOf task number s → (x y : ℕ)
      → held_at (set slots k s) x y ≡ changed task number x y s (held_at slots x y)
  held_now s own = changed_at task number k slots s at.0 at.1 own table.single

  pub lent_now : (h : Held) → lent_in (set slots k (Some h)) ≡ lent_in slots
  lent_now h = as_lent (Some h) k slots at.0 (sym is_taken)

  pub back_now : lent_in (set slots k None) + 1 ≡ lent_in slots
  back_now = one_back k slots at.0 is_taken

  pub same_table : (h : Held) → (h.task ≡ task) × (h.number ≡ number) → HasRoomIn pool.room h.part → IsTable pool (set slots k (Some h))
  same_table h own room = record {
    many = length-set slots k (Some h) ∙ table.many;
    lent_are = table.lent_are ∙ sym (lent_now h);
    whole = table.whole;
    few = table.few;
    single = changed_single task number k slots (Some h) at.0 at.1 own table.single;
    room = room_set pool.room k slots (Some h) room table.room;
  }

  pub back_table : (new : Pool) → new.count ≡ pool.count → new.lent + 1 ≡ pool.lent → new.free ≡ pool.free + 1 → new.room ≡ pool.room
      → IsTable new (set slots k None)
  back_table new count lent free room =
      let back = back_now in
      record {
        many = length-set slots k None ∙ table.many ∙ sym count;
        lent_are = omega (arith, table.lent_are);
        whole = omega (arith, table.whole);
        few = omega (arith, table.few);
        single = changed_single task number k slots None at.0 at.1 tt table.single;
        room = rw room (room_set pool.room k slots None tt table.room);
      }

  pub stood : (s d : Option Held) → s ≡ get_or slots k d → s ≡ get_or slots k None
  stood s d same = same ∙ get_or_default slots k d None at.0

  is_here : IsHere (held_at slots task number) → IsHere (part_of (get_or slots k None))
  is_here = subst IsHere stands_at

  pub part_here : (s : Option Held) → s ≡ get_or slots k None → IsHere (held_at slots task number) → IsHere (part_of s)
  part_here s same here = rw same (is_here here)

  pub part_is : (s : Option Held) (part : Part) → s ≡ get_or slots k None → part_of s ≡ Some (Some part)
      → held_at slots task number ≡ Some (Some part)
  part_is s part same is = stands_at ∙ sym (ap part_of same) ∙ is

  pub part_room : (part : Part) → part_of (get_or slots k None) ≡ Some (Some part) → pool.room ≤ part.bytes.room
  part_room part is = room_at pool.room k slots part table.room is

-- ---- a task that is stopped

some_of : (s : Option Held) → is_some s ≡ true → (held : Held) × (s ≡ Some held)
some_of None e = no e
some_of (Some held) e = (held, refl)

its_place : (h : Held) → is_of h.task h.number (Some h) ≡ true
its_place h = grind arith

pub here_part : (task : ℕ) (s : Option Held) → is_here_of task s ≡ true → IsHere (part_of s)
here_part task None e = no e
here_part task (Some held) e = has_part held.part (and_parts (held.task == task) (is_some held.part) e).1 where
  has_part : (part : Option Part) → is_some part ≡ true → IsHere (Some part)
  has_part None f = no f
  has_part (Some part) f = tt

module _ (pool new : Pool) (slots : List (Option Held)) (k : ℕ) (inside : k < length slots) (table : IsTable pool slots) where
  pub freed_table : is_some (get_or slots k None) ≡ true → new.count ≡ pool.count → new.lent + 1 ≡ pool.lent
      → new.free ≡ pool.free + 1 → new.room ≡ pool.room → IsTable new (set slots k None)
  freed_table taken count lent free room =
      let back = one_back k slots inside taken in
      let its = some_of (get_or slots k None) taken in
      record {
        many = length-set slots k None ∙ table.many ∙ sym count;
        lent_are = omega (arith, table.lent_are);
        whole = omega (arith, table.whole);
        few = omega (arith, table.few);
        single = changed_single its.0.task its.0.number k slots None inside (subst (λ (s : Option Held). is_of its.0.task its.0.number s ≡ true)
            (sym its.1) (its_place its.0)) tt table.single;
        room = rw room (room_set pool.room k slots None tt table.room);
      }

module _ (task : ℕ) where
  pub one_stopped : (xs : List (Option Held)) (k : ℕ) → k < length xs
      → set (map (stopped task) (take k xs) ++ drop k xs) k (stopped task (get_or (map (stopped task) (take k xs) ++ drop k xs) k None))
      ≡ map (stopped task) (take (suc k) xs) ++ drop (suc k) xs
  one_stopped [] k inside = absurd (omega arith)
  one_stopped (x ∷ xs) zero inside = refl
  one_stopped (x ∷ xs) (suc k) inside = ap (λ (ys : List (Option Held)). stopped task x ∷ ys) (one_stopped xs k (omega arith))

  pub all_stopped : (xs : List (Option Held)) (k : ℕ) → length xs ≤ k
      → map (stopped task) (take k xs) ++ drop k xs ≡ map (stopped task) xs
  all_stopped [] zero l = refl
  all_stopped [] (suc k) l = refl
  all_stopped (x ∷ xs) zero l = absurd (omega arith)
  all_stopped (x ∷ xs) (suc k) l = ap (λ (ys : List (Option Held)). stopped task x ∷ ys) (all_stopped xs k (omega arith))

  same_task : (x y : ℕ) (g : Held) → is_of x y (Some g) ≡ true → (g.task == task) ≡ (task == x)
  same_task x y g e = let each = and_parts (g.task == x) (g.number == y) e in
      grind (arith, eqb-true g.task x each.0)

  no_more : (b : Bool) → ◌≡◌ {A = Option (Option Part)} (if b then None else None) None
  no_more true = refl
  no_more false = refl

  still_of : (x y : ℕ) (g : Held) (p : Bool) (rest : Option (Option Part))
      → (if is_of x y (if p then None else Some g) then part_of (if p then None else Some g) else rest)
      ≡ (if not p && is_of x y (Some g) then Some g.part else rest)
  still_of x y g true rest = refl
  still_of x y g false rest = refl

  first_stopped : (x : ℕ) (g : Held) (p b : Bool) (rest before : Option (Option Part)) → rest ≡ stopped_at task x before
      → (b ≡ true → before ≡ None) → (b ≡ true → ((task == x) && is_some g.part) ≡ p)
      → (if not p && b then Some g.part else rest) ≡ stopped_at task x (if b then Some g.part else before)
  first_stopped x g true true rest before e alone same =
      e ∙ ap (stopped_at task x) (alone refl) ∙ no_more ((task == x) && is_some (inner None))
      ∙ sym (ap (λ (q : Bool). if q then None else Some g.part) (same refl))
  first_stopped x g true false rest before e alone same = e
  first_stopped x g false true rest before e alone same = sym (ap (λ (q : Bool). if q then None else Some g.part) (same refl))
  first_stopped x g false false rest before e alone same = e

  pub held_stopped : (slots : List (Option Held)) → AreSingle slots → (x y : ℕ)
      → held_at (map (stopped task) slots) x y ≡ stopped_at task x (held_at slots x y)
  held_stopped [] single x y = sym (no_more ((task == x) && is_some (inner None)))
  held_stopped (None ∷ slots) single x y = held_stopped slots single.1 x y
  held_stopped (Some g ∷ slots) single x y =
      still_of x y g (is_here_of task (Some g)) (held_at (map (stopped task) slots) x y)
      ∙ first_stopped x g (is_here_of task (Some g)) (is_of x y (Some g)) (held_at (map (stopped task) slots) x y) (held_at slots x y)
      (held_stopped slots single.1 x y) (λ e. alone x y g slots e single.0)
      (λ e. ap (λ (b : Bool). b && is_some g.part) (sym (same_task x y g e)))
