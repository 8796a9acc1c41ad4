-- The first number of a list whose act is ready, by what its piece says.
use Rattle.std.proofs.Common.{◌≡◌, ◌∙◌, ◌<◌, ◌+◌, ◌&&◌, ℕ, suc, Bool, true, false, not, List, [], ◌∷◌, Option, Some, None, get_or, length, map, nat_lt, refl, sym, ap, arith, cond, inl, inr, if◌then◌else◌}
use Rattle.std.proofs.lemmas.Bool.{cases_lt, lt-ltb, le-ltb}
use Rattle.std.specs.List.{find, list_all, position, position_or_len, range_with_len}
use Rattle.task_acts.specs.declared.acts.Act.{Act}
use Rattle.task_readiness.specs.Readiness.{numbered}

one_more : (a b : ℕ) → nat_lt (1 + a) (suc b) ≡ nat_lt a b
one_more a b = elim (cases_lt a b) [
  | inl below ↦ lt-ltb (1 + a) (suc b) (omega arith) ∙ sym (lt-ltb a b below)
  | inr from ↦ le-ltb (1 + a) (suc b) (omega arith) ∙ sym (le-ltb a b from)
]

pub and_true : (x : Bool) → x && true ≡ x
and_true true = refl
and_true false = refl

pub and_false : (x : Bool) → x && false ≡ false
and_false true = refl
and_false false = refl

module _ {X : Type 0} (q : Act → Bool) (g : ℕ → Act) (p : X → Bool) (d : X) where
  -- the acts from that number on are as ready as the pieces say
  abbrev pub Tell : List X → (first : ℕ) → Type 0
  Tell xs first = (k : ℕ) → k < length xs → q (g (first + k)) ≡ p (get_or xs k d)

  tell_first : (x : X) (xs : List X) (first : ℕ) → Tell (x ∷ xs) first → q (g first) ≡ p x
  tell_first x xs first tell = ap (λ (n : ℕ). q (g n)) (omega arith) ∙ tell 0 (omega arith)

  tell_rest : (x : X) (xs : List X) (first : ℕ) → Tell (x ∷ xs) first → Tell xs (first + 1)
  tell_rest x xs first tell k below = ap (λ (n : ℕ). q (g n)) (omega arith) ∙ tell (suc k) (omega arith)

  later : (c : Bool) (k first : ℕ) → numbered g (first + 1) (cond c (Some k) None) ≡ numbered g first (cond c (Some (1 + k)) None)
  later true k first = ap (λ (n : ℕ). Some (g n)) (omega arith)
  later false k first = refl

  first_of : (x : X) (xs : List X) (first : ℕ) (b : Bool) (rest : Option Act) → rest ≡ numbered g (first + 1) (position p xs)
      → cond b (Some (g first)) rest ≡ numbered g first (cond (nat_lt (cond (not b) (1 + position_or_len p xs) 0) (length (x ∷ xs))) (Some (cond (not b) (1 + position_or_len p xs) 0)) None)
  first_of x xs first true rest e =
      ap (λ (n : ℕ). Some (g n)) (omega arith)
      ∙ ap (λ (b : Bool). numbered g first (cond b (Some 0) None)) (sym (lt-ltb 0 (suc (length xs)) (omega arith)))
  first_of x xs first false rest e =
      e ∙ later (nat_lt (position_or_len p xs) (length xs)) (position_or_len p xs) first
      ∙ ap (λ (b : Bool). numbered g first (cond b (Some (1 + position_or_len p xs)) None)) (sym (one_more (position_or_len p xs) (length xs)))

  finds_all : (xs : List X) (first : ℕ) → Tell xs first → find q (map g (range_with_len first (length xs))) ≡ numbered g first (position p xs)
  finds_all [] first tell = refl
  finds_all (x ∷ xs) first tell =
      ap (λ (b : Bool). cond b (Some (g first)) (find q (map g (range_with_len (first + 1) (length xs))))) (tell_first x xs first tell)
      ∙ first_of x xs first (p x) _ (finds_all xs (first + 1) (tell_rest x xs first tell))

  -- the first of them is that of the first piece
  pub finds : (xs : List X) (first count : ℕ) → length xs ≡ count → Tell xs first → find q (map g (range_with_len first count)) ≡ numbered g first (position p xs)
  finds xs first count long tell = ap (λ (n : ℕ). find q (map g (range_with_len first n))) (sym long) ∙ finds_all xs first tell

  each : (xs : List X) (first : ℕ) → Tell xs first → list_all (λ n. q (g n)) (range_with_len first (length xs)) ≡ list_all p xs
  each [] first tell = refl
  each (x ∷ xs) first tell =
      ap (λ (b : Bool). b && list_all (λ n. q (g n)) (range_with_len (first + 1) (length xs))) (tell_first x xs first tell)
      ∙ ap (λ (b : Bool). p x && b) (each xs (first + 1) (tell_rest x xs first tell))

  -- all of them are as all pieces
  pub alls : (xs : List X) (first count : ℕ) → length xs ≡ count → Tell xs first → list_all (λ n. q (g n)) (range_with_len first count) ≡ list_all p xs
  alls xs first count long tell = ap (λ (n : ℕ). list_all (λ k. q (g k)) (range_with_len first n)) (sym long) ∙ each xs first tell

  none_in : (xs : List X) (first : ℕ) → ((k : ℕ) → k < length xs → q (g (first + k)) ≡ false) → find q (map g (range_with_len first (length xs))) ≡ None
  none_in [] first none = refl
  none_in (x ∷ xs) first none =
      ap (λ (b : Bool). cond b (Some (g first)) (find q (map g (range_with_len (first + 1) (length xs))))) (ap (λ (n : ℕ). q (g n)) (omega arith) ∙ none 0 (omega arith))
      ∙ none_in xs (first + 1) (λ k below. ap (λ (n : ℕ). q (g n)) (omega arith) ∙ none (suc k) (omega arith))

  -- the same where something else has to come before all of them
  pub gated : (gate : Bool) (xs : List X) (first count : ℕ) → length xs ≡ count → ((k : ℕ) → k < length xs → q (g (first + k)) ≡ p (get_or xs k d) && gate)
      → find q (map g (range_with_len first count)) ≡ (if gate then numbered g first (position p xs) else None)
  gated true xs first count long tell = finds xs first count long (λ k below. tell k below ∙ and_true (p (get_or xs k d)))
  gated false xs first count long tell =
      ap (λ (n : ℕ). find q (map g (range_with_len first n))) (sym long) ∙ none_in xs first (λ k below. tell k below ∙ and_false (p (get_or xs k d)))

-- none of them is ready
pub finds_none : (q : Act → Bool) (g : ℕ → Act) (ns : List ℕ) → ((n : ℕ) → q (g n) ≡ false) → find q (map g ns) ≡ None
finds_none q g [] none = refl
finds_none q g (n ∷ ns) none = ap (λ (b : Bool). cond b (Some (g n)) (find q (map g ns))) (none n) ∙ finds_none q g ns none

-- each of them is
pub each_is : (p : ℕ → Bool) (ns : List ℕ) → ((n : ℕ) → p n ≡ true) → list_all p ns ≡ true
each_is p [] all = refl
each_is p (n ∷ ns) all = ap (λ (b : Bool). b && list_all p ns) (all n) ∙ each_is p ns all
