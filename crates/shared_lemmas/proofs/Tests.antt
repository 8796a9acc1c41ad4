-- Tests that are known to be true or false.
use Rattle.shared_lemmas.proofs.Clashes.{clash, true_is_false}
use Rattle.std.proofs.Common.{◌≡◌, ◌≢◌, ◌⊎◌, ◌↔◌, ◌<◌, ◌≤◌, ◌==◌, ◌&&◌, ◌||◌, ℕ, suc, Bool, true, false, T, not, nat_lt, refl, sym, arith, if◌then◌else◌}

pub same_number : (n : ℕ) → (n == n) ≡ true
same_number n = grind arith

pub zero_is_not_suc : (n : ℕ) → (0 == suc n) ≡ false
zero_is_not_suc n = grind arith

pub suc_is_not_zero : (n : ℕ) → (suc n == 0) ≡ false
suc_is_not_zero n = grind arith

pub some_is_not_zero : (n : ℕ) → 1 ≤ n → (n == 0) ≡ false
some_is_not_zero n some = grind arith

pub other_way : (m n : ℕ) → (m == n) ≡ false → (n == m) ≡ false
other_way m n e = grind arith

pub not_other : (m n : ℕ) → m ≡ n → not (m == n) ≡ false
not_other m n same = grind arith

pub is_other : (m n : ℕ) → m ≢ n → not (m == n) ≡ true
is_other m n other = grind arith

pub neither_less : (m n : ℕ) → nat_lt m n ≡ false → nat_lt n m ≡ false → m ≡ n
neither_less m n e f = grind arith

pub less_or_same : (m n : ℕ) → m ≤ n → (m < n) ⊎ (m ≡ n)
less_or_same m n most = grind arith

pub not_both : (b : Bool) → b ≡ true → b ≡ false → ⊥
not_both b is is_not = cc

pub each_holds : (a b : Bool) → T (a && b) → T a × T b
each_holds true b h = (tt, h)
each_holds false b h = absurd h

pub all_three : (a b c : Bool) → a ≡ true → b ≡ true → c ≡ true → (a && b && c) ≡ true
all_three a b c p q r = rw (p, q, r) refl

pub each_of_three : (a b c : Bool) → (a && b && c) ≡ true → (a ≡ true) × (b ≡ true) × (c ≡ true)
each_of_three true true true e = (refl, refl, refl)
each_of_three true true false e = cc
each_of_three true false c e = cc
each_of_three false b c e = cc

pub one_of_three : (a b c r : Bool) → a ≡ false → b ≡ false → r ≡ c → r ≡ a || (b || (c || false))
one_of_three true b c r p q e = absurd (true_is_false p)
one_of_three false true c r p q e = absurd (true_is_false q)
one_of_three false false true r p q e = e
one_of_three false false false r p q e = e

-- what would clash where it is true is false
pub false_if_clash : (b : Bool) → (b ≡ true → false ≡ true) → b ≡ false
false_if_clash true f = sym (f refl)
false_if_clash false f = refl

pub if_false : {X : Type 0} (b : Bool) (x y : X) → b ≡ false → (if b then x else y) ≡ y
if_false true x y e = clash (sym e)
if_false false x y e = refl

pub iff_chain : {P Q R : Type 0} → P ↔ Q → Q ↔ R → P ↔ R
iff_chain h k = (λ p. k.0 (h.0 p), λ r. h.1 (k.1 r))

pub and_true : (b : Bool) → (b && true) ≡ b
and_true true = refl
and_true false = refl

pub and_false : (b : Bool) → (b && false) ≡ false
and_false true = refl
and_false false = refl

pub or_false : (b : Bool) → (b || false) ≡ b
or_false true = refl
or_false false = refl
