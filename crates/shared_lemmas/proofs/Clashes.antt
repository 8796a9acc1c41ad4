-- What follows where two constructors are said to be one.
use Rattle.std.proofs.Common.{◌≡◌, true, false, Some, None, Result, Err, ℕ, arith}
pub use Rattle.std.proofs.lemmas.Bool.{false≢true as false_true, true≢false as true_is_false}
pub use Rattle.std.proofs.lemmas.Option.{none-some as none_is_some, same_Some as some_is}

pub clash : {P : Type 0} → false ≡ true → P
clash e = cc

pub some_is_none : {X : Type 0} (x : X) → Some x ≡ None → ⊥
some_is_none x e = cc

pub no_some : {X P : Type 0} {x : X} → Some x ≡ None → P
no_some e = cc

pub err_is : {T E : Type 0} (a b : E) → ◌≡◌ {A = Result T E} (Err a) (Err b) → a ≡ b
err_is a b e = cc

pub one_is_two : ◌≡◌ {A = ℕ} 1 2 → ⊥
one_is_two e = omega arith

pub two_is_one : ◌≡◌ {A = ℕ} 2 1 → ⊥
two_is_one e = omega arith
