-- What a test of an order says.
use Rattle.std.proofs.Common.{◌≡◌, T, true, refl}
use Rattle.std.specs.Ordering.{is_eq, is_lt}
use Rattle.std.specs.declared.cmp.Ordering.{Ordering}
use Rattle.std.specs.declared.cmp.Ordering.TheVariants.{Less, Equal, Greater}

pub equal_from_test : (o : Ordering) → is_eq o ≡ true → o ≡ Equal
equal_from_test Less e = cc
equal_from_test Equal e = refl
equal_from_test Greater e = cc

pub less_from_test : (o : Ordering) → is_lt o ≡ true → o ≡ Less
less_from_test Less e = refl
less_from_test Equal e = cc
less_from_test Greater e = cc

pub less_where : (o : Ordering) → T (is_lt o) → o ≡ Less
less_where Less h = refl
less_where Equal h = absurd h
less_where Greater h = absurd h

pub less_is_no_tie : (o : Ordering) → T (is_lt o) → is_eq o ≡ true → ⊥
less_is_no_tie Less less tie = cc
less_is_no_tie Equal less tie = less
less_is_no_tie Greater less tie = less
