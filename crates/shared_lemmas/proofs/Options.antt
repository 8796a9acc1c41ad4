-- What is there, or is not.
use Rattle.shared_lemmas.proofs.Clashes.{clash, false_true, none_is_some}
use Rattle.std.proofs.Common.{◌≡◌, Bool, true, false, Option, Some, None, IsSome, OnSome, is_some, refl, sym, if◌then◌else◌}
use Rattle.std.specs.Option.{option_or}

pub neither : {X : Type 0} (o p : Option X) → option_or o p ≡ None → (o ≡ None) × (p ≡ None)
neither None p e = (refl, e)
neither (Some x) p e = absurd cc

pub none_there : {X : Type 0} (o : Option X) → is_some o ≡ false → o ≡ None
none_there None e = refl
none_there (Some x) e = clash (sym e)

pub some_there : {X : Type 0} (o : Option X) (x : X) → o ≡ Some x → IsSome o
some_there None x e = cc
some_there (Some y) x e = refl

pub none_is_not_some : {X : Type 0} (o : Option X) → o ≡ None → IsSome o → ⊥
none_is_not_some None e h = false_true h
none_is_not_some (Some x) e h = none_is_some x (sym e)

pub from_some : {X P : Type 0} (o : Option X) (x : X) → o ≡ Some x → OnSome o P → P
from_some None x e h = absurd (none_is_some x e)
from_some (Some y) x e h = h

pub not_hidden : {X : Type 0} (b : Bool) (o : Option X) (x : X) → (if b then None else o) ≡ Some x → b ≡ false
not_hidden true o x e = absurd (none_is_some x e)
not_hidden false o x e = refl

pub or_none : {X : Type 0} (o : Option X) → option_or o None ≡ o
or_none None = refl
or_none (Some x) = refl
