-- Values of a map that were taken for another and put back.
use Rattle.file_table.proofs.Keys.{insert_again, insert_twice}
use Rattle.std.proofs.Common.{◌≡◌, ◌∙◌, ℕ, List, Option, Some, None, false, sym, ap, subst}
use Rattle.std.specs.FinMap.{empty, get, get-empty, insert}
use Rattle.std.specs.Option.{IsSome, OnSome, is_some, unwrap_or}
use Rattle.std.specs.Cmp.Lexicographic.{nat_list_cmp_total, slice_cmp}
use Rattle.std.specs.Ordering.{nat_cmp}
use Rattle.shared_lemmas.proofs.Clashes.{false_true, none_is_some, true_is_false}
use Rattle.shared_lemmas.proofs.Maps.{get-insert_same, text_exact}
use Rattle.s3_model.specs.Maps.{MapOf}
use Rattle.s3_service.specs.ServiceState.{State, Object, object_at}

from_some : {V P : Type 0} (o : Option V) (v : V) → o ≡ Some v → OnSome o P → P
from_some None v e h = absurd (none_is_some v e)
from_some (Some w) v e h = h

pub swapped : {V : Type 0} (held one two : MapOf V) (k : List ℕ) (e v : V) (found : Option V) → one ≡ insert held k e → found ≡ get one k → OnSome found (two ≡ insert one k v) → two ≡ insert held k v
swapped {V} held one two k e v found first is put =
    from_some found e (is ∙ ap (λ (m : MapOf V). get m k) first ∙ get-insert_same nat_list_cmp_total text_exact held k e) put
    ∙ ap (λ (m : MapOf V). insert m k v) first ∙ insert_twice held k e v

pub restored : {V : Type 0} (held two : MapOf V) (k : List ℕ) (v : V) → get held k ≡ Some v → two ≡ insert held k v → two ≡ held
restored held two k v was is = is ∙ insert_again held k v was

pub unwrapped : {V : Type 0} (found : Option V) (default v : V) → found ≡ Some v → v ≡ unwrap_or found default
unwrapped {V} found default v is = sym (ap (λ (o : Option V). unwrap_or o default) is)

-- where there is no bucket, there is no object
pub no_bucket : (t : State) (held : MapOf (MapOf Object)) (bucket key : List ℕ) → held ≡ t.objects → None ≡ get held bucket → None ≡ object_at t bucket key
no_bucket t held bucket key is none =
    sym (get-empty (slice_cmp nat_cmp) key)
    ∙ ap (λ (o : Option (MapOf Object)). get (unwrap_or o empty) key) (none ∙ ap (λ (m : MapOf (MapOf Object)). get m bucket) is)

none_unbucketed : (held : Option (MapOf Object)) (key : List ℕ) → is_some held ≡ false → IsSome (get (unwrap_or held empty) key) → ⊥
none_unbucketed None key e some = false_true (subst (λ (o : Option Object). IsSome o) (get-empty (slice_cmp nat_cmp) key) some)
none_unbucketed (Some held) key e some = true_is_false e

pub no_object : (t : State) (bucket key : List ℕ) → is_some (get t.objects bucket) ≡ false → IsSome (object_at t bucket key) → ⊥
no_object t bucket key e some = none_unbucketed (get t.objects bucket) key e some
