-- What the marks of a job say of its ending.
use Rattle.std.proofs.Common.{◌≡◌, ◌≢◌, ◌∙◌, ◌++◌, ◌<◌, ℕ, List, [], ◌∷◌, Some, AllPairs, Contains, get_or, map, refl, sym, subst, ap, inl, inr, slice_get}
use Rattle.std.proofs.lemmas.List.Elements.{All-contains}
use Rattle.std.proofs.lemmas.Option.{get_or_from_slice_get, slice_get-get_or, slice_get_within}
use Rattle.jobs.specs.Endings.{EndIn, HaveNoSuccess, IsEnded, SeenCarried}
use Rattle.jobs.specs.declared.ending.Ending.{Ending}
use Rattle.jobs.specs.declared.ending.Ending.TheVariants as ending
use Rattle.job_terms.specs.Dispatches.{last_of}
use Rattle.s3_model.specs.declared.answers.Reply.{Reply}
use Rattle.s3_model.specs.declared.tries.Mark.{Mark}
use Rattle.s3_model.specs.declared.tries.Mark.TheVariants as mark
use Rattle.shared_lemmas.proofs.Clashes.{none_is_some, some_is}
use Rattle.shared_lemmas.proofs.Members.{Has, contains_of}

-- ---- lists

pub last_behind : {X : Type 0} (front : List X) (x : X) → last_of (front ++ x ∷ []) ≡ Some x
last_behind [] x = refl
last_behind (y ∷ []) x = refl
last_behind (y ∷ z ∷ front) x = last_behind (z ∷ front) x

pub last_has : {X : Type 0} (xs : List X) (x : X) → last_of xs ≡ Some x → Has xs x
last_has [] x e = absurd (none_is_some x e)
last_has (y ∷ []) x e = inl (some_is y x e)
last_has (y ∷ z ∷ xs) x e = inr (last_has (z ∷ xs) x e)

pub last_map : {X Y : Type 0} (f : X → Y) (xs : List X) (x : X) → last_of xs ≡ Some x → last_of (map f xs) ≡ Some (f x)
last_map f [] x e = absurd (none_is_some x e)
last_map f (y ∷ []) x e = ap Some (ap f (some_is y x e))
last_map f (y ∷ z ∷ xs) x e = last_map f (z ∷ xs) x e

pub index_of : {X : Type 0} (xs : List X) (x : X) → Contains xs x → (k : ℕ) × (slice_get xs k ≡ Some x)
index_of xs x h = (h.0, slice_get-get_or xs h.0 x h.1 ∙ ap Some h.2)

pub pair_of : {X : Type 0} (R : X → X → Type 0) (xs : List X) → AllPairs R xs → (i j : ℕ) (a b : X) → i < j → slice_get xs i ≡ Some a → slice_get xs j ≡ Some b → R a b
pair_of R xs all i j a b before at_i at_j =
    subst (λ x. R a x) (get_or_from_slice_get xs j b a at_j) (subst (λ x. R x (get_or xs j a)) (get_or_from_slice_get xs i a a at_i) (all i j a before (slice_get_within xs j b at_j)))

-- ---- endings

refusal_success : mark.Refusal ≡ mark.Success → ⊥
refusal_success e = cc

uncertain_success : mark.Uncertain ≡ mark.Success → ⊥
uncertain_success e = cc

pub last_in : (of : Mark) (tries : List Mark) → EndIn of tries → last_of tries ≡ Some of
last_in of tries is = ap last_of is.1 ∙ last_behind is.0 of

no_success_last : (tries : List Mark) → HaveNoSuccess tries → last_of tries ≡ Some mark.Success → ⊥
no_success_last tries none e = All-contains (λ (each : Mark). each ≢ mark.Success) tries mark.Success none (contains_of tries mark.Success (last_has tries mark.Success e)) refl

-- a job whose last mark is a success gained something
pub gained_by : (c : SeenCarried) (of : Ending) → IsEnded of c.job.id.op c.job.part c.job.cell c.tries → last_of c.tries ≡ Some mark.Success → (said : Reply) × (of ≡ ending.Gained said)
gained_by c (ending.Gained said) is e = (said, refl)
gained_by c (ending.Refused status code message) is e = absurd (refusal_success (some_is mark.Refusal mark.Success (sym (last_in mark.Refusal c.tries is) ∙ e)))
gained_by c (ending.Uncertain reason) is e = absurd (uncertain_success (some_is mark.Uncertain mark.Success (sym (last_in mark.Uncertain c.tries is) ∙ e)))
gained_by c (ending.Cancelled reason) is e = absurd (none_is_some mark.Success (sym (ap last_of is.0) ∙ e))
gained_by c ending.Memory is e = absurd (no_success_last c.tries is e)

pub gained_last : (c : SeenCarried) (said : Reply) → IsEnded c.ending c.job.id.op c.job.part c.job.cell c.tries → c.ending ≡ ending.Gained said → last_of c.tries ≡ Some mark.Success
gained_last c said is e = let ended = subst (λ (of : Ending). IsEnded of c.job.id.op c.job.part c.job.cell c.tries) e is in last_in mark.Success c.tries ended.0
