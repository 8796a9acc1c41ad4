-- A job is not given again after an attempt that would not be tried again.
use Rattle.std.proofs.Common.{◌≡◌, ◌∙◌, ◌<◌, ℕ, zero, suc, true, false, List, [], ◌∷◌, Some, refl, sym, ap, subst, AllPairs, get_or, length, map, slice_get, arith}
use Rattle.std.specs.Prelude.{codes}
use Rattle.std.proofs.lemmas.Option.{slice_get_within}
use Rattle.s3_model.specs.declared.requests.Ask.{Ask}
use Rattle.s3_model.specs.declared.answers.Class.{Class}
use Rattle.s3_model.specs.declared.answers.Class.TheVariants as class
use Rattle.s3_model.specs.declared.tries.Mark.TheVariants as mark
use Rattle.s3_model.specs.Classes.{is_tried_again}
use Rattle.s3_model.specs.Talks.{Talk}
use Rattle.run_promise.specs.Carried.{WouldGoOn}
use Rattle.job_terms.specs.Dispatches.{Attempt, Dispatch, Dispatched, last_of, paired}
use Rattle.promise_examples.specs.GivenAgain.{twice, RefusedForGood, DeniedIsNotGivenAgain}
use Rattle.promise_examples.proofs.Concrete.{none_is_some, some_is}

-- the member that stands at a place
at_place : {X : Type 0} (xs : List X) (k : ℕ) (x d : X) → slice_get xs k ≡ Some x → get_or xs k d ≡ x
at_place [] k x d e = absurd (none_is_some x e)
at_place (y ∷ ys) zero x d e = some_is y x e
at_place (y ∷ ys) (suc k) x d e = at_place ys k x d e

pub of_pair : {X : Type 0} (R : X → X → Type 0) (xs : List X) → AllPairs R xs → (i j : ℕ) (a b : X) → i < j → slice_get xs i ≡ Some a → slice_get xs j ≡ Some b → R a b
of_pair R xs all i j a b before at_i at_j =
    subst (λ x. R x b) (at_place xs i a a at_i) (subst (R (get_or xs i a)) (at_place xs j b a at_j) (all i j a before (slice_get_within xs j b at_j)))

true_is_false : (b : _) → b ≡ true → b ≡ false → ⊥
true_is_false b p q = cc

pub refused_for_good : (Shows : Ask → ℕ → Talk → Class → List ℕ → Type 0) (Plans : List Dispatched → Type 0) → RefusedForGood Shows Plans
refused_for_good Shows Plans request_text host port s journal logs notes dispatched coming carried a b i j attempt before at_i at_j same last shows =
    let again = of_pair (λ (c d : Dispatched). c.dispatch.job ≡ d.dispatch.job → (made : Attempt) → last_of c.dispatch.attempts ≡ Some made → WouldGoOn Shows request_text host port c made × (length c.dispatch.attempts < s.config.attempts)) dispatched carried.given_again i j a b before at_i at_j same attempt last in
    let goes = again.0 in
    true_is_false (is_tried_again goes.0) goes.3 (shows goes.0 goes.1 goes.2)

-- the dispatches of a list
dispatched_is : (xs : List Dispatched) (d e : Dispatch) (ds : List Dispatch) → map (λ (c : Dispatched). c.dispatch) xs ≡ d ∷ e ∷ ds
    → (a : Dispatched) × (b : Dispatched) × (slice_get xs 0 ≡ Some a) × (slice_get xs 1 ≡ Some b) × (a.dispatch ≡ d) × (b.dispatch ≡ e)
dispatched_is [] d e ds is = cc
dispatched_is (a ∷ []) d e ds is = cc
dispatched_is (a ∷ b ∷ rest) d e ds is = (a, b, refl, refl, cc, cc)

denied_for_good : (shown : Class) (message : List ℕ) → shown ≡ class.Refusal (codes "AccessDenied") message → is_tried_again shown ≡ false
denied_for_good shown message e = ap is_tried_again e

pub denied_is_not_given_again : (Shows : Ask → ℕ → Talk → Class → List ℕ → Type 0) (Plans : List Dispatched → Type 0) → DeniedIsNotGivenAgain Shows Plans
denied_is_not_given_again Shows Plans request_text host port s logs notes dispatched coming talk rest refused first schedule carried =
    let is = dispatched_is dispatched _ _ _ carried.shown in
    let attempts : is.0.dispatch.attempts ≡ record { mark = mark.Refusal; talk = talk } ∷ [] = ap (λ (d : Dispatch). d.attempts) is.4 ∙ ap (paired (mark.Refusal ∷ [])) first in
    refused_for_good Shows Plans request_text host port s twice logs notes dispatched coming carried is.0 is.1 0 1 (record { mark = mark.Refusal; talk = talk }) (omega arith) is.2 is.3
    (ap (λ (d : Dispatch). d.job) is.4 ∙ sym (ap (λ (d : Dispatch). d.job) is.5)) (ap last_of attempts)
    (λ shown bytes shows. let denied = refused is.0.ask is.0.limit shown bytes shows in denied_for_good shown denied.0 denied.1)
