-- What holds of each reading of a run's jobs, from what holds of each ask, body, limit and size.
use Rattle.shared_lemmas.proofs.Lists.{head_is, tail_is}
use Rattle.std.proofs.Common.{◌≡◌, ◌∙◌, ◌+◌, ◌++◌, ℕ, List, [], ◌∷◌, refl, sym, ap, subst, inl, inr, map, length, Contains, arith}
use Rattle.std.specs.Prelude.{IsPermutation}
use Rattle.std.proofs.lemmas.List.{length-append}
use Rattle.std.proofs.lemmas.List.Sorted.{IsPermutation-sym, Contains-permutation, length_permutation}
use Rattle.s3_model.specs.declared.requests.Ask.{Ask}
use Rattle.job_terms.specs.Dispatches.{Dispatch, Dispatched}
use Rattle.promise_examples.proofs.Concrete.{Has, has, has_middle, contains_of}

abbrev pub made : Dispatch → Ask → List ℕ → ℕ → ℕ → Dispatched
made d asked body limit size = record { dispatch = d; ask = asked; body = body; limit = limit; size = size }

-- whatever each of these dispatches asks
abbrev pub Whatever : List Dispatch → (List Dispatched → Type 0) → Type 0
Whatever [] P = P []
Whatever (d ∷ ds) P = (asked : Ask) (body : List ℕ) (limit size : ℕ) → Whatever ds (λ later. P (made d asked body limit size ∷ later))

pub of_shown : (ds : List Dispatch) (P : List Dispatched → Type 0) → Whatever ds P → (xs : List Dispatched) → map (λ (c : Dispatched). c.dispatch) xs ≡ ds → P xs
of_shown [] P all [] e = all
of_shown [] P all (c ∷ xs) e = absurd (cons_nil _ _ e)
  where
    cons_nil : {X : Type 0} (x : X) (rest : List X) → x ∷ rest ≡ [] → ⊥
    cons_nil x rest e = cc
of_shown (d ∷ ds) P all [] e = absurd (nil_cons _ _ e)
  where
    nil_cons : {X : Type 0} (x : X) (rest : List X) → [] ≡ x ∷ rest → ⊥
    nil_cons x rest e = cc
of_shown (d ∷ ds) P all (c ∷ xs) e =
    subst (λ (x : Dispatched). P (x ∷ xs)) (ap (λ (x : Dispatch). made x c.ask c.body c.limit c.size) (sym (head_is _ _ _ _ e)))
    (of_shown ds (λ later. P (made d c.ask c.body c.limit c.size ∷ later)) (all c.ask c.body c.limit c.size) xs (tail_is _ _ _ _ e))

-- ---- one job alone, in each order

pub alone : (c : Dispatched) (coming : List Dispatched) → IsPermutation (c ∷ []) coming → (front : List Dispatched) (d : Dispatched) (later : List Dispatched) → coming ≡ front ++ d ∷ later
    → (later ≡ []) × (c ≡ d)
alone c coming shuffled front d later e = (none later (short later refl), only (has (c ∷ []) d (Contains-permutation coming (c ∷ []) d (IsPermutation-sym (c ∷ []) coming shuffled) (subst (λ (xs : List Dispatched). Contains xs d) (sym e) (contains_of (front ++ d ∷ later) d (has_middle front d later))))))
  where
    only : Has (c ∷ []) d → c ≡ d
    only (inl same) = same
    only (inr h) = absurd h

    short : (xs : List Dispatched) → later ≡ xs → length xs ≡ 0
    short xs is =
        let one : length coming ≡ 1 = length_permutation (c ∷ []) coming shuffled in
        let split : length coming ≡ length front + length (d ∷ later) = ap length e ∙ length-append front (d ∷ later) in
        let same : length later ≡ length xs = ap length is in
        omega arith

    none : (xs : List Dispatched) → length xs ≡ 0 → xs ≡ []
    none [] zero = refl
    none (x ∷ xs) zero = absurd (omega arith)
