-- Places of a trace: by how much was done before it one is found, and told from another.
use Rattle.std.proofs.Common.{◌≡◌, ◌∙◌, ◌⊎◌, ◌<◌, ◌++◌, ℕ, zero, suc, List, [], ◌∷◌, Some, refl, sym, subst, ap, inl, inr, arith, length, slice_get}
use Rattle.jobs.specs.Endings.{SeenCarried}
use Rattle.jobs.specs.Jobs.{SeenJob}
use Rattle.shared_lemmas.proofs.Clashes.{none_is_some, some_is}
use Rattle.shared_lemmas.proofs.Lists.{cons_is, head_is, tail_is}
use Rattle.run_traces.specs.Traces.{Called, Gave, Lined, Made, RunStep, RunTrace, Stopped, Took}
use Rattle.run_traces.proofs.Steps.{Grows, gave_given, gave_taken, given_count, given_in, grow, taken_count, taken_in, took_given, took_taken}

-- ---- one place or two

pub record SameSplit (later other : RunTrace) (x y : RunStep) (before behind : RunTrace) : Type 0 where
  pub later_is : later ≡ other
  pub step_is : x ≡ y
  pub before_is : before ≡ behind

module _ (m : RunTrace → ℕ) (grows : Grows m) where
  passed : (x y : RunStep) (later before t : RunTrace) → m before < m (x ∷ before) → t ≡ later ++ x ∷ before → m t ≡ m before → ⊥
  passed x y later before t more is same =
      let above = grow m grows later (x ∷ before) in
      let at = ap m is in
      omega arith

  -- two places before which as much was done, and at which more is done, are one
  pub same_split : (later other : RunTrace) (x y : RunStep) (before behind : RunTrace) → m before < m (x ∷ before) → m behind < m (y ∷ behind) → later ++ x ∷ before ≡ other ++ y ∷ behind
      → m before ≡ m behind → SameSplit later other x y before behind
  same_split [] [] x y before behind more too e same = record { later_is = refl; step_is = head_is x y before behind e; before_is = tail_is x y before behind e }
  same_split [] (z ∷ other) x y before behind more too e same = absurd (passed y x other behind before too (tail_is x z before (other ++ y ∷ behind) e) same)
  same_split (z ∷ later) [] x y before behind more too e same = absurd (passed x y later before behind more (sym (tail_is z y (later ++ x ∷ before) behind e)) (sym same))
  same_split (z ∷ later) (w ∷ other) x y before behind more too e same =
      let rest = same_split later other x y before behind more too (tail_is z w (later ++ x ∷ before) (other ++ y ∷ behind) e) same in
      record { later_is = cons_is z w later other (head_is z w (later ++ x ∷ before) (other ++ y ∷ behind) e) rest.later_is; step_is = rest.step_is; before_is = rest.before_is }

  -- of two places the one before which less was done stands before the other
  pub before_it : (later other : RunTrace) (x y : RunStep) (before behind : RunTrace) → m behind < m (y ∷ behind) → later ++ x ∷ before ≡ other ++ y ∷ behind
      → m before < m behind → (between : RunTrace) × (behind ≡ between ++ x ∷ before)
  before_it [] [] x y before behind too e less = absurd (let at = ap m (tail_is x y before behind e) in omega arith)
  before_it [] (z ∷ other) x y before behind too e less =
      absurd (let at = ap m (tail_is x z before (other ++ y ∷ behind) e) in let above = grow m grows other (y ∷ behind) in omega arith)
  before_it (z ∷ later) [] x y before behind too e less = (later, sym (tail_is z y (later ++ x ∷ before) behind e))
  before_it (z ∷ later) (w ∷ other) x y before behind too e less =
      before_it later other x y before behind too (tail_is z w (later ++ x ∷ before) (other ++ y ∷ behind) e) less

-- ---- members of a list by their places

pub snoc_at : {X : Type 0} (xs : List X) (x : X) (i : ℕ) (y : X) → slice_get (xs ++ x ∷ []) i ≡ Some y → (slice_get xs i ≡ Some y) ⊎ ((i ≡ length xs) × (x ≡ y))
snoc_at [] x zero y e = inr (refl, some_is x y e)
snoc_at [] x (suc i) y e = absurd (none_is_some y e)
snoc_at (z ∷ xs) x zero y e = inl e
snoc_at (z ∷ xs) x (suc i) y e = elim (snoc_at xs x i y e) [
  | inl there ↦ inl there
  | inr last ↦ inr (ap suc last.0, last.1)
]

-- ---- the place of a job of a lane

-- where the lane got its job of that number
pub record GivenAt (trace : RunTrace) (lane number : ℕ) (job : SeenJob) : Type 0 where
  pub later : RunTrace
  pub before : RunTrace
  pub is : trace ≡ later ++ Gave lane job ∷ before
  pub number_is : given_count lane before ≡ number

-- where its outcome of that number was taken
pub record TakenAt (trace : RunTrace) (lane number : ℕ) (carried : SeenCarried) : Type 0 where
  pub later : RunTrace
  pub before : RunTrace
  pub is : trace ≡ later ++ Took lane carried ∷ before
  pub number_is : taken_count lane before ≡ number

module _ (lane number : ℕ) (job : SeenJob) where
  given_later : (x : RunStep) (t : RunTrace) → GivenAt t lane number job → GivenAt (x ∷ t) lane number job
  given_later x t at = record { later = x ∷ at.later; before = at.before; is = ap (λ (s : RunTrace). x ∷ s) at.is; number_is = at.number_is }

  pub given_at : (trace : RunTrace) → slice_get (given_in lane trace) number ≡ Some job → GivenAt trace lane number job
  given_at [] e = absurd (none_is_some job e)
  given_at (Gave to new ∷ t) e = elim (gave_given t to new lane) [
    | inl here ↦ elim (snoc_at (given_in lane t) new number job (subst (λ (js : List SeenJob). slice_get js number ≡ Some job) here.1 e)) [
      | inl there ↦ given_later (Gave to new) t (given_at t there)
      | inr last ↦ record {
        later = [];
        before = t;
        is = ap (λ (l : ℕ). Gave l new ∷ t) here.0 ∙ ap (λ (j : SeenJob). Gave lane j ∷ t) last.1;
        number_is = sym last.0;
      }
    ]
    | inr other ↦ given_later (Gave to new) t (given_at t (subst (λ (js : List SeenJob). slice_get js number ≡ Some job) other.1 e))
  ]
  given_at (Took from c ∷ t) e = given_later (Took from c) t (given_at t (subst (λ (js : List SeenJob). slice_get js number ≡ Some job) (took_given t from c lane) e))
  given_at (Called task called result steps notes ∷ t) e = given_later (Called task called result steps notes) t (given_at t e)
  given_at (Made fits ∷ t) e = given_later (Made fits) t (given_at t e)
  given_at (Lined ∷ t) e = given_later Lined t (given_at t e)
  given_at (Stopped reason ∷ t) e = given_later (Stopped reason) t (given_at t e)

module _ (lane number : ℕ) (carried : SeenCarried) where
  taken_later : (x : RunStep) (t : RunTrace) → TakenAt t lane number carried → TakenAt (x ∷ t) lane number carried
  taken_later x t at = record { later = x ∷ at.later; before = at.before; is = ap (λ (s : RunTrace). x ∷ s) at.is; number_is = at.number_is }

  pub taken_at : (trace : RunTrace) → slice_get (taken_in lane trace) number ≡ Some carried → TakenAt trace lane number carried
  taken_at [] e = absurd (none_is_some carried e)
  taken_at (Took from new ∷ t) e = elim (took_taken t from new lane) [
    | inl here ↦ elim (snoc_at (taken_in lane t) new number carried (subst (λ (cs : List SeenCarried). slice_get cs number ≡ Some carried) here.1 e)) [
      | inl there ↦ taken_later (Took from new) t (taken_at t there)
      | inr last ↦ record {
        later = [];
        before = t;
        is = ap (λ (l : ℕ). Took l new ∷ t) here.0 ∙ ap (λ (c : SeenCarried). Took lane c ∷ t) last.1;
        number_is = sym last.0;
      }
    ]
    | inr other ↦ taken_later (Took from new) t (taken_at t (subst (λ (cs : List SeenCarried). slice_get cs number ≡ Some carried) other.1 e))
  ]
  taken_at (Gave to job ∷ t) e = taken_later (Gave to job) t (taken_at t (subst (λ (cs : List SeenCarried). slice_get cs number ≡ Some carried) (gave_taken t to job lane) e))
  taken_at (Called task called result steps notes ∷ t) e = taken_later (Called task called result steps notes) t (taken_at t e)
  taken_at (Made fits ∷ t) e = taken_later (Made fits) t (taken_at t e)
  taken_at (Lined ∷ t) e = taken_later Lined t (taken_at t e)
  taken_at (Stopped reason ∷ t) e = taken_later (Stopped reason) t (taken_at t e)
