-- The pending jobs of a trace: each is the job of some number of its lane, and no two have one name.
use Rattle.std.proofs.Common.{◌≡◌, ◌∙◌, ◌⊎◌, ◌+◌, ◌-◌, ◌<◌, ◌≤◌, ℕ, zero, suc, List, [], ◌∷◌, Some, refl, sym, subst, ap, inl, inr, arith, length, slice_get}
use Rattle.std.proofs.lemmas.List.{length-drop}
use Rattle.std.specs.Prelude.{drop}
use Rattle.jobs.specs.Endings.{SeenCarried}
use Rattle.jobs.specs.Jobs.{SeenJob}
use Rattle.shared_lemmas.proofs.Clashes.{none_is_some}
use Rattle.shared_lemmas.proofs.Members.{place_in_front, place_middle}
use Rattle.run_traces.specs.Traces.{Called, Gave, IsRunTrace, Lined, Made, RunTrace, Stopped, Took, pending_in}
use Rattle.run_traces.proofs.Splits.{snoc_at}
use Rattle.run_traces.proofs.Steps.{gave_given, gave_here, gave_taken, given_count, given_in, given_grows, taken_count, taken_counted, taken_grows, took_given, took_taken}

-- ---- lists

pub slice_get_drop : {X : Type 0} (n : ℕ) (xs : List X) (k : ℕ) → slice_get (drop n xs) k ≡ slice_get xs (n + k)
slice_get_drop zero xs k = let e : k ≡ 0 + k = omega arith in ap (λ (j : ℕ). slice_get xs j) e
slice_get_drop (suc n) [] k = refl
slice_get_drop (suc n) (x ∷ xs) k =
    let e : suc (n + k) ≡ suc n + k = omega arith in
    slice_get_drop n xs k ∙ ap (λ (j : ℕ). slice_get (x ∷ xs) j) e

pub get_at : {X : Type 0} (xs : List X) (k : ℕ) → k < length xs → (x : X) × (slice_get xs k ≡ Some x)
get_at [] k below = absurd (omega arith)
get_at (x ∷ xs) zero below = (x, refl)
get_at (x ∷ xs) (suc k) below = get_at xs k (omega arith)

pub more_or_same : (m n : ℕ) → m ≤ n → (m < n) ⊎ (m ≡ n)
more_or_same m n below = grind arith

-- ---- pending jobs

-- the job of that number of the lane was given, and no outcome of that number was taken
pub record IsPendingAt (t : RunTrace) (lane number : ℕ) (job : SeenJob) : Type 0 where
  pub given : slice_get (given_in lane t) number ≡ Some job
  pub behind : taken_count lane t ≤ number

pub pending_place : (t : RunTrace) (lane number : ℕ) (job : SeenJob) → IsPendingAt t lane number job → slice_get (pending_in lane t) (number - taken_count lane t) ≡ Some job
pending_place t lane number job at =
    let below = at.behind in
    let place : taken_count lane t + (number - taken_count lane t) ≡ number = omega arith in
    slice_get_drop (taken_count lane t) (given_in lane t) (number - taken_count lane t)
    ∙ ap (λ (k : ℕ). slice_get (given_in lane t) k) place ∙ at.given

-- the oldest pending job of a lane, of which there is one
pub oldest_of : (t : RunTrace) (lane : ℕ) → 0 < length (pending_in lane t) → (job : SeenJob) × (slice_get (pending_in lane t) 0 ≡ Some job) × IsPendingAt t lane (taken_count lane t) job
oldest_of t lane some =
    let there = get_at (pending_in lane t) 0 some in
    let at : slice_get (given_in lane t) (taken_count lane t + 0) ≡ Some there.0 = sym (slice_get_drop (taken_count lane t) (given_in lane t) 0) ∙ there.1 in
    let number : taken_count lane t + 0 ≡ taken_count lane t = omega arith in
    (there.0, there.1, record { given = subst (λ (k : ℕ). slice_get (given_in lane t) k ≡ Some there.0) number at; behind = omega arith })

pub more_given : (t : RunTrace) (lane : ℕ) → 0 < length (pending_in lane t) → taken_count lane t < given_count lane t
more_given t lane some = let long = length-drop (taken_count lane t) (given_in lane t) in omega arith

-- no more outcomes were taken of a lane than jobs were given to it
pub taken_behind : (t : RunTrace) → IsRunTrace t → (lane : ℕ) → taken_count lane t ≤ given_count lane t
taken_behind [] run lane = omega arith
taken_behind (Gave to job ∷ t) run lane =
    let so_far = taken_behind t run.1 lane in
    let grown = given_grows lane (Gave to job) t in
    let same = ap (λ (cs : List SeenCarried). length cs) (gave_taken t to job lane) in
    omega arith
taken_behind (Took from c ∷ t) run lane =
    let so_far = taken_behind t run.1 lane in
    let same = ap (λ (js : List SeenJob). length js) (took_given t from c lane) in
    elim (took_taken t from c lane) [
      | inl here ↦
          let more = more_given t lane (subst (λ (l : ℕ). 0 < length (pending_in l t)) here.0 run.0) in
          let one = subst (λ (l : ℕ). taken_count lane (Took l c ∷ t) ≡ taken_count lane t + 1) (sym here.0) (taken_counted lane c t) in
          omega arith
      | inr other ↦ let as_before = ap (λ (cs : List SeenCarried). length cs) other.1 in omega arith
    ]
taken_behind (Called task called result steps notes ∷ t) run lane = taken_behind t run.1 lane
taken_behind (Made fits ∷ t) run lane = taken_behind t run.1 lane
taken_behind (Lined ∷ t) run lane = taken_behind t run.1 lane
taken_behind (Stopped reason ∷ t) run lane = taken_behind t run.1 lane

-- ---- one step more

-- what is pending behind a giving was pending, or was just given
pub pending_then : (t : RunTrace) (to : ℕ) (job : SeenJob) (lane number : ℕ) (other : SeenJob) → IsPendingAt (Gave to job ∷ t) lane number other
    → IsPendingAt t lane number other ⊎ ((to ≡ lane) × (number ≡ given_count lane t) × (job ≡ other))
pending_then t to job lane number other at = elim (gave_given t to job lane) [
  | inl here ↦ elim (snoc_at (given_in lane t) job number other (subst (λ (js : List SeenJob). slice_get js number ≡ Some other) here.1 at.given)) [
    | inl there ↦ inl (record { given = there; behind = behind })
    | inr last ↦ inr (here.0, last.0, last.1)
  ]
  | inr apart ↦ inl (record { given = subst (λ (js : List SeenJob). slice_get js number ≡ Some other) apart.1 at.given; behind = behind })
]
  where
    behind : taken_count lane t ≤ number
    behind = let low = at.behind in let same = ap (λ (cs : List SeenCarried). length cs) (gave_taken t to job lane) in omega arith

-- what was pending stays so
pub pending_still : (t : RunTrace) (to : ℕ) (job : SeenJob) (lane number : ℕ) (other : SeenJob) → IsPendingAt t lane number other → IsPendingAt (Gave to job ∷ t) lane number other
pending_still t to job lane number other at = record { given = given; behind = let low = at.behind in let same = ap (λ (cs : List SeenCarried). length cs) (gave_taken t to job lane) in omega arith }
  where
    given : slice_get (given_in lane (Gave to job ∷ t)) number ≡ Some other
    given = elim (gave_given t to job lane) [
      | inl here ↦ subst (λ (js : List SeenJob). slice_get js number ≡ Some other) (sym here.1) (place_in_front (given_in lane t) (job ∷ []) number other at.given)
      | inr apart ↦ subst (λ (js : List SeenJob). slice_get js number ≡ Some other) (sym apart.1) at.given
    ]

-- what is given is pending
pub new_pending : (t : RunTrace) (to : ℕ) (job : SeenJob) → IsRunTrace t → IsPendingAt (Gave to job ∷ t) to (given_count to t) job
new_pending t to job run = record {
  given = subst (λ (js : List SeenJob). slice_get js (given_count to t) ≡ Some job) (sym (gave_here t to job)) (place_middle (given_in to t) job []);
  behind = let same = ap (λ (cs : List SeenCarried). length cs) (gave_taken t to job to) in let few = taken_behind t run to in omega arith;
}

-- what is pending behind a completion was pending before it
pub pending_before : (t : RunTrace) (from : ℕ) (c : SeenCarried) (lane number : ℕ) (other : SeenJob) → IsPendingAt (Took from c ∷ t) lane number other → IsPendingAt t lane number other
pending_before t from c lane number other at = record {
  given = subst (λ (js : List SeenJob). slice_get js number ≡ Some other) (took_given t from c lane) at.given;
  behind = let low = at.behind in let grown = taken_grows lane (Took from c) t in omega arith;
}

-- ---- names

name_of : (a b : SeenJob) → a ≡ b → a.id ≡ b.id
name_of a b e = ap (λ (j : SeenJob). j.id) e

-- pending jobs of one name are one
pub pending_once : (t : RunTrace) → IsRunTrace t → (lane other number at : ℕ) (a b : SeenJob) → IsPendingAt t lane number a → IsPendingAt t other at b → a.id ≡ b.id → (lane ≡ other) × (number ≡ at)
pending_once [] run lane other number at a b p q same = absurd (none_is_some a p.given)
pending_once (Gave to job ∷ t) run lane other number at a b p q same =
    elim (pending_then t to job lane number a p) [
      | inl old ↦ elim (pending_then t to job other at b q) [
        | inl older ↦ pending_once t run.1 lane other number at a b old older same
        | inr new ↦ absurd (run.0.0 lane (number - taken_count lane t) a (pending_place t lane number a old) (same ∙ sym (name_of job b new.2)))
      ]
      | inr new ↦ elim (pending_then t to job other at b q) [
        | inl old ↦ absurd (run.0.0 other (at - taken_count other t) b (pending_place t other at b old) (sym same ∙ sym (name_of job a new.2)))
        | inr too ↦ (sym new.0 ∙ too.0, new.1 ∙ ap (λ (l : ℕ). given_count l t) (sym new.0 ∙ too.0) ∙ sym too.1)
      ]
    ]
pending_once (Took from c ∷ t) run lane other number at a b p q same =
    pending_once t run.1 lane other number at a b (pending_before t from c lane number a p) (pending_before t from c other at b q) same
pending_once (Called task called result steps notes ∷ t) run lane other number at a b p q same =
    pending_once t run.1 lane other number at a b (record { given = p.given; behind = p.behind }) (record { given = q.given; behind = q.behind }) same
pending_once (Made fits ∷ t) run lane other number at a b p q same =
    pending_once t run.1 lane other number at a b (record { given = p.given; behind = p.behind }) (record { given = q.given; behind = q.behind }) same
pending_once (Lined ∷ t) run lane other number at a b p q same =
    pending_once t run.1 lane other number at a b (record { given = p.given; behind = p.behind }) (record { given = q.given; behind = q.behind }) same
pending_once (Stopped reason ∷ t) run lane other number at a b p q same =
    pending_once t run.1 lane other number at a b (record { given = p.given; behind = p.behind }) (record { given = q.given; behind = q.behind }) same
