-- How many attempts were made of a job by all that was given: those that its completions tell of, and where it is
-- pending those of its outcome.
use Rattle.std.proofs.Common.{◌≡◌, ◌∙◌, ◌⊎◌, ◌+◌, ◌-◌, ◌≤◌, ℕ, Bool, true, false, cond, List, [], ◌∷◌, Some, refl, sym, subst, ap, inl, inr, arith, length, slice_get}
use Rattle.bounded_executor.specs.Exchange.{Exchange}
use Rattle.job_terms.proofs.SameJobs.{job_itself, job_same}
use Rattle.job_terms.specs.Jobs.{is_job}
use Rattle.jobs.specs.Endings.{SeenCarried}
use Rattle.jobs.specs.Jobs.{SeenJob}
use Rattle.s3_model.specs.declared.outcomes.JobId.{JobId}
use Rattle.shared_lemmas.proofs.Clashes.{none_is_some, some_is}
use Rattle.run_traces.specs.Traces.{Gave, IsNotPending, IsRunTrace, RunTrace, Took, exchange_of, tries_of}
use Rattle.run_traces.proofs.Pending.{IsPendingAt, pending_before, more_or_same, new_pending, pending_once, pending_place, pending_still, pending_then}
use Rattle.run_traces.proofs.Steps.{given_count, given_in, taken_count, taken_counted, taken_in, took_given, took_taken}

-- whether two names are one
same_name : (a b : JobId) → ((is_job a b ≡ true) × (a ≡ b)) ⊎ ((is_job a b ≡ false) × (a ≡ b → ⊥))
same_name a b = by (is_job a b) refl
  where
    false_is_true : false ≡ true → ⊥
    false_is_true e = cc

    by : (t : Bool) → is_job a b ≡ t → ((is_job a b ≡ true) × (a ≡ b)) ⊎ ((is_job a b ≡ false) × (a ≡ b → ⊥))
    by true e = inl (e, job_same a b e)
    by false e = inr (e, λ same. false_is_true (sym e ∙ sym (ap (is_job a) same) ∙ job_itself a))

-- no pending job has that name
abbrev pub IsQuiet : RunTrace → JobId → Type 0
IsQuiet t id = (lane number : ℕ) (job : SeenJob) → IsPendingAt t lane number job → job.id ≡ id → ⊥

pub record Tallies (trace t : RunTrace) (sum : JobId → ℕ) : Type 0 where
  pub quiet : (id : JobId) → IsQuiet t id → sum id ≡ tries_of id t
  pub pending : (lane number : ℕ) (job : SeenJob) (c : SeenCarried) → IsPendingAt t lane number job → slice_get (taken_in lane trace) number ≡ Some c → sum job.id ≡ tries_of job.id t + length c.tries

pub none_given : (trace : RunTrace) → Tallies trace [] (λ id. 0)
none_given trace = record { quiet = λ id h. refl; pending = λ lane number job c at e. absurd (none_is_some job at.given) }

pub is_quiet : (t : RunTrace) (id : JobId) → IsNotPending id t → IsQuiet t id
is_quiet t id new lane number job at same = new lane (number - taken_count lane t) job (pending_place t lane number job at) same

-- the sum with a job that is given: the attempts of its outcome come to those of its name
abbrev pub with_job : (sum : JobId → ℕ) (job : SeenJob) (c : SeenCarried) → JobId → ℕ
with_job sum job c id = cond (is_job job.id id) (length c.tries + sum id) (sum id)

module _ (trace t : RunTrace) (sum : JobId → ℕ) (run : IsRunTrace t) (so_far : Tallies trace t sum) where
  module _ (to : ℕ) (job : SeenJob) (c : SeenCarried) (new : IsNotPending job.id t) (its : slice_get (taken_in to trace) (given_count to t) ≡ Some c) where
    apart : (id : JobId) → (job.id ≡ id → ⊥) → with_job sum job c id ≡ sum id
    apart id other = elim (same_name job.id id) [
      | inl same ↦ absurd (other same.1)
      | inr not ↦ ap (λ (b : Bool). cond b (length c.tries + sum id) (sum id)) not.0
    ]

    here : with_job sum job c job.id ≡ tries_of job.id t + length c.tries
    here =
        let none = so_far.quiet job.id (is_quiet t job.id new) in
        let turned : length c.tries + sum job.id ≡ tries_of job.id t + length c.tries = omega arith in
        ap (λ (b : Bool). cond b (length c.tries + sum job.id) (sum job.id)) (job_itself job.id) ∙ turned

    quiet_then : (id : JobId) → IsQuiet (Gave to job ∷ t) id → with_job sum job c id ≡ tries_of id t
    quiet_then id none =
        apart id (λ same. none to (given_count to t) job (new_pending t to job run) same)
        ∙ so_far.quiet id (λ lane number other at same. none lane number other (pending_still t to job lane number other at) same)

    pending_now : (lane number : ℕ) (other : SeenJob) (d : SeenCarried) → IsPendingAt (Gave to job ∷ t) lane number other → slice_get (taken_in lane trace) number ≡ Some d
        → with_job sum job c other.id ≡ tries_of other.id t + length d.tries
    pending_now lane number other d at e = elim (pending_then t to job lane number other at) [
      | inl old ↦ apart other.id (λ same. new lane (number - taken_count lane t) other (pending_place t lane number other old) (sym same)) ∙ so_far.pending lane number other d old e
      | inr mine ↦
          let number_is : number ≡ given_count to t = mine.1 ∙ ap (λ (l : ℕ). given_count l t) (sym mine.0) in
          let outcome : slice_get (taken_in to trace) (given_count to t) ≡ Some d =
          ap (λ (l : ℕ). slice_get (taken_in l trace) (given_count to t)) mine.0 ∙ ap (λ (k : ℕ). slice_get (taken_in lane trace) k) (sym number_is) ∙ e in
          subst (λ (j : SeenJob). with_job sum job c j.id ≡ tries_of j.id t + length d.tries) mine.2
          (here ∙ ap (λ (x : SeenCarried). tries_of job.id t + length x.tries) (some_is c d (sym its ∙ outcome)))
    ]

    pub gave : Tallies trace (Gave to job ∷ t) (with_job sum job c)
    gave = record { quiet = quiet_then; pending = pending_now }

  module _ (from : ℕ) (c : SeenCarried) (old : SeenJob) (oldest : IsPendingAt t from (taken_count from t) old) (name : c.job.id ≡ old.id)
      (its : slice_get (taken_in from trace) (taken_count from t) ≡ Some c) where
    counted : (id : JobId) → c.job.id ≡ id → tries_of id (Took from c ∷ t) ≡ tries_of id t + length c.tries
    counted id same =
        ap (λ (b : Bool). cond b (tries_of id t + length c.tries) (tries_of id t)) (ap (is_job c.job.id) (sym same) ∙ job_itself c.job.id)

    not_counted : (id : JobId) → (c.job.id ≡ id → ⊥) → tries_of id (Took from c ∷ t) ≡ tries_of id t
    not_counted id other = elim (same_name c.job.id id) [
      | inl same ↦ absurd (other same.1)
      | inr not ↦ ap (λ (b : Bool). cond b (tries_of id t + length c.tries) (tries_of id t)) not.0
    ]

    -- what was pending and has another name is pending still
    stays : (id : JobId) → (c.job.id ≡ id → ⊥) → (lane number : ℕ) (other : SeenJob) → IsPendingAt t lane number other → other.id ≡ id → IsPendingAt (Took from c ∷ t) lane number other
    stays id apart lane number other at same = record {
      given = subst (λ (js : List SeenJob). slice_get js number ≡ Some other) (sym (took_given t from c lane)) at.given;
      behind = above;
    }
      where
        is_old : from ≡ lane → number ≡ taken_count from t → ⊥
        is_old lane_is number_is =
            let first = subst (λ (l : ℕ). IsPendingAt t l number other) (sym lane_is) at in
            let at_first = subst (λ (k : ℕ). slice_get (given_in from t) k ≡ Some other) number_is first.given in
            apart (name ∙ ap (λ (j : SeenJob). j.id) (some_is old other (sym oldest.given ∙ at_first)) ∙ same)

        above : taken_count lane (Took from c ∷ t) ≤ number
        above = elim (took_taken t from c lane) [
          | inl here ↦ elim (more_or_same (taken_count lane t) number at.behind) [
            | inl less ↦ let one = subst (λ (l : ℕ). taken_count lane (Took l c ∷ t) ≡ taken_count lane t + 1) (sym here.0) (taken_counted lane c t) in omega arith
            | inr equal ↦ absurd (is_old here.0 (sym equal ∙ ap (λ (l : ℕ). taken_count l t) (sym here.0)))
          ]
          | inr not_here ↦ let same_count = ap (λ (cs : List SeenCarried). length cs) not_here.1 in let low = at.behind in omega arith
        ]

    quiet_behind : (id : JobId) → IsQuiet (Took from c ∷ t) id → sum id ≡ tries_of id (Took from c ∷ t)
    quiet_behind id none = elim (same_name c.job.id id) [
      | inl same ↦ subst (λ (i : JobId). sum i ≡ tries_of i t + length c.tries) (sym name ∙ same.1) (so_far.pending from (taken_count from t) old c oldest its) ∙ sym (counted id same.1)
      | inr apart ↦
          so_far.quiet id (λ lane number other at is. none lane number other (stays id apart.1 lane number other at is) is)
          ∙ sym (not_counted id apart.1)
    ]

    pending_behind : (lane number : ℕ) (other : SeenJob) (d : SeenCarried) → IsPendingAt (Took from c ∷ t) lane number other → slice_get (taken_in lane trace) number ≡ Some d
        → sum other.id ≡ tries_of other.id (Took from c ∷ t) + length d.tries
    pending_behind lane number other d at e =
        so_far.pending lane number other d (pending_before t from c lane number other at) e
        ∙ ap (λ (n : ℕ). n + length d.tries) (sym (not_counted other.id (λ same. gone same)))
      where
        gone : c.job.id ≡ other.id → ⊥
        gone same =
            let one = pending_once t run from lane (taken_count from t) number old other oldest (pending_before t from c lane number other at) (sym name ∙ same) in
            let above = at.behind in
            let more = subst (λ (l : ℕ). taken_count lane (Took l c ∷ t) ≡ taken_count lane t + 1) (sym one.0) (taken_counted lane c t) in
            let at_lane = ap (λ (l : ℕ). taken_count l t) one.0 in
            let number_is = one.1 in
            absurd (omega arith)

    pub took : Tallies trace (Took from c ∷ t) sum
    took = record { quiet = quiet_behind; pending = pending_behind }

-- what is given and taken, and what completions tell of, is all that matters
pub alike : (trace t u : RunTrace) (sum total : JobId → ℕ) → ((lane : ℕ) → exchange_of lane u ≡ exchange_of lane t) → ((id : JobId) → tries_of id u ≡ tries_of id t) → ((id : JobId) → total id ≡ sum id)
    → Tallies trace t sum → Tallies trace u total
alike trace t u sum total exchanges tries totals so_far = record { quiet = quiet; pending = pending }
  where
    to_u : (lane number : ℕ) (job : SeenJob) → IsPendingAt t lane number job → IsPendingAt u lane number job
    to_u lane number job at = record {
      given = subst (λ (e : Exchange SeenJob SeenCarried). slice_get e.given number ≡ Some job) (sym (exchanges lane)) at.given;
      behind = subst (λ (e : Exchange SeenJob SeenCarried). length e.taken ≤ number) (sym (exchanges lane)) at.behind;
    }

    to_t : (lane number : ℕ) (job : SeenJob) → IsPendingAt u lane number job → IsPendingAt t lane number job
    to_t lane number job at = record {
      given = subst (λ (e : Exchange SeenJob SeenCarried). slice_get e.given number ≡ Some job) (exchanges lane) at.given;
      behind = subst (λ (e : Exchange SeenJob SeenCarried). length e.taken ≤ number) (exchanges lane) at.behind;
    }

    quiet : (id : JobId) → IsQuiet u id → total id ≡ tries_of id u
    quiet id none = totals id ∙ so_far.quiet id (λ lane number job at same. none lane number job (to_u lane number job at) same) ∙ sym (tries id)

    pending : (lane number : ℕ) (job : SeenJob) (c : SeenCarried) → IsPendingAt u lane number job → slice_get (taken_in lane trace) number ≡ Some c → total job.id ≡ tries_of job.id u + length c.tries
    pending lane number job c at e =
        totals job.id ∙ so_far.pending lane number job c (to_t lane number job at) e ∙ ap (λ (n : ℕ). n + length c.tries) (sym (tries job.id))
