-- The law of journals: at every beginning of it no more parts are out than there are.
use Rattle.std.proofs.Common.{◌≡◌, ◌∙◌, ◌⊎◌, ◌+◌, ◌++◌, ◌≤◌, ℕ, Bool, true, false, cond, List, [], ◌∷◌, refl, sym, subst, ap, arith, inl, inr, nat_lt}
use Rattle.std.proofs.lemmas.List.Sums.{sum_by_push}
use Rattle.std.specs.Prelude.{count_by}
use Rattle.job_terms.specs.Jobs.{job_of}
use Rattle.job_terms.specs.Buffers.{buffers_out, gives_buffer_back, holds_buffer, takes_buffer}
use Rattle.s3_model.specs.declared.outcomes.Event.{Event as Entry}
use Rattle.s3_model.specs.declared.outcomes.Event.TheVariants as entry
use Rattle.shared_lemmas.proofs.Lists.{head_is, tail_is}
use Rattle.manager_moves.proofs.BufferLaws.{buffers_are_kept, first_within, lanes_back, lanes_sent, none_at_first, same_jobs, sent_within}
use Rattle.manager_moves.proofs.PartLaws.{one_if}
use Rattle.manager_moves.specs.Laws.{IsRun, JournalsKeepBuffers, part_jobs_before}
use Rattle.manager_moves.specs.Runs.{Back, Called, Events, Lined, Made, Sent, Shared, Stopped, journal_of}

-- one entry more counts once, or not at all
one_counted : (p : Entry → Bool) (b : Bool) (xs : List Entry) (x : Entry) → p x ≡ b → count_by p (xs ++ x ∷ []) ≡ count_by p xs + one_if b
one_counted p b xs x e = sum_by_push (λ (z : Entry). cond {A = ℕ} (p z) 1 0) xs x ∙ ap (λ (n : ℕ). count_by p xs + n) (by b e)
  where
    by : (c : Bool) → p x ≡ c → cond {A = ℕ} (p x) 1 0 ≡ one_if c
    by true q = ap (λ (d : Bool). cond {A = ℕ} d 1 0) q
    by false q = ap (λ (d : Bool). cond {A = ℕ} d 1 0) q

module _ (s : Shared) (some : 1 ≤ s.lanes) where
  -- what was taken is what was given back and what is out
  balanced : (events : Events) → IsRun s events → count_by takes_buffer (journal_of events) ≡ count_by gives_buffer_back (journal_of events) + part_jobs_before s.lanes events
  balanced [] run = let none = none_at_first s some s.lanes in omega arith
  balanced (Made fits ∷ before) run =
      let so_far = balanced before run.1 in
      let same = same_jobs (Made fits ∷ before) before (λ lane. refl) s.lanes in
      omega arith
  balanced (Sent t o k to ∷ before) run =
      let so_far = balanced before run.1 in
      let taken = one_counted takes_buffer (holds_buffer o) (journal_of before) (entry.Given (job_of t o k) to) refl in
      let given = one_counted gives_buffer_back false (journal_of before) (entry.Given (job_of t o k) to) refl in
      let jobs = lanes_sent t o k to before (holds_buffer o) refl s.lanes (sent_within s some before t o k to run.0) in
      omega arith
  balanced (Back from c ∷ before) run =
      let so_far = balanced before run.1 in
      let taken = one_counted takes_buffer false (journal_of before) (entry.Came c.job.id from c.tries) refl in
      let given = one_counted gives_buffer_back (holds_buffer c.job.id.op) (journal_of before) (entry.Came c.job.id from c.tries) refl in
      let jobs = lanes_back from c before run.0.0 (holds_buffer c.job.id.op) refl s.lanes (first_within s some before run.1 from c.job.id run.0.0 (nat_lt from s.lanes) refl) in
      omega arith
  balanced (Called t a r ∷ before) run =
      let so_far = balanced before run.1 in
      let same = same_jobs (Called t a r ∷ before) before (λ lane. refl) s.lanes in
      omega arith
  balanced (Lined ∷ before) run =
      let so_far = balanced before run.1 in
      let same = same_jobs (Lined ∷ before) before (λ lane. refl) s.lanes in
      omega arith
  balanced (Stopped reason ∷ before) run =
      let so_far = balanced before run.1 in
      let same = same_jobs (Stopped reason ∷ before) before (λ lane. refl) s.lanes in
      omega arith

  kept_now : (events : Events) → IsRun s events → buffers_out (journal_of events) ≤ s.buffers
  kept_now events run =
      let balance = balanced events run in
      let few = buffers_are_kept s events run in
      omega arith

  -- ---- beginnings

  none_in : (x : Entry) (xs : List Entry) → ◌≡◌ {A = List Entry} [] (x ∷ xs) → ⊥
  none_in x xs e = cc

  -- a beginning of a list with one entry more is one of the list, or all of it
  begins : (xs front back : List Entry) (x : Entry) → xs ++ x ∷ [] ≡ front ++ back → (front ≡ xs ++ x ∷ []) ⊎ ((rest : List Entry) × (xs ≡ front ++ rest))
  begins xs [] back x e = inr (xs, refl)
  begins [] (y ∷ []) back x e = inl (ap (λ (z : Entry). z ∷ []) (sym (head_is x y [] back e)))
  begins [] (y ∷ z ∷ front) back x e = absurd (none_in z (front ++ back) (tail_is x y [] (z ∷ front ++ back) e))
  begins (v ∷ xs) (y ∷ front) back x e = elim (begins xs front back x (tail_is v y (xs ++ x ∷ []) (front ++ back) e)) [
    | inl all ↦ inl (ap (λ (z : Entry). z ∷ front) (sym (head_is v y (xs ++ x ∷ []) (front ++ back) e)) ∙ ap (λ (zs : List Entry). v ∷ zs) all)
    | inr part ↦ inr (part.0, ap (λ (z : Entry). z ∷ xs) (head_is v y (xs ++ x ∷ []) (front ++ back) e) ∙ ap (λ (zs : List Entry). y ∷ zs) part.1)
  ]

  with_one : (events before : Events) (x : Entry) → IsRun s events → IsRun s before → journal_of events ≡ journal_of before ++ x ∷ [] → (front back : List Entry) → journal_of events ≡ front ++ back
      → ((rest : List Entry) → journal_of before ≡ front ++ rest → buffers_out front ≤ s.buffers) → buffers_out front ≤ s.buffers
  with_one events before x run so_far is front back e rest = elim (begins (journal_of before) front back x (sym is ∙ e)) [
    | inl all ↦ subst (λ (j : List Entry). buffers_out j ≤ s.buffers) (is ∙ sym all) (kept_now events run)
    | inr part ↦ rest part.0 part.1
  ]

  kept : (events : Events) → IsRun s events → (front back : List Entry) → journal_of events ≡ front ++ back → buffers_out front ≤ s.buffers
  kept [] run [] back e = omega arith
  kept [] run (x ∷ front) back e = absurd (none_in x (front ++ back) e)
  kept (Made fits ∷ before) run front back e = kept before run.1 front back e
  kept (Sent t o k to ∷ before) run front back e = with_one (Sent t o k to ∷ before) before (entry.Given (job_of t o k) to) run run.1 refl front back e (λ rest f. kept before run.1 front rest f)
  kept (Back from c ∷ before) run front back e = with_one (Back from c ∷ before) before (entry.Came c.job.id from c.tries) run run.1 refl front back e (λ rest f. kept before run.1 front rest f)
  kept (Called t a r ∷ before) run front back e = kept before run.1 front back e
  kept (Lined ∷ before) run front back e = kept before run.1 front back e
  kept (Stopped reason ∷ before) run front back e = kept before run.1 front back e

pub journals_keep_buffers : JournalsKeepBuffers
journals_keep_buffers s events some run front back e = kept s some events run front back e
