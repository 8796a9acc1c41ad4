-- Jobs that are given more than once, in a list of dispatches that is written out.
use Rattle.job_terms.proofs.SameJobs.{job_itself}
use Rattle.std.proofs.Common.{◌≡◌, ◌∙◌, ◌+◌, ◌<◌, ◌≤◌, ℕ, zero, suc, Bool, true, false, cond, List, [], ◌∷◌, Some, refl, sym, ap, AllPairs, filter, length, slice_get, arith}
use Rattle.s3_model.specs.declared.outcomes.JobId.{JobId}
use Rattle.job_terms.specs.Dispatches.{Dispatched}
use Rattle.job_terms.specs.Jobs.{is_job}
use Rattle.promise_examples.proofs.Concrete.{Each, Pairs, pairs, none_is_some, some_is}

-- two jobs that the test tells apart
pub other_job : (a b : JobId) → is_job a b ≡ false → a ≡ b → ⊥
other_job a b e same = clash (is_job a b) (sym (ap (is_job a) same) ∙ job_itself a) e
  where
    clash : (t : Bool) → t ≡ true → t ≡ false → ⊥
    clash t p q = cc

-- another dispatch of that job
abbrev pub repeats : Dispatched → Dispatched → Bool
repeats a b = is_job a.dispatch.job b.dispatch.job

repeats_is : (a b : Dispatched) → a.dispatch.job ≡ b.dispatch.job → repeats a b ≡ true
repeats_is a b e = sym (ap (is_job a.dispatch.job) e) ∙ job_itself a.dispatch.job

-- ---- each pair of dispatches of one job

abbrev pub Repeats : (Dispatched → Dispatched → Type 0) → List Dispatched → Type 0
Repeats R [] = Unit {0}
Repeats R (a ∷ later) = Each (R a) (filter (repeats a) later) × Repeats R later

split_test : (R : Dispatched → Type 0) (test : Dispatched → Bool) (xs : List Dispatched) → Each R (filter test xs) → Each (λ b. test b ≡ true → R b) xs
split_test R test [] all = tt
split_test R test (b ∷ later) all = from (test b) refl (split_test R test later) all
  where
    no : {A : Type 0} (t : Bool) → t ≡ false → t ≡ true → A
    no t f e = cc

    from : (t : Bool) → test b ≡ t → (Each R (filter test later) → Each (λ c. test c ≡ true → R c) later) → Each R (cond t (b ∷ filter test later) (filter test later))
        → (test b ≡ true → R b) × Each (λ c. test c ≡ true → R c) later
    from true is rest h = ((λ e. h.0), rest h.1)
    from false is rest h = ((λ e. no (test b) is e), rest h)

weaken : (P Q : Dispatched → Type 0) → ((b : Dispatched) → P b → Q b) → (xs : List Dispatched) → Each P xs → Each Q xs
weaken P Q f [] all = tt
weaken P Q f (b ∷ later) all = (f b all.0, weaken P Q f later all.1)

of_repeats : (R : Dispatched → Dispatched → Type 0) (xs : List Dispatched) → Repeats R xs → Pairs (λ a b. a.dispatch.job ≡ b.dispatch.job → R a b) xs
of_repeats R [] all = tt
of_repeats R (a ∷ later) all =
    (weaken (λ b. repeats a b ≡ true → R a b) (λ b. a.dispatch.job ≡ b.dispatch.job → R a b) (λ b h e. h (repeats_is a b e)) later (split_test (R a) (repeats a) later all.0), of_repeats R later all.1)

pub all_repeats : (R : Dispatched → Dispatched → Type 0) (xs : List Dispatched) → Repeats R xs → AllPairs (λ (a b : Dispatched). a.dispatch.job ≡ b.dispatch.job → R a b) xs
all_repeats R xs all = pairs (λ (a b : Dispatched). a.dispatch.job ≡ b.dispatch.job → R a b) xs (of_repeats R xs all)

-- ---- no third

-- at most one later dispatch of each job
abbrev pub Seconds : List Dispatched → Type 0
Seconds [] = Unit {0}
Seconds (a ∷ later) = (length (filter (repeats a) later) ≤ 1) × Seconds later

grows : (test : Dispatched → Bool) (b : Dispatched) (xs : List Dispatched) → length (filter test xs) ≤ length (filter test (b ∷ xs))
grows test b xs = from (test b)
  where
    from : (t : Bool) → length (filter test xs) ≤ length (cond t (b ∷ filter test xs) (filter test xs))
    from true = omega arith
    from false = omega arith

counts : (test : Dispatched → Bool) (b : Dispatched) (xs : List Dispatched) (n : ℕ) → test b ≡ true → n ≤ length (filter test xs) → n + 1 ≤ length (filter test (b ∷ xs))
counts test b xs n ok h = rw ok (omega arith)

one_passes : (test : Dispatched → Bool) (xs : List Dispatched) (k : ℕ) (c : Dispatched) → slice_get xs k ≡ Some c → test c ≡ true → 1 ≤ length (filter test xs)
one_passes test [] k c at ok = absurd (none_is_some c at)
one_passes test (b ∷ xs) zero c at ok = counts test b xs 0 (ap test (some_is b c at) ∙ ok) (omega arith)
one_passes test (b ∷ xs) (suc k) c at ok = let rest = one_passes test xs k c at ok in let more = grows test b xs in omega arith

two_pass : (test : Dispatched → Bool) (xs : List Dispatched) (j k : ℕ) (b c : Dispatched) → j < k → slice_get xs j ≡ Some b → slice_get xs k ≡ Some c → test b ≡ true → test c ≡ true → 2 ≤ length (filter test xs)
two_pass test [] j k b c before at_j at_k ok also = absurd (none_is_some b at_j)
two_pass test (a ∷ xs) zero zero b c before at_j at_k ok also = absurd (omega arith)
two_pass test (a ∷ xs) zero (suc k) b c before at_j at_k ok also = counts test a xs 1 (ap test (some_is a b at_j) ∙ ok) (one_passes test xs k c at_k also)
two_pass test (a ∷ xs) (suc j) zero b c before at_j at_k ok also = absurd (omega arith)
two_pass test (a ∷ xs) (suc j) (suc k) b c before at_j at_k ok also = let rest = two_pass test xs j k b c (omega arith) at_j at_k ok also in let more = grows test a xs in omega arith

pub no_third : (xs : List Dispatched) → Seconds xs → (a b c : Dispatched) (i j k : ℕ) → i < j → j < k → slice_get xs i ≡ Some a → slice_get xs j ≡ Some b → slice_get xs k ≡ Some c
    → a.dispatch.job ≡ b.dispatch.job → b.dispatch.job ≡ c.dispatch.job → ⊥
no_third [] all a b c i j k ij jk at_i at_j at_k same also = none_is_some a at_i
no_third (x ∷ xs) all a b c zero zero k ij jk at_i at_j at_k same also = omega arith
no_third (x ∷ xs) all a b c zero (suc j) zero ij jk at_i at_j at_k same also = omega arith
no_third (x ∷ xs) all a b c zero (suc j) (suc k) ij jk at_i at_j at_k same also =
    let is = some_is x a at_i in
    let job : x.dispatch.job ≡ b.dispatch.job = ap (λ (d : Dispatched). d.dispatch.job) is ∙ same in
    let two = two_pass (repeats x) xs j k b c (omega arith) at_j at_k (repeats_is x b job) (repeats_is x c (job ∙ also)) in
    let one = all.0 in omega arith
no_third (x ∷ xs) all a b c (suc i) zero k ij jk at_i at_j at_k same also = omega arith
no_third (x ∷ xs) all a b c (suc i) (suc j) zero ij jk at_i at_j at_k same also = omega arith
no_third (x ∷ xs) all a b c (suc i) (suc j) (suc k) ij jk at_i at_j at_k same also = no_third xs all.1 a b c i j k (omega arith) (omega arith) at_i at_j at_k same also
