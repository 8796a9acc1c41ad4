-- Where each question stands in the trace, and that its completion has the name of its job.
use Rattle.std.proofs.Common.{◌≡◌, ◌∙◌, ◌+◌, ◌++◌, ℕ, List, [], ◌∷◌, Some, refl, sym, ap, arith, length, slice_get, append_assoc, append-nil}
use Rattle.jobs.specs.Endings.{SeenCarried}
use Rattle.jobs.specs.Jobs.{SeenJob}
use Rattle.run_traces.proofs.Completions.{HaveOwnNames}
use Rattle.run_traces.proofs.Pending.{slice_get_drop}
use Rattle.run_traces.proofs.Steps.{entry_count, gave_counted, gave_here, gave_taken, given_count, given_counted, given_in, taken_count, taken_counted, took_counted, took_given}
use Rattle.run_traces.specs.Traces.{Gave, RunTrace, Took}
use Rattle.shared_lemmas.proofs.Members.{place_middle}
use Rattle.planning_questions.specs.Questions.{Question, question_job, trace_of}

-- the question of that number stands behind those of lower numbers
pub record QuestionAt (trace : RunTrace) (n : ℕ) (q : Question) : Type 0 where
  pub later : RunTrace
  pub before : RunTrace
  pub is : trace ≡ later ++ Took 0 q.carried ∷ Gave 0 (question_job n q.asked) ∷ before
  pub given : given_count 0 before ≡ n
  pub taken : taken_count 0 before ≡ n
  pub entries : entry_count before ≡ n + n

abbrev pub EachAt : RunTrace → ℕ → List Question → Type 0
EachAt trace n [] = Unit {0}
EachAt trace n (q ∷ qs) = QuestionAt trace n q × EachAt trace (n + 1) qs

module _ (n : ℕ) (job : SeenJob) (c : SeenCarried) (before : RunTrace) where
  abbrev both : RunTrace
  both = Took 0 c ∷ Gave 0 job ∷ before

  given_next : given_count 0 before ≡ n → given_count 0 both ≡ n + 1
  given_next e = ap (λ (js : List SeenJob). length js) (took_given (Gave 0 job ∷ before) 0 c 0) ∙ given_counted 0 job before ∙ ap (λ (k : ℕ). k + 1) e

  taken_next : taken_count 0 before ≡ n → taken_count 0 both ≡ n + 1
  taken_next e = taken_counted 0 c (Gave 0 job ∷ before) ∙ ap (λ (cs : List SeenCarried). length cs + 1) (gave_taken before 0 job 0) ∙ ap (λ (k : ℕ). k + 1) e

  entries_next : entry_count before ≡ n + n → entry_count both ≡ (n + 1) + (n + 1)
  entries_next e =
      let one = took_counted 0 c (Gave 0 job ∷ before) in
      let two = gave_counted 0 job before in
      omega (arith, one, two, e)

pub each_at : (trace : RunTrace) (qs : List Question) (n : ℕ) (before : RunTrace) → trace ≡ trace_of n qs ++ before → given_count 0 before ≡ n → taken_count 0 before ≡ n → entry_count before ≡ n + n → EachAt trace n qs
each_at trace [] n before is given taken entries = tt
each_at trace (q ∷ qs) n before is given taken entries =
    let job = question_job n q.asked in
    let here : trace ≡ trace_of (n + 1) qs ++ Took 0 q.carried ∷ Gave 0 job ∷ before = is ∙ append_assoc (trace_of (n + 1) qs) (Took 0 q.carried ∷ Gave 0 job ∷ []) before in (
      record { later = trace_of (n + 1) qs; before = before; is = here; given = given; taken = taken; entries = entries },
      each_at trace qs (n + 1) (Took 0 q.carried ∷ Gave 0 job ∷ before) here (given_next n job q.carried before given) (taken_next n job q.carried before taken) (entries_next n job q.carried before entries),
    )

pub all_at : (qs : List Question) → EachAt (trace_of 0 qs) 0 qs
all_at qs = each_at (trace_of 0 qs) qs 0 [] (sym (append-nil (trace_of 0 qs))) refl refl refl

-- ---- names

abbrev pub HaveNames : ℕ → List Question → Type 0
HaveNames n [] = Unit {0}
HaveNames n (q ∷ qs) = (q.carried.job.id ≡ (question_job n q.asked).id) × HaveNames (n + 1) qs

module _ (trace : RunTrace) (own : HaveOwnNames trace) where
  name_of : (n : ℕ) (q : Question) → QuestionAt trace n q → q.carried.job.id ≡ (question_job n q.asked).id
  name_of n q at =
      let job = question_job n q.asked in
      let t : RunTrace = Gave 0 job ∷ at.before in
      let counted : taken_count 0 t ≡ given_count 0 at.before = ap (λ (cs : List SeenCarried). length cs) (gave_taken at.before 0 job 0) ∙ at.taken ∙ sym at.given in
      let place : taken_count 0 t + 0 ≡ given_count 0 at.before = omega (arith, counted) in
      let there : slice_get (given_in 0 t) (taken_count 0 t + 0) ≡ Some job =
      ap (λ (k : ℕ). slice_get (given_in 0 t) k) place ∙ ap (λ (js : List SeenJob). slice_get js (given_count 0 at.before)) (gave_here at.before 0 job)
      ∙ place_middle (given_in 0 at.before) job [] in
      own at.later t 0 q.carried job at.is (slice_get_drop (taken_count 0 t) (given_in 0 t) 0 ∙ there)

  pub names_of : (n : ℕ) (qs : List Question) → EachAt trace n qs → HaveNames n qs
  names_of n [] all = tt
  names_of n (q ∷ qs) all = (name_of n q all.0, names_of (n + 1) qs all.1)
