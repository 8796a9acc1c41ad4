-- What one step more, or many, make of the exchanges and the journal of a trace.
use Rattle.std.proofs.Common.{◌≡◌, ◌∙◌, ◌⊎◌, ◌==◌, ◌+◌, ◌≤◌, ◌++◌, ℕ, Bool, true, false, cond, List, [], ◌∷◌, refl, sym, ap, inl, inr, arith, length, append_assoc, append-nil}
use Rattle.std.proofs.lemmas.List.{length-append}
use Rattle.std.proofs.lemmas.List.Elements.{filter_map-append}
use Rattle.bounded_executor.specs.Exchange.{with_given, with_taken}
use Rattle.jobs.specs.Endings.{SeenCarried}
use Rattle.jobs.specs.Jobs.{SeenJob}
use Rattle.s3_model.specs.declared.outcomes.Event.{Event as Entry}
use Rattle.s3_model.specs.declared.outcomes.Event.TheVariants as entry
use Rattle.run_traces.specs.Traces.{Called, Gave, IsRunTrace, Lined, Made, RunStep, RunTrace, Stopped, Took, event_of, events_of, exchange_of, journal_of}

-- the jobs that were given to a lane, and the outcomes that were taken of it
abbrev pub given_in : ℕ → RunTrace → List SeenJob
given_in lane trace = (exchange_of lane trace).given

abbrev pub taken_in : ℕ → RunTrace → List SeenCarried
taken_in lane trace = (exchange_of lane trace).taken

-- ---- numbers of lanes

pub same_number : (n : ℕ) → (n == n) ≡ true
same_number n = grind arith

number_same : (m n : ℕ) → (m == n) ≡ true → m ≡ n
number_same m n e = grind arith

numbers_apart : (m n : ℕ) → (m == n) ≡ false → m ≡ n → ⊥
numbers_apart m n e same = grind arith

-- two numbers are one, or differ, and the test says which
pub test_of : (m n : ℕ) → (((m == n) ≡ true) × (m ≡ n)) ⊎ (((m == n) ≡ false) × (m ≡ n → ⊥))
test_of m n = by (m == n) refl
  where
    by : (b : Bool) → (m == n) ≡ b → (((m == n) ≡ true) × (m ≡ n)) ⊎ (((m == n) ≡ false) × (m ≡ n → ⊥))
    by true e = inl (e, number_same m n e)
    by false e = inr (e, numbers_apart m n e)

-- ---- one step

module _ (t : RunTrace) where
  pub gave_given : (to : ℕ) (job : SeenJob) (lane : ℕ)
      → ((to ≡ lane) × (given_in lane (Gave to job ∷ t) ≡ given_in lane t ++ job ∷ [])) ⊎ ((to ≡ lane → ⊥) × (given_in lane (Gave to job ∷ t) ≡ given_in lane t))
  gave_given to job lane = elim (test_of to lane) [
    | inl same ↦ inl (same.1, ap (λ (b : Bool). (cond b (with_given (exchange_of lane t) job) (exchange_of lane t)).given) same.0)
    | inr apart ↦ inr (apart.1, ap (λ (b : Bool). (cond b (with_given (exchange_of lane t) job) (exchange_of lane t)).given) apart.0)
  ]

  pub gave_taken : (to : ℕ) (job : SeenJob) (lane : ℕ) → taken_in lane (Gave to job ∷ t) ≡ taken_in lane t
  gave_taken to job lane = by (to == lane)
    where
      by : (b : Bool) → (cond b (with_given (exchange_of lane t) job) (exchange_of lane t)).taken ≡ taken_in lane t
      by true = refl
      by false = refl

  pub took_given : (from : ℕ) (c : SeenCarried) (lane : ℕ) → given_in lane (Took from c ∷ t) ≡ given_in lane t
  took_given from c lane = by (from == lane)
    where
      by : (b : Bool) → (cond b (with_taken (exchange_of lane t) c) (exchange_of lane t)).given ≡ given_in lane t
      by true = refl
      by false = refl

  pub took_taken : (from : ℕ) (c : SeenCarried) (lane : ℕ)
      → ((from ≡ lane) × (taken_in lane (Took from c ∷ t) ≡ taken_in lane t ++ c ∷ [])) ⊎ ((from ≡ lane → ⊥) × (taken_in lane (Took from c ∷ t) ≡ taken_in lane t))
  took_taken from c lane = elim (test_of from lane) [
    | inl same ↦ inl (same.1, ap (λ (b : Bool). (cond b (with_taken (exchange_of lane t) c) (exchange_of lane t)).taken) same.0)
    | inr apart ↦ inr (apart.1, ap (λ (b : Bool). (cond b (with_taken (exchange_of lane t) c) (exchange_of lane t)).taken) apart.0)
  ]

  pub gave_here : (lane : ℕ) (job : SeenJob) → given_in lane (Gave lane job ∷ t) ≡ given_in lane t ++ job ∷ []
  gave_here lane job = ap (λ (b : Bool). (cond b (with_given (exchange_of lane t) job) (exchange_of lane t)).given) (same_number lane)

  pub took_here : (lane : ℕ) (c : SeenCarried) → taken_in lane (Took lane c ∷ t) ≡ taken_in lane t ++ c ∷ []
  took_here lane c = ap (λ (b : Bool). (cond b (with_taken (exchange_of lane t) c) (exchange_of lane t)).taken) (same_number lane)

-- ---- measures of a trace, which no step makes less

abbrev pub Grows : (RunTrace → ℕ) → Type 0
Grows m = (x : RunStep) (t : RunTrace) → m t ≤ m (x ∷ t)

longer_one : {X : Type 0} (xs : List X) (x : X) → length (xs ++ x ∷ []) ≡ length xs + 1
longer_one xs x = length-append xs (x ∷ [])

abbrev pub given_count : ℕ → RunTrace → ℕ
given_count lane t = length (given_in lane t)

abbrev pub taken_count : ℕ → RunTrace → ℕ
taken_count lane t = length (taken_in lane t)

abbrev pub entry_count : RunTrace → ℕ
entry_count t = length (journal_of t)

pub given_counted : (lane : ℕ) (job : SeenJob) (t : RunTrace) → given_count lane (Gave lane job ∷ t) ≡ given_count lane t + 1
given_counted lane job t = ap (λ (js : List SeenJob). length js) (gave_here t lane job) ∙ longer_one (given_in lane t) job

pub taken_counted : (lane : ℕ) (c : SeenCarried) (t : RunTrace) → taken_count lane (Took lane c ∷ t) ≡ taken_count lane t + 1
taken_counted lane c t = ap (λ (cs : List SeenCarried). length cs) (took_here t lane c) ∙ longer_one (taken_in lane t) c

pub gave_counted : (lane : ℕ) (job : SeenJob) (t : RunTrace) → entry_count (Gave lane job ∷ t) ≡ entry_count t + 1
gave_counted lane job t = longer_one (journal_of t) (entry.Given job.id lane)

pub took_counted : (lane : ℕ) (c : SeenCarried) (t : RunTrace) → entry_count (Took lane c ∷ t) ≡ entry_count t + 1
took_counted lane c t = longer_one (journal_of t) (entry.Came c.job.id lane c.tries)

at_least : (m n : ℕ) → n ≡ m + 1 → m ≤ n
at_least m n e = omega arith

the_same : (m n : ℕ) → n ≡ m → m ≤ n
the_same m n e = omega arith

pub given_grows : (lane : ℕ) → Grows (given_count lane)
given_grows lane (Gave to job) t = elim (gave_given t to job lane) [
  | inl here ↦ at_least _ _ (ap (λ (js : List SeenJob). length js) here.1 ∙ longer_one (given_in lane t) job)
  | inr other ↦ the_same _ _ (ap (λ (js : List SeenJob). length js) other.1)
]
given_grows lane (Took from c) t = the_same _ _ (ap (λ (js : List SeenJob). length js) (took_given t from c lane))
given_grows lane (Called task called result steps notes) t = the_same _ _ refl
given_grows lane (Made fits) t = the_same _ _ refl
given_grows lane Lined t = the_same _ _ refl
given_grows lane (Stopped reason) t = the_same _ _ refl

pub taken_grows : (lane : ℕ) → Grows (taken_count lane)
taken_grows lane (Took from c) t = elim (took_taken t from c lane) [
  | inl here ↦ at_least _ _ (ap (λ (cs : List SeenCarried). length cs) here.1 ∙ longer_one (taken_in lane t) c)
  | inr other ↦ the_same _ _ (ap (λ (cs : List SeenCarried). length cs) other.1)
]
taken_grows lane (Gave to job) t = the_same _ _ (ap (λ (cs : List SeenCarried). length cs) (gave_taken t to job lane))
taken_grows lane (Called task called result steps notes) t = the_same _ _ refl
taken_grows lane (Made fits) t = the_same _ _ refl
taken_grows lane Lined t = the_same _ _ refl
taken_grows lane (Stopped reason) t = the_same _ _ refl

pub entries_grow : Grows entry_count
entries_grow (Gave to job) t = at_least _ _ (gave_counted to job t)
entries_grow (Took from c) t = at_least _ _ (took_counted from c t)
entries_grow (Called task called result steps notes) t = the_same _ _ refl
entries_grow (Made fits) t = the_same _ _ refl
entries_grow Lined t = the_same _ _ refl
entries_grow (Stopped reason) t = the_same _ _ refl

pub grow : (m : RunTrace → ℕ) → Grows m → (later t : RunTrace) → m t ≤ m (later ++ t)
grow m grows [] t = the_same _ _ refl
grow m grows (x ∷ later) t = let one = grows x (later ++ t) in let rest = grow m grows later t in omega arith

-- ---- many steps

entries_with : (older newer : List Entry) (x : Entry) (all : List Entry) → all ≡ older ++ newer → all ++ x ∷ [] ≡ older ++ (newer ++ x ∷ [])
entries_with older newer x all e = ap (λ (es : List Entry). es ++ x ∷ []) e ∙ append_assoc older newer (x ∷ [])

pub journal-append : (later t : RunTrace) → journal_of (later ++ t) ≡ journal_of t ++ journal_of later
journal-append [] t = sym (append-nil (journal_of t))
journal-append (Gave lane job ∷ later) t = entries_with (journal_of t) (journal_of later) (entry.Given job.id lane) (journal_of (later ++ t)) (journal-append later t)
journal-append (Took lane c ∷ later) t = entries_with (journal_of t) (journal_of later) (entry.Came c.job.id lane c.tries) (journal_of (later ++ t)) (journal-append later t)
journal-append (Called task called result steps notes ∷ later) t = journal-append later t
journal-append (Made fits ∷ later) t = journal-append later t
journal-append (Lined ∷ later) t = journal-append later t
journal-append (Stopped reason ∷ later) t = journal-append later t

pub events-append : (later t : RunTrace) → events_of (later ++ t) ≡ events_of later ++ events_of t
events-append later t = filter_map-append event_of later t

pub trace_behind : (later t : RunTrace) → IsRunTrace (later ++ t) → IsRunTrace t
trace_behind [] t run = run
trace_behind (x ∷ later) t run = trace_behind later t run.1
