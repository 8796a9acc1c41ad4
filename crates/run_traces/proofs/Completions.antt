-- Where a job that was given comes next: at the completion of its number, if each completion has the name of its job.
use Rattle.std.proofs.Common.{◌≡◌, ◌∙◌, ◌+◌, ◌≤◌, ◌++◌, ℕ, Bool, true, false, List, [], ◌∷◌, Some, refl, sym, subst, ap, inl, inr, arith, length, slice_get, append_assoc, if◌then◌else◌}
use Rattle.job_terms.proofs.SameJobs.{job_itself, job_same}
use Rattle.job_terms.specs.Dispatches.{next_came}
use Rattle.job_terms.specs.Jobs.{is_job}
use Rattle.jobs.specs.Endings.{SeenCarried}
use Rattle.jobs.specs.Jobs.{SeenJob}
use Rattle.s3_model.specs.declared.outcomes.Event.{Event as Entry}
use Rattle.s3_model.specs.declared.outcomes.Event.TheVariants as entry
use Rattle.s3_model.specs.declared.outcomes.JobId.{JobId}
use Rattle.s3_model.specs.declared.tries.Mark.{Mark}
use Rattle.shared_lemmas.proofs.Members.{Has, has-append_cases}
use Rattle.run_traces.specs.Traces.{Called, Gave, IsRunTrace, Lined, Made, RunStep, RunTrace, Stopped, Took, journal_of, pending_in}
use Rattle.run_traces.proofs.Pending.{IsPendingAt, pending_once}
use Rattle.run_traces.proofs.Splits.{taken_at}
use Rattle.run_traces.proofs.Steps.{given_count, given_in, grow, taken_count, taken_counted, taken_grows, taken_in, trace_behind}
use Rattle.run_traces.proofs.Turns.{given_there, oldest_there}

-- each completion has the name of the oldest pending job of its lane
abbrev pub HaveOwnNames : RunTrace → Type 0
HaveOwnNames trace = (later before : RunTrace) (lane : ℕ) (carried : SeenCarried) (job : SeenJob)
    → trace ≡ later ++ Took lane carried ∷ before → slice_get (pending_in lane before) 0 ≡ Some job → carried.job.id ≡ job.id

-- ---- the job of a number, with its completion

pub record Turn (trace : RunTrace) (lane number : ℕ) (carried : SeenCarried) : Type 0 where
  pub job : SeenJob
  pub later : RunTrace
  pub between : RunTrace
  pub before : RunTrace
  pub is : trace ≡ later ++ Took lane carried ∷ (between ++ Gave lane job ∷ before)
  pub given_number : given_count lane before ≡ number
  pub taken_number : taken_count lane (between ++ Gave lane job ∷ before) ≡ number
  pub name : carried.job.id ≡ job.id

pub turn_of : (trace : RunTrace) (lane number : ℕ) (carried : SeenCarried) → IsRunTrace trace → HaveOwnNames trace → slice_get (taken_in lane trace) number ≡ Some carried → Turn trace lane number carried
turn_of trace lane number carried run own e =
    let taken = taken_at lane number carried trace e in
    let old = oldest_there trace taken.later taken.before lane carried run taken.is in
    let at = old.at in
    record {
      job = old.job;
      later = taken.later;
      between = at.later;
      before = at.before;
      is = taken.is ∙ ap (λ (t : RunTrace). taken.later ++ Took lane carried ∷ t) at.is;
      given_number = at.number_is ∙ taken.number_is;
      taken_number = ap (λ (t : RunTrace). taken_count lane t) (sym at.is) ∙ taken.number_is;
      name = own taken.later taken.before lane carried old.job taken.is old.oldest;
    }

-- ---- no other completion of its name stands between

module _ (trace : RunTrace) (lane number : ℕ) (carried : SeenCarried) (run : IsRunTrace trace) (own : HaveOwnNames trace) (turn : Turn trace lane number carried) where
  module _ (newer older : RunTrace) (to : ℕ) (c : SeenCarried) (e : turn.between ≡ newer ++ Took to c ∷ older) where
    abbrev behind : RunTrace
    behind = older ++ Gave lane turn.job ∷ turn.before

    between_is : turn.between ++ Gave lane turn.job ∷ turn.before ≡ newer ++ Took to c ∷ behind
    between_is = ap (λ (t : RunTrace). t ++ Gave lane turn.job ∷ turn.before) e ∙ append_assoc newer (Took to c ∷ older) (Gave lane turn.job ∷ turn.before)

    trace_is : trace ≡ (turn.later ++ Took lane carried ∷ newer) ++ Took to c ∷ behind
    trace_is = turn.is ∙ ap (λ (t : RunTrace). turn.later ++ Took lane carried ∷ t) between_is ∙ sym (append_assoc turn.later (Took lane carried ∷ newer) (Took to c ∷ behind))

    counted : taken_count lane (Took to c ∷ behind) ≤ number
    counted =
        let above = grow (taken_count lane) (taken_grows lane) newer (Took to c ∷ behind) in
        let same = ap (λ (t : RunTrace). taken_count lane t) between_is in
        let at = turn.taken_number in
        omega arith

    still_pending : IsPendingAt behind lane number turn.job
    still_pending = record {
      given = subst (λ (k : ℕ). slice_get (given_in lane behind) k ≡ Some turn.job) turn.given_number (given_there behind older turn.before lane turn.job refl);
      behind = let less = taken_grows lane (Took to c) behind in let most = counted in omega arith;
    }

    pub no_other : c.job.id ≡ turn.job.id → ⊥
    no_other same =
        let old = oldest_there trace (turn.later ++ Took lane carried ∷ newer) behind to c run trace_is in
        let name = own (turn.later ++ Took lane carried ∷ newer) behind to c old.job trace_is old.oldest in
        let there = trace_behind (turn.later ++ Took lane carried ∷ newer) (Took to c ∷ behind) (subst IsRunTrace trace_is run) in
        let one = pending_once behind there.1 to lane (taken_count to behind) number old.job turn.job old.pending still_pending (sym name ∙ same) in
        let more = subst (λ (l : ℕ). taken_count lane (Took l c ∷ behind) ≡ taken_count lane behind + 1) (sym one.0) (taken_counted lane c behind) in
        let at = ap (λ (l : ℕ). taken_count l behind) (sym one.0) in
        let number_is = one.1 in
        let most = counted in
        absurd (omega arith)

-- ---- in the journal

given_or_came : (a b : JobId) (lane to : ℕ) (tries : List Mark) → entry.Given a lane ≡ entry.Came b to tries → ⊥
given_or_came a b lane to tries e = cc

came_same : (a b : JobId) (lane to : ℕ) (one other : List Mark) → entry.Came a lane one ≡ entry.Came b to other → a ≡ b
came_same a b lane to one other e = cc

-- a step of the trace for a completion in its journal
pub record CameAt (t : RunTrace) (id : JobId) : Type 0 where
  pub newer : RunTrace
  pub older : RunTrace
  pub lane : ℕ
  pub carried : SeenCarried
  pub is : t ≡ newer ++ Took lane carried ∷ older
  pub name : carried.job.id ≡ id

came_later : (x : RunStep) (t : RunTrace) (id : JobId) → CameAt t id → CameAt (x ∷ t) id
came_later x t id at = record { newer = x ∷ at.newer; older = at.older; lane = at.lane; carried = at.carried; is = ap (λ (s : RunTrace). x ∷ s) at.is; name = at.name }

pub came_at : (t : RunTrace) (id : JobId) (lane : ℕ) (tries : List Mark) → Has (journal_of t) (entry.Came id lane tries) → CameAt t id
came_at [] id lane tries h = absurd h
came_at (Gave to job ∷ t) id lane tries h = elim (has-append_cases (journal_of t) (entry.Given job.id to ∷ []) (entry.Came id lane tries) h) [
  | inl there ↦ came_later (Gave to job) t id (came_at t id lane tries there)
  | inr last ↦ elim last [ inl e ↦ absurd (given_or_came job.id id to lane tries e) | inr none ↦ absurd none ]
]
came_at (Took from c ∷ t) id lane tries h = elim (has-append_cases (journal_of t) (entry.Came c.job.id from c.tries ∷ []) (entry.Came id lane tries) h) [
  | inl there ↦ came_later (Took from c) t id (came_at t id lane tries there)
  | inr last ↦ elim last [
    | inl e ↦ record { newer = []; older = t; lane = from; carried = c; is = refl; name = came_same c.job.id id from lane c.tries tries e }
    | inr none ↦ absurd none
  ]
]
came_at (Called task called result steps notes ∷ t) id lane tries h = came_later (Called task called result steps notes) t id (came_at t id lane tries h)
came_at (Made fits ∷ t) id lane tries h = came_later (Made fits) t id (came_at t id lane tries h)
came_at (Lined ∷ t) id lane tries h = came_later Lined t id (came_at t id lane tries h)
came_at (Stopped reason ∷ t) id lane tries h = came_later (Stopped reason) t id (came_at t id lane tries h)

-- the first completion of a name
pub finds : (job : JobId) (front rest : List Entry) (lane : ℕ) (tries : List Mark) (at : ℕ) → ((to : ℕ) (marks : List Mark) → Has front (entry.Came job to marks) → ⊥)
    → next_came job at (front ++ entry.Came job lane tries ∷ rest) ≡ Some (at + length front, tries)
finds job [] rest lane tries at none =
    let zero_more : at ≡ at + 0 = omega arith in
    ap (λ (b : Bool). if b then Some (at, tries) else next_came job (at + 1) rest) (job_itself job) ∙ ap (λ (k : ℕ). Some (k, tries)) zero_more
finds job (entry.Given other to ∷ front) rest lane tries at none =
    let one_more : (at + 1) + length front ≡ at + length (entry.Given other to ∷ front) = omega arith in
    finds job front rest lane tries (at + 1) (λ l marks h. none l marks (inr h)) ∙ ap (λ (k : ℕ). Some (k, tries)) one_more
finds job (entry.Came other to marks ∷ front) rest lane tries at none = by (is_job job other) refl (finds job front rest lane tries (at + 1) (λ l m h. none l m (inr h)))
  where
    by : (b : Bool) → is_job job other ≡ b → next_came job (at + 1) (front ++ entry.Came job lane tries ∷ rest) ≡ Some ((at + 1) + length front, tries)
        → (if b then Some (at, marks) else next_came job (at + 1) (front ++ entry.Came job lane tries ∷ rest)) ≡ Some (at + length (entry.Came other to marks ∷ front), tries)
    by true same later = absurd (none to marks (inl (ap (λ (j : JobId). entry.Came j to marks) (sym (job_same job other same)))))
    by false apart later =
        let one_more : (at + 1) + length front ≡ at + length (entry.Came other to marks ∷ front) = omega arith in
        later ∙ ap (λ (k : ℕ). Some (k, tries)) one_more
