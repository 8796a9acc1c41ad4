-- The dispatches that the journal of questions shows: one for each, at its places.
use Rattle.std.proofs.Common.{◌≡◌, ◌∙◌, ◌==◌, ◌+◌, ◌++◌, ℕ, Bool, cond, List, [], ◌∷◌, Option, Some, refl, sym, ap, arith, length, append_assoc}
use Rattle.std.proofs.lemmas.Grind.{reverse_onto}
use Rattle.std.proofs.lemmas.List.{append-nil}
use Rattle.std.specs.Prelude.{drop, nat_lt, reverse, sum_by, if◌then◌else◌}
use Rattle.job_terms.proofs.SameJobs.{job_itself}
use Rattle.job_terms.specs.Dispatches.{Dispatch, dispatches_from, earlier_dispatches, next_came, next_marks, paired, place_of}
use Rattle.job_terms.specs.Jobs.{is_job}
use Rattle.run_traces.proofs.Steps.{journal-append}
use Rattle.run_traces.specs.Traces.{Gave, Took, journal_of}
use Rattle.s3_model.specs.declared.outcomes.Event.{Event}
use Rattle.s3_model.specs.declared.outcomes.Event.TheVariants as entry
use Rattle.s3_model.specs.declared.outcomes.JobId.{JobId}
use Rattle.s3_model.specs.declared.tries.Mark.{Mark}
use Rattle.s3_model.specs.Talks.{Talk}
use Rattle.planning_laws.proofs.Places.{HaveNames}
use Rattle.planning_questions.specs.Questions.{Question, question_job, trace_of}

-- the dispatch was given and came where the question of that number does
pub record IsPlaced (n : ℕ) (d : Dispatch) : Type 0 where
  pub given_at : d.given_at ≡ n + n
  pub came_at : d.came_at ≡ Some (n + n + 1)

abbrev pub ArePlaced : ℕ → List Question → List Dispatch → Type 0
ArePlaced n [] [] = Unit {0}
ArePlaced n (q ∷ qs) (d ∷ ds) = IsPlaced n d × ArePlaced (n + 1) qs ds
ArePlaced n qs ds = ⊥

pub record Shown (logs : ℕ → List Talk) (before : List Dispatch) (at n : ℕ) (qs : List Question) : Type 0 where
  pub all : List Dispatch
  pub is : dispatches_from logs before at (journal_of (trace_of n qs)) ≡ reverse before ++ all
  pub placed : ArePlaced n qs all

module _ (logs : ℕ → List Talk) (before : List Dispatch) (at n : ℕ) (q : Question) (rest : List Event) where
  abbrev id : JobId
  id = (question_job n q.asked).id

  abbrev came : Option (ℕ × List Mark)
  came = next_came id (at + 1) (entry.Came q.carried.job.id 0 q.carried.tries ∷ rest)

  abbrev logs_behind : ℕ → List Talk
  logs_behind other = if other == 0 then drop (length (next_marks came)) (logs other) else logs other

  abbrev new : Dispatch
  new = record {
    job = id;
    lane = 0;
    given_at = at;
    came_at = place_of came;
    earlier = sum_by (λ dispatch. length dispatch.attempts) (earlier_dispatches id before);
    is_second = nat_lt 0 (length (earlier_dispatches id before));
    attempts = paired (next_marks came) (logs 0);
  }

  abbrev entries : List Event
  entries = entry.Given id 0 ∷ entry.Came q.carried.job.id 0 q.carried.tries ∷ rest

  goes_on : dispatches_from logs before at entries ≡ dispatches_from logs_behind (new ∷ before) (at + 1 + 1) rest
  goes_on = refl

  comes_next : q.carried.job.id ≡ id → place_of came ≡ Some (at + 1)
  comes_next same =
      ap (λ (b : Bool). place_of (cond b (Some (at + 1, q.carried.tries)) (next_came id (at + 1 + 1) rest))) (ap (λ (j : JobId). is_job id j) same ∙ job_itself id)

pub shown : (qs : List Question) (logs : ℕ → List Talk) (before : List Dispatch) (at n : ℕ) → at ≡ n + n → HaveNames n qs → Shown logs before at n qs
shown [] logs before at n e names = record { all = []; is = sym (append-nil (reverse before)); placed = tt }
shown (q ∷ qs) logs before at n e names =
    let rest = journal_of (trace_of (n + 1) qs) in
    let d = new logs before at n q rest in
    let more = shown qs (logs_behind logs before at n q rest) (d ∷ before) (at + 1 + 1) (n + 1) (omega (arith, e)) names.1 in
    record {
      all = d ∷ more.all;
      is = ap (λ (events : List Event). dispatches_from logs before at events) (journal-append (trace_of (n + 1) qs) (Took 0 q.carried ∷ Gave 0 (question_job n q.asked) ∷ []))
          ∙ goes_on logs before at n q rest ∙ more.is
          ∙ ap (λ (ds : List Dispatch). ds ++ more.all) (reverse_onto before d [])
          ∙ append_assoc (reverse before) (d ∷ []) more.all;
      placed = (record { given_at = e; came_at = comes_next logs before at n q rest names.0 ∙ ap (λ (k : ℕ). Some (k + 1)) e }, more.placed);
    }

pub all_shown : (qs : List Question) (logs : ℕ → List Talk) → HaveNames 0 qs → Shown logs [] 0 0 qs
all_shown qs logs names = shown qs logs [] 0 0 refl names
