-- A run that the rule ends is over.
use Rattle.std.proofs.Common.{◌≡◌, ◌∙◌, ◌==◌, ◌++◌, ◌⊎◌, ◌≤◌, ◌<◌, ℕ, zero, suc, Bool, true, false, List, [], ◌∷◌, Some, refl, sym, subst, ap, inl, inr, arith, drop, length, nat_lt, slice_get}
use Rattle.std.proofs.lemmas.Bool.{eqb-true, ltb-false, ltb-true}
use Rattle.std.specs.Prelude.{if◌then◌else◌}
use Rattle.job_terms.specs.Jobs.{job_of}
use Rattle.jobs.specs.Endings.{SeenCarried}
use Rattle.manager_moves.proofs.BufferLaws.{none_beyond}
use Rattle.manager_moves.specs.Lanes.{jobs_in, out_before, out_in}
use Rattle.manager_moves.specs.Laws.{IsRun}
use Rattle.manager_moves.specs.Moves.{next_move}
use Rattle.manager_moves.specs.Runs.{Back, Called, Event, Events, Lined, Made, Sent, Shared, Stopped, journal_of}
use Rattle.manager_moves.specs.declared.moves.Move.TheVariants as move
use Rattle.run_progress.proofs.Progress.{over, runs_end_whole, tasks_have_ended}
use Rattle.run_progress.specs.RunProgress.{HasMeans}
use Rattle.run_schedule.proofs.Entries.{back_entry, event_at, is_sent}
use Rattle.s3_model.specs.declared.outcomes.Event.{Event as Entry}
use Rattle.s3_model.specs.declared.outcomes.Event.TheVariants as entry
use Rattle.s3_model.specs.declared.outcomes.JobId.{JobId}
use Rattle.s3_model.specs.declared.requests.Op.{Op}
use Rattle.shared_lemmas.proofs.Clashes.{some_is}
use Rattle.shared_lemmas.proofs.Members.{Has, contains_of, has-append_left, has-append_right, has_middle}
use Rattle.task_progress.proofs.Endings.{chosen}
use Rattle.whole_runs.specs.Ended.{EachComes, EachGivenComes, RunsEndOver}

-- ---- the lanes are empty

nothing_in : {X : Type 0} (xs : List X) → length xs ≤ 0 → xs ≡ []
nothing_in [] few = refl
nothing_in (x ∷ xs) few = absurd (omega (arith, few))

each_empty : (events : Events) (lanes : ℕ) → out_before lanes events ≤ 0 → (lane : ℕ) → lane < lanes
    → out_in lane events ≤ 0
each_empty events zero none lane below = absurd (omega arith)
each_empty events (suc last) none lane below =
    by (nat_lt lane last) refl (λ l. each_empty events last (omega arith) lane l)
  where
    by : (b : Bool) → nat_lt lane last ≡ b → (lane < last → out_in lane events ≤ 0) → out_in lane events ≤ 0
    by true is rest = rest (ltb-true lane last is)
    by false is rest =
        let high = ltb-false lane last is in
        let same : lane ≡ last = omega arith in
        subst (λ (l : ℕ). out_in l events ≤ 0) (sym same) (omega arith)

module _ (s : Shared) (events : Events) (means : HasMeans s) (run : IsRun s events)
    (end : next_move s events ≡ move.End) where
  lanes_empty : (lane : ℕ) → jobs_in lane events ≡ []
  lanes_empty lane = by (nat_lt lane s.lanes) refl
    where
      by : (b : Bool) → nat_lt lane s.lanes ≡ b → jobs_in lane events ≡ []
      by true is = nothing_in (jobs_in lane events)
          (each_empty events s.lanes (ltb-false 0 (out_before s.lanes events) (over s events end).none_out) lane
          (ltb-true lane s.lanes is))
      by false is = none_beyond s means.lanes events run lane (ltb-false lane s.lanes is)

-- ---- what was sent came back, or is out

module _ (s : Shared) (n number lane : ℕ) (o : Op) (before : Events) where
  abbrev job : JobId
  job = job_of n o number

  abbrev all : Events → Events
  all later = later ++ Sent n o number lane ∷ before

  pub record Came (later : Events) : Type 0 where
    pub newer : Events
    pub between : Events
    pub carried : SeenCarried
    pub is : later ≡ newer ++ Back lane carried ∷ between
    pub of_job : carried.job.id ≡ job

  abbrev IsThere : Events → Type 0
  IsThere later = Came later ⊎ Has (jobs_in lane (all later)) job

  later_too : (e : Event) (later : Events) → Came later → Came (e ∷ later)
  later_too e later c = record {
    newer = e ∷ c.newer;
    between = c.between;
    carried = c.carried;
    is = ap (λ (z : Events). e ∷ z) c.is;
    of_job = c.of_job;
  }

  one_more : (b : Bool) (jobs : List JobId) (new : JobId) → Has jobs job
      → Has (if b then jobs ++ new ∷ [] else jobs) job
  one_more true jobs new known = has-append_left jobs (new ∷ []) job known
  one_more false jobs new known = known

  -- the oldest of the lane goes
  one_less : (from : ℕ) (c : SeenCarried) (later : Events) (jobs : List JobId) → (b : Bool) → (from == lane) ≡ b
      → (b ≡ true → slice_get jobs 0 ≡ Some c.job.id) → Has jobs job
      → Came (Back from c ∷ later) ⊎ Has (if b then drop 1 jobs else jobs) job
  one_less from c later jobs false other first known = inr known
  one_less from c later [] true same first known = absurd known
  one_less from c later (x ∷ jobs) true same first (inr known) = inr known
  one_less from c later (x ∷ jobs) true same first (inl is) = inl (record {
    newer = [];
    between = later;
    carried = c;
    is = ap (λ (l : ℕ). Back l c ∷ later) (eqb-true from lane same);
    of_job = sym (some_is x c.job.id (first refl)) ∙ is;
  })

  there : (later : Events) → IsRun s (all later) → IsThere later
  there [] run = inr (subst (λ (jobs : List JobId). Has jobs job)
      (sym (chosen (lane == lane) (jobs_in lane before ++ job ∷ []) (jobs_in lane before) (same_number lane)))
      (has-append_right (jobs_in lane before) (job ∷ []) job (inl refl)))
    where
      same_number : (l : ℕ) → (l == l) ≡ true
      same_number l = grind arith
  there (Made fits ∷ later) run = elim (there later run.1) [
    | inl came ↦ inl (later_too (Made fits) later came)
    | inr out ↦ inr out
  ]
  there (Lined ∷ later) run = elim (there later run.1) [
    | inl came ↦ inl (later_too Lined later came)
    | inr out ↦ inr out
  ]
  there (Stopped reason ∷ later) run = elim (there later run.1) [
    | inl came ↦ inl (later_too (Stopped reason) later came)
    | inr out ↦ inr out
  ]
  there (Called t a r ∷ later) run = elim (there later run.1) [
    | inl came ↦ inl (later_too (Called t a r) later came)
    | inr out ↦ inr out
  ]
  there (Sent t p k to ∷ later) run = elim (there later run.1) [
    | inl came ↦ inl (later_too (Sent t p k to) later came)
    | inr out ↦ inr (one_more (to == lane) (jobs_in lane (all later)) (job_of t p k) out)
  ]
  there (Back from c ∷ later) run = elim (there later run.1) [
    | inl came ↦ inl (later_too (Back from c) later came)
    | inr out ↦ one_less from c later (jobs_in lane (all later)) (from == lane) refl (first (from == lane) refl) out
  ]
    where
      first : (b : Bool) → (from == lane) ≡ b → b ≡ true → slice_get (jobs_in lane (all later)) 0 ≡ Some c.job.id
      first b is same = subst (λ (l : ℕ). slice_get (jobs_in l (all later)) 0 ≡ Some c.job.id)
          (eqb-true from lane (is ∙ same)) run.0.0

each_comes : (s : Shared) (events : Events) → HasMeans s → IsRun s events → next_move s events ≡ move.End
    → EachComes events
each_comes s events means run end later before n number lane o is =
    by (there s n number lane o before later (subst (IsRun s) is run))
  where
    none_out : jobs_in lane (later ++ Sent n o number lane ∷ before) ≡ []
    none_out = subst (λ (z : Events). jobs_in lane z ≡ []) is (lanes_empty s events means run end lane)

    by : IsThere s n number lane o before later → (newer : Events) × (between : Events) × (carried : SeenCarried)
        × (later ≡ newer ++ Back lane carried ∷ between) × (carried.job.id ≡ job_of n o number)
    by (inl came) = (came.newer, came.between, came.carried, came.is, came.of_job)
    by (inr out) = absurd (subst (λ (jobs : List JobId). Has jobs (job_of n o number)) none_out out)

-- ---- and so by the journal

given_comes : (events : Events) → EachComes events → EachGivenComes (journal_of events)
given_comes events come front rest job lane is =
    let at = event_at events front rest (entry.Given job lane) is in
    let sent = is_sent at.event job lane at.entry_is in
    let back = come at.later at.before sent.0 sent.2 lane sent.1
    (at.is ∙ ap (λ (e : Event). at.later ++ e ∷ at.before) sent.3) in
    let known = back_entry at.later lane back.2
    (subst (λ (z : Events). Has z (Back lane back.2)) (sym back.3) (has_middle back.0 (Back lane back.2) back.1)) in (
      back.2.tries,
      contains_of rest (entry.Came job lane back.2.tries)
          (subst (λ (j : List Entry). Has j (entry.Came job lane back.2.tries)) at.ahead
          (subst (λ (x : JobId). Has (journal_of at.later) (entry.Came x lane back.2.tries)) (back.4 ∙ sent.4) known)),
    )

pub runs_end_over : RunsEndOver
runs_end_over s events means run end =
    let whole = runs_end_whole s events means run end in
    record {
      made = whole.0;
      lined = whole.1;
      outcomes = λ n w of_plan. tasks_have_ended s events n w means run end of_plan;
      lanes = lanes_empty s events means run end;
      come = each_comes s events means run end;
      journal = given_comes events (each_comes s events means run end);
    }
