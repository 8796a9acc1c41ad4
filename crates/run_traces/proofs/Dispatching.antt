-- The dispatches that the journal of a trace shows: one for each job that was given, with the talks of its number.
use Rattle.std.proofs.Common.{◌≤◌, ◌≡◌, ◌∙◌, ◌==◌, ◌+◌, ◌<◌, ◌++◌, ℕ, zero, suc, Bool, true, false, cond, List, [], ◌∷◌, Option, Some, refl, sym, subst, ap, inl, inr, arith, length, map, filter, slice_get, append_assoc, append-nil, if◌then◌else◌}
use Rattle.std.proofs.lemmas.Grind.{reverse_onto}
use Rattle.std.proofs.lemmas.List.{length-append}
use Rattle.std.proofs.lemmas.List.Sums.{sum_by-cons}
use Rattle.std.proofs.lemmas.Option.{slice_get_within}
use Rattle.std.specs.Prelude.{drop, nat_lt, reverse, sum_by}
use Rattle.bounded_executor.specs.Exchange.{Exchange}
use Rattle.job_terms.specs.Dispatches.{Attempt, Dispatch, dispatches, dispatches_from, earlier_dispatches, next_came, next_marks, paired, place_of}
use Rattle.job_terms.specs.Jobs.{is_job}
use Rattle.jobs.specs.Endings.{SeenCarried}
use Rattle.jobs.specs.Jobs.{SeenJob}
use Rattle.s3_model.specs.Talks.{Talk}
use Rattle.s3_model.specs.declared.outcomes.Event.{Event as Entry}
use Rattle.s3_model.specs.declared.outcomes.Event.TheVariants as entry
use Rattle.s3_model.specs.declared.outcomes.JobId.{JobId}
use Rattle.s3_model.specs.declared.tries.Mark.{Mark}
use Rattle.shared_lemmas.proofs.Members.{Has}
use Rattle.run_traces.specs.Traces.{Called, Gave, IsRunTrace, Lined, Made, RunStep, RunTrace, Stopped, Took, exchange_of, journal_of, tries_of}
use Rattle.run_traces.proofs.Completions.{HaveOwnNames, Turn, came_at, finds, no_other, turn_of}
use Rattle.run_traces.proofs.Forward.{entries_newer, entries_of, journal-onto, newer_of, onto, steps_of}
use Rattle.run_traces.proofs.Pending.{get_at}
use Rattle.run_traces.proofs.Splits.{SameSplit, same_split}
use Rattle.run_traces.proofs.Steps.{entry_count, gave_counted, gave_given, given_count, given_counted, given_grows, given_in, journal-append, taken_count, taken_in, test_of, took_counted, took_given, trace_behind}
use Rattle.run_traces.proofs.Tallies.{Tallies, alike, gave, is_quiet, none_given, took, with_job}
use Rattle.run_traces.proofs.Turns.{given_there, oldest_there, taken_there}

-- ---- marks and talks

paired_front : (marks : List Mark) (talks more : List Talk) → length talks ≡ length marks → paired marks (talks ++ more) ≡ paired marks talks
paired_front [] talks more e = refl
paired_front (m ∷ marks) [] more e = absurd (omega arith)
paired_front (m ∷ marks) (t ∷ talks) more e = ap (λ (tries : List Attempt). record { mark = m; talk = t } ∷ tries) (paired_front marks talks more (omega arith))

pub paired_long : (marks : List Mark) (talks : List Talk) → length talks ≡ length marks → length (paired marks talks) ≡ length marks
paired_long [] talks e = refl
paired_long (m ∷ marks) [] e = absurd (omega arith)
paired_long (m ∷ marks) (t ∷ talks) e = ap suc (paired_long marks talks (omega arith))

drop_front : {X : Type 0} (n : ℕ) (xs ys : List X) → length xs ≡ n → drop n (xs ++ ys) ≡ ys
drop_front zero [] ys e = refl
drop_front zero (x ∷ xs) ys e = absurd (omega arith)
drop_front (suc n) [] ys e = absurd (omega arith)
drop_front (suc n) (x ∷ xs) ys e = drop_front n xs ys (omega arith)

no_less : (n : ℕ) → n ≤ n
no_less n = omega arith

gave_same : (lane : ℕ) (a b : SeenJob) → ◌≡◌ {A = RunStep} (Gave lane a) (Gave lane b) → a ≡ b
gave_same lane a b e = cc

-- ---- one dispatch

-- `shares lane number`: the talks of the lane's job of that number
module _ (trace : RunTrace) (shares : ℕ → ℕ → List Talk) where
  -- a dispatch of a job of the trace
  pub record Row : Type 0 where
    pub dispatch : Dispatch
    pub carried : SeenCarried
    pub job : SeenJob
    pub later : RunTrace
    pub between : RunTrace
    pub before : RunTrace
    pub is : trace ≡ later ++ Took dispatch.lane carried ∷ (between ++ Gave dispatch.lane job ∷ before)
    pub taken_number : taken_count dispatch.lane (between ++ Gave dispatch.lane job ∷ before) ≡ given_count dispatch.lane before
    pub name : dispatch.job ≡ job.id
    pub given_at : dispatch.given_at ≡ entry_count before
    pub came_at : dispatch.came_at ≡ Some (entry_count (between ++ Gave dispatch.lane job ∷ before))
    pub earlier : dispatch.earlier ≡ job.had
    pub attempts : dispatch.attempts ≡ paired carried.tries (shares dispatch.lane (given_count dispatch.lane before))

  -- which job of its lane it is
  abbrev pub number_of : Row → ℕ
  number_of row = given_count row.dispatch.lane row.before

  abbrev pub rows_in : ℕ → List Row → List Row
  rows_in lane rows = filter (λ (row : Row). row.dispatch.lane == lane) rows

  -- these are the jobs of the lane from that number on
  abbrev pub Numbered : (lane number : ℕ) → List Row → Type 0
  Numbered lane number [] = number ≡ given_count lane trace
  Numbered lane number (row ∷ rows) = (row.dispatch.lane ≡ lane) × (number_of row ≡ number) × Numbered lane (number + 1) rows

  -- in the order in which their jobs were given
  abbrev pub Rising : List Row → Type 0
  Rising [] = Unit {0}
  Rising (row ∷ rows) = ((other : Row) → Has rows other → entry_count row.before < entry_count other.before) × Rising rows

  -- ---- all of them

  -- `rest lane number`: those of all its jobs from that number on
  module _ (run : IsRunTrace trace) (own : HaveOwnNames trace) (all_come : (lane : ℕ) → taken_count lane trace ≡ given_count lane trace) (rest : ℕ → ℕ → List Talk)
      (parts : (lane number : ℕ) (c : SeenCarried) → slice_get (taken_in lane trace) number ≡ Some c → (rest lane number ≡ shares lane number ++ rest lane (number + 1)) × (length (shares lane number) ≡ length c.tries)) where
    -- a job that was given and the completion of its number
    pub record Found (t : RunTrace) (lane : ℕ) (job : SeenJob) (steps : List RunStep) : Type 0 where
      pub carried : SeenCarried
      pub later : RunTrace
      pub between : RunTrace
      pub is : trace ≡ later ++ Took lane carried ∷ (between ++ Gave lane job ∷ t)
      pub taken_number : taken_count lane (between ++ Gave lane job ∷ t) ≡ given_count lane t
      pub outcome : slice_get (taken_in lane trace) (given_count lane t) ≡ Some carried
      pub comes : (at : ℕ) → next_came job.id at (entries_of steps) ≡ Some (at + length (journal_of between), carried.tries)

    found : (t : RunTrace) (lane : ℕ) (job : SeenJob) (steps : List RunStep) → onto steps (Gave lane job ∷ t) ≡ trace → Found t lane job steps
    found t lane job steps e = at_turn (turn_of trace lane (given_count lane t) outcome.0 run own outcome.1)
      where
        newer : (newer : RunTrace) × (onto steps (Gave lane job ∷ t) ≡ newer ++ Gave lane job ∷ t)
        newer = newer_of steps (Gave lane job ∷ t)

        is : trace ≡ newer.0 ++ Gave lane job ∷ t
        is = sym e ∙ newer.1

        outcome : (c : SeenCarried) × (slice_get (taken_in lane trace) (given_count lane t) ≡ Some c)
        outcome =
            let within = slice_get_within (given_in lane trace) (given_count lane t) job (given_there trace newer.0 t lane job is) in
            let all = all_come lane in
            get_at (taken_in lane trace) (given_count lane t) (omega arith)

        more : (l : RunTrace) (j : SeenJob) → given_count lane l < given_count lane (Gave lane j ∷ l)
        more l j = let one = given_counted lane j l in omega arith

        at_turn : Turn trace lane (given_count lane t) outcome.0 → Found t lane job steps
        at_turn turn = record {
          carried = outcome.0;
          later = turn.later;
          between = turn.between;
          is = turn.is ∙ ap (λ (s : RunTrace). turn.later ++ Took lane outcome.0 ∷ (turn.between ++ s)) here;
          taken_number = ap (λ (s : RunTrace). taken_count lane (turn.between ++ s)) (sym here) ∙ turn.taken_number;
          outcome = outcome.1;
          comes = comes;
        }
          where
            one : SameSplit (turn.later ++ Took lane outcome.0 ∷ turn.between) newer.0 (Gave lane turn.job) (Gave lane job) turn.before t
            one = same_split (given_count lane) (given_grows lane) (turn.later ++ Took lane outcome.0 ∷ turn.between) newer.0 (Gave lane turn.job) (Gave lane job) turn.before t
                (more turn.before turn.job) (more t job)
                (append_assoc turn.later (Took lane outcome.0 ∷ turn.between) (Gave lane turn.job ∷ turn.before) ∙ sym turn.is ∙ is) turn.given_number

            here : Gave lane turn.job ∷ turn.before ≡ Gave lane job ∷ t
            here = ap (λ (x : RunStep). x ∷ turn.before) one.step_is ∙ ap (λ (s : RunTrace). Gave lane job ∷ s) one.before_is

            job_is : turn.job ≡ job
            job_is = gave_same lane turn.job job one.step_is

            entries : entries_of steps ≡ journal_of turn.between ++ entry.Came outcome.0.job.id lane outcome.0.tries ∷ journal_of turn.later
            entries =
                entries_newer steps (Gave lane job ∷ t) newer.0 newer.1 ∙ ap (λ (s : RunTrace). journal_of s) (sym one.later_is)
                ∙ journal-append turn.later (Took lane outcome.0 ∷ turn.between)
                ∙ append_assoc (journal_of turn.between) (entry.Came outcome.0.job.id lane outcome.0.tries ∷ []) (journal_of turn.later)

            none : (to : ℕ) (marks : List Mark) → Has (journal_of turn.between) (entry.Came turn.job.id to marks) → ⊥
            none to marks h =
                let other = came_at turn.between turn.job.id to marks h in
                no_other trace lane (given_count lane t) outcome.0 run own turn other.newer other.older other.lane other.carried other.is other.name

            comes : (at : ℕ) → next_came job.id at (entries_of steps) ≡ Some (at + length (journal_of turn.between), outcome.0.tries)
            comes at =
                ap (λ (es : List Entry). next_came job.id at es) entries
                ∙ ap (λ (id : JobId). next_came job.id at (journal_of turn.between ++ entry.Came id lane outcome.0.tries ∷ journal_of turn.later)) turn.name
                ∙ ap (λ (j : SeenJob). next_came j.id at (journal_of turn.between ++ entry.Came turn.job.id lane outcome.0.tries ∷ journal_of turn.later)) (sym job_is)
                ∙ finds turn.job.id (journal_of turn.between) (journal_of turn.later) lane outcome.0.tries at none

    -- ---- one step more

    abbrev Sum : List Dispatch → JobId → ℕ
    Sum before id = sum_by (λ (d : Dispatch). length d.attempts) (earlier_dispatches id before)

    -- the dispatch that the journal shows of a job that is given there
    abbrev shown_at : (ℕ → List Talk) → List Dispatch → ℕ → JobId → ℕ → List Entry → Dispatch
    shown_at logs before at job lane events = record {
      job = job;
      lane = lane;
      given_at = at;
      came_at = place_of (next_came job (at + 1) events);
      earlier = Sum before job;
      is_second = nat_lt 0 (length (earlier_dispatches job before));
      attempts = paired (next_marks (next_came job (at + 1) events)) (logs lane);
    }

    abbrev logs_behind : (ℕ → List Talk) → (lane : ℕ) → List Mark → ℕ → List Talk
    logs_behind logs lane marks other = if other == lane then drop (length marks) (logs other) else logs other

    -- the logs from here on are those of the jobs that are not given yet, and the dispatches so far have the attempts of theirs
    pub record IsReady (t : RunTrace) (logs : ℕ → List Talk) (before : List Dispatch) : Type 0 where
      pub logs_are : (lane : ℕ) → logs lane ≡ rest lane (given_count lane t)
      pub tallies : Tallies trace t (Sum before)

    pub record Shown (t : RunTrace) (steps : List RunStep) (logs : ℕ → List Talk) (before : List Dispatch) : Type 0 where
      pub rows : List Row
      pub is : dispatches_from logs before (entry_count t) (entries_of steps) ≡ reverse before ++ map (λ (row : Row). row.dispatch) rows
      pub numbered : (lane : ℕ) → Numbered lane (given_count lane t) (rows_in lane rows)
      pub above : (row : Row) → Has rows row → entry_count t ≤ entry_count row.before
      pub rising : Rising rows

    -- a job that is given
    module _ (t : RunTrace) (lane : ℕ) (job : SeenJob) (steps : List RunStep) (logs : ℕ → List Talk) (before : List Dispatch) (there : IsRunTrace (Gave lane job ∷ t)) (ready : IsReady t logs before)
        (f : Found t lane job steps) where
      abbrev at : ℕ
      at = entry_count t

      abbrev came : Option (ℕ × List Mark)
      came = next_came job.id (at + 1) (entries_of steps)

      abbrev new : Dispatch
      new = shown_at logs before at job.id lane (entries_of steps)

      came_is : came ≡ Some ((at + 1) + length (journal_of f.between), f.carried.tries)
      came_is = f.comes (at + 1)

      marks_are : next_marks came ≡ f.carried.tries
      marks_are = ap (λ (o : Option (ℕ × List Mark)). next_marks o) came_is

      abbrev number : ℕ
      number = given_count lane t

      share : (rest lane number ≡ shares lane number ++ rest lane (number + 1)) × (length (shares lane number) ≡ length f.carried.tries)
      share = parts lane number f.carried f.outcome

      logs_here : logs lane ≡ shares lane number ++ rest lane (number + 1)
      logs_here = ready.logs_are lane ∙ share.0

      attempts_are : new.attempts ≡ paired f.carried.tries (shares lane number)
      attempts_are =
          ap (λ (ms : List Mark). paired ms (logs lane)) marks_are ∙ ap (λ (ts : List Talk). paired f.carried.tries ts) logs_here
          ∙ paired_front f.carried.tries (shares lane number) (rest lane (number + 1)) share.1

      earlier_is : Sum before job.id ≡ job.had
      earlier_is = ready.tallies.quiet job.id (is_quiet t job.id there.0.0) ∙ sym there.0.1

      came_place : place_of came ≡ Some (entry_count (f.between ++ Gave lane job ∷ t))
      came_place =
          let long = ap (λ (es : List Entry). length es) (journal-append f.between (Gave lane job ∷ t)) in
          let two = length-append (journal_of (Gave lane job ∷ t)) (journal_of f.between) in
          let one = gave_counted lane job t in
          let same : (at + 1) + length (journal_of f.between) ≡ entry_count (f.between ++ Gave lane job ∷ t) = omega arith in
          ap (λ (o : Option (ℕ × List Mark)). place_of o) came_is ∙ ap (λ (k : ℕ). Some k) same

      row : Row
      row = record {
        dispatch = new;
        carried = f.carried;
        job = job;
        later = f.later;
        between = f.between;
        before = t;
        is = f.is;
        taken_number = f.taken_number;
        name = refl;
        given_at = refl;
        came_at = came_place;
        earlier = earlier_is;
        attempts = attempts_are;
      }

      abbrev logs_then : ℕ → List Talk
      logs_then = logs_behind logs lane (next_marks came)

      logs_stay : (other : ℕ) → logs_then other ≡ rest other (given_count other (Gave lane job ∷ t))
      logs_stay other = elim (test_of other lane) [
        | inl same ↦
            let one = given_counted lane job t in
            ap (λ (b : Bool). if b then drop (length (next_marks came)) (logs other) else logs other) same.0
            ∙ ap (λ (l : ℕ). drop (length (next_marks came)) (logs l)) same.1
            ∙ ap (λ (ms : List Mark). drop (length ms) (logs lane)) marks_are
            ∙ ap (λ (ts : List Talk). drop (length f.carried.tries) ts) logs_here
            ∙ drop_front (length f.carried.tries) (shares lane number) (rest lane (number + 1)) share.1
            ∙ ap (λ (k : ℕ). rest lane k) (sym one)
            ∙ ap (λ (l : ℕ). rest l (given_count l (Gave lane job ∷ t))) (sym same.1)
        | inr apart ↦
            ap (λ (b : Bool). if b then drop (length (next_marks came)) (logs other) else logs other) apart.0 ∙ ready.logs_are other
            ∙ ap (λ (k : ℕ). rest other k) (sym (count_stays other apart.1))
      ]
        where
          count_stays : (other : ℕ) → (other ≡ lane → ⊥) → given_count other (Gave lane job ∷ t) ≡ given_count other t
          count_stays other apart = elim (gave_given t lane job other) [
            | inl same ↦ absurd (apart (sym same.0))
            | inr not ↦ ap (λ (js : List SeenJob). length js) not.1
          ]

      sum_then : (id : JobId) → Sum (new ∷ before) id ≡ with_job (Sum before) job f.carried id
      sum_then id = by (is_job job.id id)
        where
          by : (b : Bool) → sum_by (λ (d : Dispatch). length d.attempts) (cond b (new ∷ earlier_dispatches id before) (earlier_dispatches id before))
              ≡ cond b (length f.carried.tries + Sum before id) (Sum before id)
          by true =
              sum_by-cons (λ (d : Dispatch). length d.attempts) new (earlier_dispatches id before)
              ∙ ap (λ (n : ℕ). n + Sum before id) (ap (λ (tries : List Attempt). length tries) attempts_are ∙ paired_long f.carried.tries (shares lane number) share.1)
          by false = refl

      ready_then : IsReady (Gave lane job ∷ t) logs_then (new ∷ before)
      ready_then = record {
        logs_are = logs_stay;
        tallies = alike trace (Gave lane job ∷ t) (Gave lane job ∷ t) (with_job (Sum before) job f.carried) (Sum (new ∷ before)) (λ l. refl) (λ id. refl) sum_then
            (gave trace t (Sum before) there.1 ready.tallies lane job f.carried there.0.0 f.outcome);
      }

      with_row : Shown (Gave lane job ∷ t) steps logs_then (new ∷ before) → Shown t (Gave lane job ∷ steps) logs before
      unfolding row
      with_row s = record {
        rows = row ∷ s.rows;
        is =
            ap (λ (k : ℕ). dispatches_from logs_then (new ∷ before) k (entries_of steps)) (sym (gave_counted lane job t)) ∙ s.is
            ∙ ap (λ (ds : List Dispatch). ds ++ map (λ (r : Row). r.dispatch) s.rows) (reverse_onto before new [])
            ∙ append_assoc (reverse before) (new ∷ []) (map (λ (r : Row). r.dispatch) s.rows);
        numbered = numbered;
        above = above;
        rising = (later, s.rising);
      }
        where
          later : (other : Row) → Has s.rows other → entry_count t < entry_count other.before
          later other h = let low = s.above other h in let one = gave_counted lane job t in omega arith

          above : (r : Row) → Has (row ∷ s.rows) r → entry_count t ≤ entry_count r.before
          above r (inl e) = subst (λ (x : Row). entry_count t ≤ entry_count x.before) e (no_less (entry_count t))
          above r (inr h) = let low = later r h in omega arith

          numbered : (other : ℕ) → Numbered other (given_count other t) (rows_in other (row ∷ s.rows))
          numbered other = elim (test_of lane other) [
            | inl same ↦
                subst (λ (b : Bool). Numbered other (given_count other t) (cond b (row ∷ rows_in other s.rows) (rows_in other s.rows))) (sym same.0) (
                  same.1,
                  ap (λ (l : ℕ). given_count l t) same.1,
                  subst (λ (k : ℕ). Numbered other k (rows_in other s.rows)) (subst (λ (l : ℕ). given_count l (Gave lane job ∷ t) ≡ given_count l t + 1) same.1 (given_counted lane job t)) (s.numbered other),
                )
            | inr apart ↦
                subst (λ (b : Bool). Numbered other (given_count other t) (cond b (row ∷ rows_in other s.rows) (rows_in other s.rows))) (sym apart.0)
                (subst (λ (k : ℕ). Numbered other k (rows_in other s.rows)) (count_stays other apart.1) (s.numbered other))
          ]
            where
              count_stays : (other : ℕ) → (lane ≡ other → ⊥) → given_count other (Gave lane job ∷ t) ≡ given_count other t
              count_stays other apart = elim (gave_given t lane job other) [
                | inl same ↦ absurd (apart same.0)
                | inr not ↦ ap (λ (js : List SeenJob). length js) not.1
              ]

    -- an outcome that is taken
    took_ready : (t : RunTrace) (from : ℕ) (c : SeenCarried) (steps : List RunStep) (logs : ℕ → List Talk) (before : List Dispatch) → onto steps (Took from c ∷ t) ≡ trace → IsReady t logs before
        → IsReady (Took from c ∷ t) logs before
    took_ready t from c steps logs before e ready =
        let newer = newer_of steps (Took from c ∷ t) in
        let is : trace ≡ newer.0 ++ Took from c ∷ t = sym e ∙ newer.1 in
        let old = oldest_there trace newer.0 t from c run is in
        let there = trace_behind newer.0 (Took from c ∷ t) (subst IsRunTrace is run) in
        record {
          logs_are = λ lane. ready.logs_are lane ∙ ap (λ (js : List SeenJob). rest lane (length js)) (sym (took_given t from c lane));
          tallies = took trace t (Sum before) there.1 ready.tallies from c old.job old.pending (own newer.0 t from c old.job is old.oldest) (taken_there trace newer.0 t from c is);
        }

    took_shown : (t : RunTrace) (from : ℕ) (c : SeenCarried) (steps : List RunStep) (logs : ℕ → List Talk) (before : List Dispatch) → Shown (Took from c ∷ t) steps logs before → Shown t (Took from c ∷ steps) logs before
    took_shown t from c steps logs before s = record {
      rows = s.rows;
      is = ap (λ (k : ℕ). dispatches_from logs before k (entries_of steps)) (sym (took_counted from c t)) ∙ s.is;
      numbered = λ lane. subst (λ (js : List SeenJob). Numbered lane (length js) (rows_in lane s.rows)) (took_given t from c lane) (s.numbered lane);
      above = λ row h. let low = s.above row h in let one = took_counted from c t in omega arith;
      rising = s.rising;
    }

    -- any other step
    passed_ready : (t u : RunTrace) (logs : ℕ → List Talk) (before : List Dispatch) → ((lane : ℕ) → exchange_of lane u ≡ exchange_of lane t) → ((id : JobId) → tries_of id u ≡ tries_of id t) → IsReady t logs before → IsReady u logs before
    passed_ready t u logs before exchanges tries ready = record {
      logs_are = λ lane. ready.logs_are lane ∙ ap (λ (e : Exchange SeenJob SeenCarried). rest lane (length e.given)) (sym (exchanges lane));
      tallies = alike trace t u (Sum before) (Sum before) exchanges tries (λ id. refl) ready.tallies;
    }

    pub shown : (steps : List RunStep) (t : RunTrace) (logs : ℕ → List Talk) (before : List Dispatch) → onto steps t ≡ trace → IsReady t logs before → Shown t steps logs before
    shown [] t logs before e ready = record { rows = []; is = sym (append-nil (reverse before)); numbered = λ lane. ap (λ (s : RunTrace). given_count lane s) e; above = λ row none. absurd none; rising = tt }
    shown (Gave lane job ∷ steps) t logs before e ready =
        let f = found t lane job steps e in
        let newer = newer_of steps (Gave lane job ∷ t) in
        let there = trace_behind newer.0 (Gave lane job ∷ t) (subst IsRunTrace (sym e ∙ newer.1) run) in
        with_row t lane job steps logs before there ready f (shown steps (Gave lane job ∷ t) _ _ e (ready_then t lane job steps logs before there ready f))
    shown (Took from c ∷ steps) t logs before e ready =
        took_shown t from c steps logs before (shown steps (Took from c ∷ t) logs before e (took_ready t from c steps logs before e ready))
    shown (Called task called result made notes ∷ steps) t logs before e ready =
        let s = shown steps (Called task called result made notes ∷ t) logs before e (passed_ready t (Called task called result made notes ∷ t) logs before (λ l. refl) (λ id. refl) ready) in
        record { rows = s.rows; is = s.is; numbered = s.numbered; above = s.above; rising = s.rising }
    shown (Made fits ∷ steps) t logs before e ready =
        let s = shown steps (Made fits ∷ t) logs before e (passed_ready t (Made fits ∷ t) logs before (λ l. refl) (λ id. refl) ready) in
        record { rows = s.rows; is = s.is; numbered = s.numbered; above = s.above; rising = s.rising }
    shown (Lined ∷ steps) t logs before e ready =
        let s = shown steps (Lined ∷ t) logs before e (passed_ready t (Lined ∷ t) logs before (λ l. refl) (λ id. refl) ready) in
        record { rows = s.rows; is = s.is; numbered = s.numbered; above = s.above; rising = s.rising }
    shown (Stopped reason ∷ steps) t logs before e ready =
        let s = shown steps (Stopped reason ∷ t) logs before e (passed_ready t (Stopped reason ∷ t) logs before (λ l. refl) (λ id. refl) ready) in
        record { rows = s.rows; is = s.is; numbered = s.numbered; above = s.above; rising = s.rising }

    -- ---- the whole trace

    pub record AllShown (logs : ℕ → List Talk) : Type 0 where
      pub rows : List Row
      pub is : dispatches (journal_of trace) logs ≡ map (λ (row : Row). row.dispatch) rows
      pub numbered : (lane : ℕ) → Numbered lane 0 (rows_in lane rows)
      pub rising : Rising rows

    pub all_shown : (logs : ℕ → List Talk) → ((lane : ℕ) → logs lane ≡ rest lane 0) → AllShown logs
    all_shown logs are =
        let steps = steps_of trace in
        let s = shown steps.0 [] logs [] steps.1 (record { logs_are = are; tallies = none_given trace }) in
        let journal_is = sym (ap (λ (t : RunTrace). journal_of t) (sym steps.1) ∙ journal-onto steps.0 []) in
        record {
          rows = s.rows;
          is = ap (λ (es : List Entry). dispatches es logs) (sym journal_is) ∙ s.is;
          numbered = s.numbered;
          rising = s.rising;
        }
