-- A trace whose planning came first is a run whose jobs lanes carried, if what stopped them is told.
use Rattle.std.proofs.Common.{◌≡◌, ◌∙◌, ◌+◌, ◌<◌, ◌++◌, ℕ, List, [], ◌∷◌, Some, append_assoc, refl, sym, subst, ap, inl, inr, arith, length}
use Rattle.std.proofs.lemmas.List.{length-append}
use Rattle.std.specs.Prelude.{Contains}
use Rattle.jobs.specs.Endings.{SeenCarried}
use Rattle.lane_jobs.specs.Lanes.{SeenCarrier}
use Rattle.lane_journals.specs.Journals.{AreHandedBack, AreOfLanes, IsOfLanes}
use Rattle.lane_laws.specs.Runs.{Giving, HaveCauses, IsJournal, dispatched_of}
use Rattle.job_terms.specs.Dispatches.{Dispatched}
use Rattle.manager_moves.specs.Runs as run
use Rattle.manager_moves.specs.Runs.{Event, Events}
use Rattle.run_promise.specs.Schedule.{Setting}
use Rattle.run_schedule.specs.Runs as schedule
use Rattle.run_traces.proofs.Planned.{events_since, journal_parts, tasks_journal}
use Rattle.run_traces.proofs.Splits.{same_split}
use Rattle.run_traces.proofs.Steps.{entries_grow, entry_count, journal-append, took_counted}
use Rattle.run_traces.specs.Plannings.{IsOfPlanning, IsPlannedFirst}
use Rattle.run_traces.specs.Traces.{Called, Gave, Lined, Made, RunStep, RunTrace, Stopped, Took, event_of, events_of, journal_of}
use Rattle.s3_model.specs.Talks.{Note, Talk}
use Rattle.s3_model.specs.declared.outcomes.Event.{Event as Entry}
use Rattle.s3_model.specs.declared.outcomes.Event.TheVariants as entry
use Rattle.shared_lemmas.proofs.Clashes.{some_is}
use Rattle.shared_lemmas.proofs.Members.{Has, contains_of, has, has-append_cases, has-append_right}
use Rattle.trace_laws.proofs.Coming.{came_back, step_of}
use Rattle.trace_laws.specs.Journals.{HasGivings, PlannedTracesAreOfLanes}

-- ---- the entries of the planning

last_of_planning : (t : RunTrace) (e x : Entry) → (Has (journal_of t) e → schedule.IsOfPlanning e) → schedule.IsOfPlanning x → Has (journal_of t ++ x ∷ []) e → schedule.IsOfPlanning e
last_of_planning t e x earlier here h = elim (has-append_cases (journal_of t) (x ∷ []) e h) [
  | inl there ↦ earlier there
  | inr last ↦ elim last [ inl same ↦ subst schedule.IsOfPlanning same here | inr none ↦ absurd none ]
]

planning_entries : (t : RunTrace) → ((x : RunStep) → Has t x → IsOfPlanning x) → (e : Entry) → Has (journal_of t) e → schedule.IsOfPlanning e
planning_entries [] of e h = absurd h
planning_entries (Gave lane job ∷ t) of e h = last_of_planning t e (entry.Given job.id lane) (planning_entries t (λ x g. of x (inr g)) e) (of (Gave lane job) (inl refl)) h
planning_entries (Took lane c ∷ t) of e h = last_of_planning t e (entry.Came c.job.id lane c.tries) (planning_entries t (λ x g. of x (inr g)) e) (of (Took lane c) (inl refl)) h
planning_entries (Called task called result steps notes ∷ t) of e h = absurd (of (Called task called result steps notes) (inl refl))
planning_entries (Made fits ∷ t) of e h = absurd (of (Made fits) (inl refl))
planning_entries (Lined ∷ t) of e h = absurd (of Lined (inl refl))
planning_entries (Stopped reason ∷ t) of e h = absurd (of (Stopped reason) (inl refl))

-- ---- what is handed back

one_more : (m n : ℕ) → n ≡ m + 1 → m < n
one_more m n e = omega arith

took_same : (lane other : ℕ) (c d : SeenCarried) → ◌≡◌ {A = RunStep} (Took lane c) (Took other d) → c ≡ d
took_same lane other c d e = cc

module _ (carrier : SeenCarrier) (s : Setting) (planning trace : RunTrace) (logs : ℕ → List Talk) (notes : ℕ → List Note) (givings : List Giving) (coming : List Dispatched)
    (first : IsPlannedFirst planning trace) (all : HasGivings carrier s trace logs notes givings coming) where
  -- the completion at a place of the journal is the one that its giving tells of
  handed_there : (later before : RunTrace) (lane : ℕ) (carried : SeenCarried) (g : Giving) → trace ≡ later ++ Took lane carried ∷ before → Contains givings g
      → g.of.dispatch.came_at ≡ Some (entry_count before) → carried.ending ≡ g.ended
  handed_there later before lane carried g is known came =
      let of = all.each g known in
      let at = of.stands in
      let behind = at.between ++ Gave g.of.dispatch.lane of.job ∷ at.before in
      let place = some_is (entry_count before) (entry_count behind) (sym came ∙ at.came_at) in
      let one = same_split entry_count entries_grow later at.later (Took lane carried) (Took g.of.dispatch.lane of.carried) before behind
      (one_more _ _ (took_counted lane carried before)) (one_more _ _ (took_counted g.of.dispatch.lane of.carried behind)) (sym is ∙ at.is) place in
      ap (λ (c : SeenCarried). c.ending) (took_same lane g.of.dispatch.lane carried of.carried one.step_is) ∙ sym of.tells.ended

  handed : AreHandedBack (length (journal_of planning)) (events_of trace) givings
  handed later before lane carried g e known came =
      let at = step_of event_of (run.Back lane carried) before first.since later (sym (events_since planning trace first) ∙ e) in
      let since = at.is ∙ ap (λ (x : RunStep). at.front ++ x ∷ at.back) (came_back at.item lane carried at.gives) in
      let whole = first.is ∙ ap (λ (t : RunTrace). t ++ planning) since ∙ append_assoc at.front (Took lane carried ∷ at.back) planning in
      let back = tasks_journal at.back (λ x h. first.of_tasks x (contains_of first.since x (subst (λ (t : RunTrace). Has t x) (sym since) (has-append_right at.front (Took lane carried ∷ at.back) x (inr h))))) in
      let events = back ∙ ap (λ (es : Events). run.journal_of es) at.rest_is in
      let place = ap (λ (es : List Entry). length es) (journal-append at.back planning ∙ ap (λ (es : List Entry). journal_of planning ++ es) events)
      ∙ length-append (journal_of planning) (run.journal_of before) in
      handed_there at.front (at.back ++ planning) lane carried g whole known (came ∙ ap (λ (k : ℕ). Some k) (sym place))

  pub of_lanes : carrier.attempts ≡ s.config.attempts → HaveCauses carrier.endpoint carrier.keys s givings coming
      → IsOfLanes carrier.endpoint carrier.keys s (journal_of planning) (events_of trace) logs notes givings coming
  of_lanes attempts causes = record {
    of_planning = λ event known. planning_entries planning (λ x h. first.of_planning x (contains_of planning x h)) event (has (journal_of planning) event known);
    journal = subst (λ (es : List Entry). IsJournal s es logs notes (dispatched_of givings)) (journal_parts planning trace first) all.journal;
    lanes = subst (λ (n : ℕ). AreOfLanes carrier.endpoint carrier.keys n givings logs notes) attempts all.lanes;
    causes = causes;
    handed = handed;
  }

pub planned_traces : PlannedTracesAreOfLanes
planned_traces carrier s planning trace logs notes givings coming first all attempts causes = of_lanes carrier s planning trace logs notes givings coming first all attempts causes
