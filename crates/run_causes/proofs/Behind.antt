-- A run behind its planning: its jobs are those that its journal and its logs show.
use Rattle.std.proofs.Common.{append_assoc, ◌≡◌, ◌∙◌, ◌+◌, ◌<◌, ◌++◌, ℕ, Bool, true, false, List, [], ◌∷◌, Option, Some, None, Contains, refl, sym, subst, ap, inl, inr, arith, length, slice_get}
use Rattle.std.proofs.lemmas.List.{length-append}
use Rattle.std.specs.Prelude.{IsSome, is_some, nat_lt, if◌then◌else◌}
use Rattle.answer_classes.proofs.OneShown.{one_shown}
use Rattle.answer_classes.specs.Showing.{Shows}
use Rattle.job_terms.specs.Dispatches.{Dispatched}
use Rattle.jobs.specs.Endings.{SeenCarried}
use Rattle.lane_journals.proofs.Journaled.{lanes_end_as_shown}
use Rattle.lane_journals.specs.Journals.{AreHandedBack, AreOfLanes}
use Rattle.lane_laws.specs.Runs.{Giving, IsJournal, dispatched_of}
use Rattle.manager_moves.specs.Runs as run
use Rattle.manager_moves.specs.Runs.{Events, Sent, lacks_memory, made_count, share}
use Rattle.run_progress.proofs.Progress.{tasks_have_ended}
use Rattle.run_progress.proofs.Waiting.{is_waiting, memory_waits}
use Rattle.run_schedule.specs.Runs as schedule
use Rattle.run_schedule.specs.Runs.{EndAsShown}
use Rattle.run_traces.proofs.Planned.{events_since, journal_parts, tasks_journal}
use Rattle.run_traces.proofs.Splits.{same_split}
use Rattle.run_traces.proofs.Steps.{entries_grow, entry_count, journal-append, took_counted}
use Rattle.run_traces.specs.Plannings.{IsOfPlanning}
use Rattle.run_traces.specs.Traces.{Called, Gave, Lined, Made, RunStep, RunTrace, Stopped, Took, event_of, events_of, journal_of}
use Rattle.s3_model.specs.declared.outcomes.Cause.TheVariants as cause
use Rattle.s3_model.specs.declared.outcomes.Event.{Event as Entry}
use Rattle.s3_model.specs.declared.outcomes.Event.TheVariants as entry
use Rattle.s3_model.specs.declared.outcomes.Outcome.{Outcome}
use Rattle.s3_model.specs.declared.outcomes.Outcome.TheVariants as outcome
use Rattle.s3_model.specs.declared.requests.Op.{Op}
use Rattle.shared_lemmas.proofs.Clashes.{some_is}
use Rattle.shared_lemmas.proofs.Members.{Has, contains_of, has, has-append_cases, has-append_right}
use Rattle.task_acts.specs.declared.acts.Act.TheVariants as act
use Rattle.task_acts.specs.declared.acts.Stage.{Stage}
use Rattle.task_acts.specs.declared.acts.Stage.TheVariants as at
use Rattle.task_acts.specs.declared.work.Work.{Work}
use Rattle.task_acts.specs.Ends.{outcome_of}
use Rattle.task_acts.specs.Stages.{stage}
use Rattle.task_progress.proofs.Begun.{has_begun}
use Rattle.task_progress.proofs.Endings.{no}
use Rattle.task_schedule.proofs.SentJobs.{sent_begun}
use Rattle.task_schedule.specs.Journals.{AreSent, IsRunOf, ShowOne}
use Rattle.trace_laws.proofs.Coming.{came_back, step_of}
use Rattle.run_causes.proofs.Sent.{shows_sent}
use Rattle.run_causes.specs.Causes.{IsTracedRun, TellsStops, TracedRun}

pub show_one : ShowOne Shows
show_one asked limit talk one same bytes body a b = (one_shown asked limit talk one same bytes body a b).0

-- ---- the entries of the planning

last_of_planning : (t : RunTrace) (e x : Entry) → (Has (journal_of t) e → schedule.IsOfPlanning e) → schedule.IsOfPlanning x → Has (journal_of t ++ x ∷ []) e → schedule.IsOfPlanning e
last_of_planning t e x earlier here h = elim (has-append_cases (journal_of t) (x ∷ []) e h) [
  | inl there ↦ earlier there
  | inr last ↦ elim last [ inl same ↦ subst schedule.IsOfPlanning same here | inr none ↦ absurd none ]
]

planning_entries : (t : RunTrace) → ((x : RunStep) → Has t x → IsOfPlanning x) → (e : Entry) → Has (journal_of t) e → schedule.IsOfPlanning e
planning_entries [] of e h = absurd h
planning_entries (Gave lane job ∷ t) of e h = last_of_planning t e (entry.Given job.id lane) (planning_entries t (λ x g. of x (inr g)) e) (of (Gave lane job) (inl refl)) h
planning_entries (Took lane c ∷ t) of e h = last_of_planning t e (entry.Came c.job.id lane c.tries) (planning_entries t (λ x g. of x (inr g)) e) (of (Took lane c) (inl refl)) h
planning_entries (Called task called result steps notes ∷ t) of e h = absurd (of (Called task called result steps notes) (inl refl))
planning_entries (Made fits ∷ t) of e h = absurd (of (Made fits) (inl refl))
planning_entries (Lined ∷ t) of e h = absurd (of Lined (inl refl))
planning_entries (Stopped reason ∷ t) of e h = absurd (of (Stopped reason) (inl refl))

-- ---- a task's outcome

one_more : (m n : ℕ) → n ≡ m + 1 → m < n
one_more m n e = omega arith

took_same : (lane other : ℕ) (c d : SeenCarried) → ◌≡◌ {A = RunStep} (Took lane c) (Took other d) → c ≡ d
took_same lane other c d e = cc

waits_not : (how : Stage) → has_begun how ≡ true → is_waiting how ≡ true → false ≡ true
waits_not at.Waiting b e = b
waits_not how b e = e

-- an outcome that is not for want of memory is that of the share
by_share : (made lacks : Bool) (of_share : Option Outcome) → lacks ≡ false → is_some (if made then (if lacks then Some (outcome.Failed cause.Memory) else of_share) else None) ≡ true → is_some of_share ≡ true
by_share true true x e f = no (sym e)
by_share true false x e f = f
by_share false l x e f = no f

module _ (r : TracedRun) (is : IsTracedRun r) where
  abbrev pub events : Events
  events = events_of r.trace

  abbrev pub planned : ℕ
  planned = length (journal_of r.planning)

  abbrev pub ds : List Dispatched
  ds = dispatched_of r.givings

  -- ---- what is handed back

  -- the completion at a place of the journal is the one that its giving tells of
  pub taken_there : (later before : RunTrace) (lane : ℕ) (carried : SeenCarried) (g : Giving) (known : Contains r.givings g) → r.trace ≡ later ++ Took lane carried ∷ before
      → g.of.dispatch.came_at ≡ Some (entry_count before) → carried ≡ (is.givings.each g known).carried
  taken_there later before lane carried g known at came =
      let of = is.givings.each g known in
      let stands = of.stands in
      let behind = stands.between ++ Gave g.of.dispatch.lane of.job ∷ stands.before in
      let place = some_is (entry_count before) (entry_count behind) (sym came ∙ stands.came_at) in
      let one = same_split entry_count entries_grow later stands.later (Took lane carried) (Took g.of.dispatch.lane of.carried) before behind
      (one_more _ _ (took_counted lane carried before)) (one_more _ _ (took_counted g.of.dispatch.lane of.carried behind)) (sym at ∙ stands.is) place in
      took_same lane g.of.dispatch.lane carried of.carried one.step_is

  pub back_there : (later before : Events) (lane : ℕ) (carried : SeenCarried) (g : Giving) (known : Contains r.givings g) → events ≡ later ++ run.Back lane carried ∷ before
      → g.of.dispatch.came_at ≡ Some (planned + length (run.journal_of before)) → carried ≡ (is.givings.each g known).carried
  back_there later before lane carried g known e came =
      let at = step_of event_of (run.Back lane carried) before is.first.since later (sym (events_since r.planning r.trace is.first) ∙ e) in
      let since = at.is ∙ ap (λ (x : RunStep). at.front ++ x ∷ at.back) (came_back at.item lane carried at.gives) in
      let whole = is.first.is ∙ ap (λ (t : RunTrace). t ++ r.planning) since ∙ append_assoc at.front (Took lane carried ∷ at.back) r.planning in
      let back = tasks_journal at.back (λ x h. is.first.of_tasks x (contains_of is.first.since x (subst (λ (t : RunTrace). Has t x) (sym since) (has-append_right at.front (Took lane carried ∷ at.back) x (inr h))))) in
      let behind = back ∙ ap (λ (es : Events). run.journal_of es) at.rest_is in
      let place = ap (λ (es : List Entry). length es) (journal-append at.back r.planning ∙ ap (λ (es : List Entry). journal_of r.planning ++ es) behind)
      ∙ length-append (journal_of r.planning) (run.journal_of before) in
      taken_there at.front (at.back ++ r.planning) lane carried g known whole (came ∙ ap (λ (k : ℕ). Some k) (sym place))

  handed : AreHandedBack planned events r.givings
  handed later before lane carried g e known came =
      ap (λ (c : SeenCarried). c.ending) (back_there later before lane carried g known e came) ∙ sym (is.givings.each g known).tells.ended

  -- ---- the jobs that were sent

  pub lanes : AreOfLanes r.carrier.endpoint r.carrier.keys r.setting.config.attempts r.givings r.logs r.notes
  lanes = subst (λ (n : ℕ). AreOfLanes r.carrier.endpoint r.carrier.keys n r.givings r.logs r.notes) is.attempts is.givings.lanes

  ends_shown : EndAsShown Shows planned events ds
  ends_shown = lanes_end_as_shown r.carrier.endpoint r.carrier.keys r.carrier.attempts planned events r.logs r.notes r.givings is.givings.lanes handed

  sent : AreSent Shows planned events ds
  sent = shows_sent Shows r.setting (journal_of r.planning) events r.logs r.notes ds
      (λ e known. planning_entries r.planning (λ x h. is.first.of_planning x (contains_of r.planning x h)) e (has (journal_of r.planning) e known))
      (subst (λ (es : List Entry). IsJournal r.setting es r.logs r.notes ds) (journal_parts r.planning r.trace is.first) is.givings.journal) ends_shown

  has_ended : (n k lane : ℕ) (w : Work) (o : Op) → slice_get r.shared.works n ≡ Some w → Contains events (Sent n o k lane) → IsSome (outcome_of w (share w n events))
  has_ended n k lane w o of_plan known = by (lacks_memory n events) refl
    where
      by : (b : Bool) → lacks_memory n events ≡ b → IsSome (outcome_of w (share w n events))
      by true e = no (waits_not (stage w (share w n events) (act.Send o k)) (sent_begun events n k lane w o (has events (Sent n o k lane) known)) (memory_waits r.shared n w of_plan (act.Send o k) events is.ended.run e))
      by false e = by_share (nat_lt n (made_count events)) (lacks_memory n events) (outcome_of w (share w n events)) e (tasks_have_ended r.shared events n w is.ended.means is.ended.run is.ended.end of_plan)

  pub is_run_of : TellsStops r → IsRunOf Shows r.shared r.setting planned events ds r.coming
  is_run_of tells = record {
    run = is.ended.run;
    works = is.ended.works;
    sent = sent;
    asked = is.asked;
    ended = has_ended;
    is_coming = is.givings.is_coming;
    in_order = is.givings.in_order;
    cancelled = tells.cancelled;
    cancelled_at = tells.cancelled_at;
    files = tells.files;
  }
