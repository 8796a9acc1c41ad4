-- The journal of a run whose planning came first: that of the planning, and behind it that of the events.
use Rattle.std.proofs.Common.{◌≡◌, ◌∙◌, ◌++◌, ℕ, List, [], ◌∷◌, Option, Some, None, refl, sym, ap, inl, inr, append-nil}
use Rattle.std.specs.List.{cons_option}
use Rattle.std.specs.Option.{option_map}
use Rattle.std.specs.Prelude.{IsSome}
use Rattle.job_terms.specs.Jobs.{job_of}
use Rattle.jobs.specs.Endings.{SeenCarried}
use Rattle.jobs.specs.Jobs.{SeenJob}
use Rattle.manager_moves.specs.Runs as run
use Rattle.manager_moves.specs.Runs.{Event, Events}
use Rattle.s3_model.specs.declared.outcomes.Event.{Event as Entry}
use Rattle.s3_model.specs.declared.outcomes.Event.TheVariants as entry
use Rattle.s3_model.specs.declared.outcomes.JobId.{JobId}
use Rattle.shared_lemmas.proofs.Clashes.{false_true}
use Rattle.shared_lemmas.proofs.Members.{Has, contains_of}
use Rattle.run_traces.specs.Plannings.{IsOfPlanning, IsOfTasks, IsPlannedFirst}
use Rattle.run_traces.specs.Traces.{Called, Gave, Lined, Made, RunStep, RunTrace, Stopped, Took, events_of, journal_of}
use Rattle.run_traces.proofs.Steps.{events-append, journal-append}

-- ---- the planning

no_event : (lane : ℕ) (task : Option ℕ) (f : ℕ → Event) (before : Events) → task ≡ None → cons_option (option_map f task) before ≡ before
no_event lane task f before e = ap (λ (o : Option ℕ). cons_option (option_map f o) before) e

-- to the tasks the planning is nothing
pub planning_silent : (t : RunTrace) → ((x : RunStep) → Has t x → IsOfPlanning x) → events_of t ≡ []
planning_silent [] of = refl
planning_silent (Gave lane job ∷ t) of =
    no_event lane job.id.task (λ (task : ℕ). run.Sent task job.id.op job.id.number lane) (events_of t) (of (Gave lane job) (inl refl)) ∙ planning_silent t (λ x h. of x (inr h))
planning_silent (Took lane c ∷ t) of =
    no_event lane c.job.id.task (λ (task : ℕ). run.Back lane c) (events_of t) (of (Took lane c) (inl refl)) ∙ planning_silent t (λ x h. of x (inr h))
planning_silent (Called task called result steps notes ∷ t) of = absurd (of (Called task called result steps notes) (inl refl))
planning_silent (Made fits ∷ t) of = absurd (of (Made fits) (inl refl))
planning_silent (Lined ∷ t) of = absurd (of Lined (inl refl))
planning_silent (Stopped reason ∷ t) of = absurd (of (Stopped reason) (inl refl))

-- ---- the tasks

some_task : (task : Option ℕ) → IsSome task → (n : ℕ) × (task ≡ Some n)
some_task None some = absurd (false_true some)
some_task (Some n) some = (n, refl)

task_job : (id : JobId) (n : ℕ) → id.task ≡ Some n → job_of n id.op id.number ≡ id
task_job id n e = ap (λ (task : Option ℕ). record { task = task; op = id.op; number = id.number }) (sym e)

pub gave_event : (lane : ℕ) (job : SeenJob) (t : RunTrace) (n : ℕ) → job.id.task ≡ Some n → events_of (Gave lane job ∷ t) ≡ run.Sent n job.id.op job.id.number lane ∷ events_of t
gave_event lane job t n e = ap (λ (o : Option ℕ). cons_option (option_map (λ (task : ℕ). run.Sent task job.id.op job.id.number lane) o) (events_of t)) e

pub took_event : (lane : ℕ) (c : SeenCarried) (t : RunTrace) (n : ℕ) → c.job.id.task ≡ Some n → events_of (Took lane c ∷ t) ≡ run.Back lane c ∷ events_of t
took_event lane c t n e = ap (λ (o : Option ℕ). cons_option (option_map (λ (task : ℕ). run.Back lane c) o) (events_of t)) e

-- of steps for tasks the journal is that of the events
pub tasks_journal : (t : RunTrace) → ((x : RunStep) → Has t x → IsOfTasks x) → journal_of t ≡ run.journal_of (events_of t)
tasks_journal [] of = refl
tasks_journal (Gave lane job ∷ t) of =
    let task = some_task job.id.task (of (Gave lane job) (inl refl)) in
    ap (λ (es : List Entry). es ++ entry.Given job.id lane ∷ []) (tasks_journal t (λ x h. of x (inr h)))
    ∙ ap (λ (id : JobId). run.journal_of (events_of t) ++ entry.Given id lane ∷ []) (sym (task_job job.id task.0 task.1))
    ∙ ap (λ (es : Events). run.journal_of es) (sym (gave_event lane job t task.0 task.1))
tasks_journal (Took lane c ∷ t) of =
    let task = some_task c.job.id.task (of (Took lane c) (inl refl)) in
    ap (λ (es : List Entry). es ++ entry.Came c.job.id lane c.tries ∷ []) (tasks_journal t (λ x h. of x (inr h)))
    ∙ ap (λ (es : Events). run.journal_of es) (sym (took_event lane c t task.0 task.1))
tasks_journal (Called task called result steps notes ∷ t) of = tasks_journal t (λ x h. of x (inr h))
tasks_journal (Made fits ∷ t) of = tasks_journal t (λ x h. of x (inr h))
tasks_journal (Lined ∷ t) of = tasks_journal t (λ x h. of x (inr h))
tasks_journal (Stopped reason ∷ t) of = tasks_journal t (λ x h. of x (inr h))

-- ---- both

module _ (planning trace : RunTrace) (first : IsPlannedFirst planning trace) where
  pub events_since : events_of trace ≡ events_of first.since
  events_since =
      ap (λ (t : RunTrace). events_of t) first.is ∙ events-append first.since planning
      ∙ ap (λ (es : Events). events_of first.since ++ es) (planning_silent planning (λ x h. first.of_planning x (contains_of planning x h)))
      ∙ append-nil (events_of first.since)

  pub journal_parts : journal_of trace ≡ journal_of planning ++ run.journal_of (events_of trace)
  journal_parts =
      ap (λ (t : RunTrace). journal_of t) first.is ∙ journal-append first.since planning
      ∙ ap (λ (es : List Entry). journal_of planning ++ es) (tasks_journal first.since (λ x h. first.of_tasks x (contains_of first.since x h)))
      ∙ ap (λ (es : Events). journal_of planning ++ run.journal_of es) (sym events_since)
