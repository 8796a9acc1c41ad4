-- Of tasks: each whose destination is an object ended as its outcome says.
use Rattle.std.proofs.Common.{append_assoc, ◌≡◌, ◌∙◌, ◌⊎◌, ◌++◌, ℕ, Bool, true, false, List, [], ◌∷◌, Option, Some, None, refl, sym, ap, subst, inl, inr, slice_get}
use Rattle.std.specs.Prelude.{IsSome}
use Rattle.std.proofs.lemmas.Bool.{OnTrue_at, OnTrue_from}
use Rattle.s3_model.specs.declared.requests.Ask.{Ask}
use Rattle.s3_model.specs.declared.requests.Op.{Op}
use Rattle.s3_model.specs.declared.outcomes.JobId.{JobId}
use Rattle.s3_model.specs.declared.answers.Class.{Class}
use Rattle.s3_model.specs.declared.answers.Class.TheVariants as class
use Rattle.s3_model.specs.declared.outcomes.Outcome.{Outcome}
use Rattle.s3_model.specs.declared.outcomes.Outcome.TheVariants as outcome
use Rattle.s3_model.specs.declared.places.Place.{Place}
use Rattle.s3_model.specs.declared.places.Place.TheVariants as place
use Rattle.s3_model.specs.declared.tasks.Kind.{Kind}
use Rattle.s3_model.specs.declared.tasks.Kind.TheVariants as kind
use Rattle.s3_model.specs.declared.tasks.Task.{Task}
use Rattle.s3_model.specs.Maps.{MapOf}
use Rattle.s3_model.specs.Talks.{Talk}
use Rattle.s3_model.specs.Files.{HeldFile}
use Rattle.s3_service.specs.ServiceState.{Object, object_at}
use Rattle.s3_service.specs.Serves.{Answer, Refused}
use Rattle.run_promise.specs.Traces.{Step, TraceEvent, Serve, Steps, state_after, events_of}
use Rattle.run_promise.specs.Fits.{request_at}
use Rattle.run_promise.specs.Schedule.{Setting, Known, IsTaskAsk, is_small, source_bytes, gained_before}
use Rattle.job_terms.specs.Ops.{deciding}
use Rattle.run_promise.specs.Endings.{Excused, Scene, LeavesAs, IsAsBefore, IsThereIn, IsGone}
use Rattle.shared_lemmas.proofs.Clashes.{true_is_false}
use Rattle.shared_lemmas.proofs.Members.{Has}
use Rattle.run_promise.specs.Truthful.{IsOldAfter}
use Rattle.run_promise.specs.Runs.{Run, moments, HasEndedBy}
use Rattle.world_laws.specs.Tasks.{MayBeNew, HasSource, IsRunOf, IsObjectTask, scene_after, scene_before, IsRefusedIn, IsTakenIn, IsSourceGone, IsShown, TaskEnds}
use Rattle.world_laws.proofs.Traces.{begun_through, step_of}
use Rattle.world_laws.proofs.Fitting as fitting
use Rattle.world_laws.proofs.Fitting.{come_by}
use Rattle.world_laws.proofs.Rows as rows
use Rattle.world_laws.proofs.Tasks as tasks
use Rattle.world_laws.proofs.TaskLaws.{task_is_new, task_is_old, task_is_whole}
use Rattle.world_laws.proofs.MovedTasks.{moved_source_is_gone}

-- what is shown of a task says how it ended
ends_by : (how : Outcome) (sourced decided refused taken gone left spared new old was_there no_more : Type 0) → (MayBeNew how → sourced) → (sourced → decided → new) → (refused → old)
    → (refused → taken → was_there) → (sourced → gone → no_more) → (sourced → old ⊎ new) → IsShown how decided refused taken gone left spared → LeavesAs how new old was_there no_more left spared
ends_by outcome.Done sourced decided refused taken gone left spared new old was_there no_more needed is_new is_old is_there is_gone whole shown = (is_new (needed tt) shown.0, is_gone (needed tt) shown.1)
ends_by (outcome.Copied cause) sourced decided refused taken gone left spared new old was_there no_more needed is_new is_old is_there is_gone whole shown = (is_new (needed tt) shown.0, shown.1)
ends_by (outcome.Failed cause) sourced decided refused taken gone left spared new old was_there no_more needed is_new is_old is_there is_gone whole shown = (is_old shown.0, shown.1)
ends_by (outcome.Unknown cause) sourced decided refused taken gone left spared new old was_there no_more needed is_new is_old is_there is_gone whole shown = (whole (needed tt), shown)
ends_by outcome.Dry sourced decided refused taken gone left spared new old was_there no_more needed is_new is_old is_there is_gone whole shown = (is_old shown.0, shown.1)
ends_by outcome.Skipped sourced decided refused taken gone left spared new old was_there no_more needed is_new is_old is_there is_gone whole shown = (is_old shown.0, is_there shown.0 shown.1, shown.2)

module _ (Shows : Ask → ℕ → Talk → Class → List ℕ → Type 0) (s : Setting) (excused : Excused) (held : MapOf HeldFile) (run : Run) (part : List Step) (of : IsRunOf Shows s run)
    (whole : HasEndedBy run part) (n : ℕ) (task : Task) (bucket key : List ℕ) (is_task : slice_get s.tasks n ≡ Some task) (is_dest : task.dest ≡ place.Object bucket key) where
  abbrev before : Scene
  before = scene_before s run

  abbrev after : Scene
  after = scene_after s held run part

  abbrev Sourced : Type 0
  Sourced = HasSource s.held (moments run) task task.kind (is_small s task)

  object : Sourced → IsObjectTask s (moments run) n task bucket key
  object sourced = record { is_task = is_task; is_dest = is_dest; has_source = sourced }

  as_before : IsOldAfter run part bucket key → IsAsBefore before after task.dest
  as_before same = subst (λ (d : Place). IsAsBefore before after d) (sym is_dest) same

  -- a task that moves removes nothing
  no_removal : Sourced → task.moves ≡ true → task.kind ≡ kind.RemoveObject → ⊥
  no_removal sourced moves removal = true_is_false (sym moves ∙ stays (is_small s task) (subst (λ (k : Kind). HasSource s.held (moments run) task k (is_small s task)) removal sourced))
    where
      stays : (small : Bool) → HasSource s.held (moments run) task kind.RemoveObject small → task.moves ≡ false
      stays true h = h
      stays false h = h

  gone_by : Sourced → (source : Option Place) → task.source ≡ source → task.moves ≡ true → IsSourceGone Shows run.dispatched held n source → IsGone run.trace after source
  gone_by sourced None is moves gone = tt
  gone_by sourced (Some (place.File path)) is moves gone = gone
  gone_by sourced (Some (place.Object b k)) is moves gone =
      subst (λ (o : Option Place). IsGone run.trace after o) is (moved_source_is_gone Shows s held run part of whole n task b k is_task moves is (no_removal sourced moves) gone)

  -- ---- a destination that was there

  abbrev known_by : ℕ → ℕ → Known
  known_by piece count = record { number = n; bytes = source_bytes s.held task.source; piece = piece; count = count }

  -- where the deciding request is refused since the object is there, it was there at the start
  there_by : IsRefusedIn Shows s run.dispatched n task → IsTakenIn Shows s run.dispatched n task → IsThereIn before task.dest
  there_by refused taken =
      let c = taken.request in
      let own = tasks.row_of_job Shows s run.journal run.dispatched of.coming of.scheduled n task bucket key is_task is_dest c (deciding task.kind (is_small s task)) 0 taken.known taken.decides in
      let row = subst (λ (o : Op). IsTaskAsk (gained_before Shows run.dispatched c.dispatch.given_at) task (known_by own.piece own.count) task.kind (is_small s task) o c.dispatch.job.number c.ask c.body)
      (ap (λ (j : JobId). j.op) taken.decides) own.row in
      let says = rows.row_fresh (gained_before Shows run.dispatched c.dispatch.given_at) task (known_by own.piece own.count) task.kind (is_small s task) c.dispatch.job.number c.ask c.body row taken.may_be in
      let served = fitting.certain_is_served Shows s.limits run.start run.trace run.dispatched run.journal of.traced.runs of.traced.fits part whole.0 whole.1 c taken.known (come_by run.journal run.trace part whole c (of.scheduled.come c taken.known))
      taken.place taken.attempt (class.Refusal taken.code taken.message) taken.bytes taken.is_attempt taken.refused tt in
      let sent = request_at c taken.place in
      let at = step_of part (Serve sent (Refused taken.code)) (subst (λ (answer : Answer). Has (events_of part) (Serve sent answer)) served.2 served.1) in
      let in_trace : run.trace ≡ at.front ++ at.step ∷ (at.back ++ whole.0) = whole.1 ∙ ap (λ (t : List Step). t ++ whole.0) at.is ∙ append_assoc at.front (at.step ∷ at.back) whole.0 in
      let steps = subst (λ (event : TraceEvent). Steps s.limits (begun_through [] at.front) (state_after run.start at.front) event at.step.state) at.is_event
      (fitting.steps_at Shows s.limits run.start run.trace run.dispatched run.journal of.traced.runs of.traced.fits at.front at.step (at.back ++ whole.0) in_trace) in
      let there = says.1 (state_after run.start at.front) taken.code steps.1.1 taken.fresh taken.says_taken in
      let same = rows.same_place task.dest says.0.bucket says.0.key bucket key says.0.is_dest (tasks.here Shows s run.journal run.dispatched of.coming of.scheduled n task bucket key is_task is_dest) in
      let old = task_is_old Shows s run at.front of (at.step ∷ (at.back ++ whole.0), in_trace) n task bucket key is_task is_dest refused in
      let here : IsSome (object_at (state_after run.start at.front) bucket key) =
      subst (λ (k : List ℕ). IsSome (object_at (state_after run.start at.front) bucket k)) same.1 (subst (λ (b : List ℕ). IsSome (object_at (state_after run.start at.front) b says.0.key)) same.0 there) in
      subst (λ (d : Place). IsThereIn before d) (sym is_dest) (subst (λ (o : Option Object). IsSome o) old here)

module _ (Shows : Ask → ℕ → Talk → Class → List ℕ → Type 0) where
  pub task_ends : TaskEnds Shows
  task_ends s excused held run part of whole n task bucket key is_task is_dest how sourced shown =
      ends_by how _ _ _ _ _ _ _ _ _ _ _ sourced
      (λ has decided. task_is_new Shows s excused held run part of whole n task bucket key (object Shows s excused held run part of whole n task bucket key is_task is_dest has) decided)
      (λ refused. as_before Shows s excused held run part of whole n task bucket key is_task is_dest
      (task_is_old Shows s run part of (whole.0, whole.1) n task bucket key is_task is_dest refused))
      (λ refused taken. there_by Shows s excused held run part of whole n task bucket key is_task is_dest refused taken)
      (λ has gone. OnTrue_from task.moves _ (λ moves. gone_by Shows s excused held run part of whole n task bucket key is_task is_dest has task.source refl moves (OnTrue_at moves gone)))
      (λ has. elim (task_is_whole Shows s excused held run part of (whole.0, whole.1) n task bucket key (object Shows s excused held run part of whole n task bucket key is_task is_dest has)) [
        | inl old ↦ inl (as_before Shows s excused held run part of whole n task bucket key is_task is_dest old)
        | inr new ↦ inr new
      ])
      shown
