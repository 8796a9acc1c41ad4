-- Of tasks: moves wait for their destinations, moved sources are gone, and nothing else is changed.
use Rattle.std.proofs.Common.{◌≢◌, append_assoc, ◌≡◌, ◌∙◌, ◌⊎◌, ◌++◌, ℕ, Bool, true, false, List, [], ◌∷◌, Option, Some, refl, sym, ap, subst, inl, inr, Contains, slice_get}
use Rattle.std.proofs.lemmas.List.{map-append}
use Rattle.s3_model.specs.declared.requests.Ask.{Ask}
use Rattle.s3_model.specs.declared.requests.Op.{Op}
use Rattle.s3_model.specs.declared.requests.Op.TheVariants as op
use Rattle.s3_model.specs.declared.answers.Reply.{Reply}
use Rattle.s3_model.specs.declared.answers.Reply.TheVariants as reply
use Rattle.s3_model.specs.declared.answers.Class.{Class}
use Rattle.s3_model.specs.declared.outcomes.JobId.{JobId}
use Rattle.s3_model.specs.declared.outcomes.Event.{Event}
use Rattle.s3_model.specs.declared.places.Place.{Place}
use Rattle.s3_model.specs.declared.places.Place.TheVariants as place
use Rattle.s3_model.specs.declared.tasks.Kind.{Kind}
use Rattle.s3_model.specs.declared.tasks.Kind.TheVariants as kind
use Rattle.s3_model.specs.declared.tasks.Task.{Task}
use Rattle.s3_model.specs.Talks.{Talk}
use Rattle.s3_service.specs.ServiceState.{State}
use Rattle.s3_service.specs.Serves.{MayChange}
use Rattle.job_terms.specs.Dispatches.{Dispatched}
use Rattle.run_promise.specs.Traces.{Step, events_of}
use Rattle.run_promise.specs.Schedule.{Setting, Gained, IsTaskAsk, IsDecidedBy, is_small, source_bytes, gained_before}
use Rattle.job_terms.specs.Jobs.{IsObject, IsSource, job_of}
use Rattle.run_promise.specs.Endings.{IsGone}
use Rattle.s3_model.specs.Maps.{MapOf}
use Rattle.s3_model.specs.Files.{HeldFile}
use Rattle.shared_lemmas.proofs.Clashes.{some_is}
use Rattle.shared_lemmas.proofs.Members.{contains_of, found_or_not, has_at}
use Rattle.world_laws.specs.Premises.{HasSucceeded}
use Rattle.run_promise.specs.Runs.{Run, moments, HasEndedBy}
use Rattle.world_laws.specs.Destinations.{AllThatChange}
use Rattle.world_laws.specs.SmallTransfers.{AsksDelete}
use Rattle.world_laws.specs.Tasks.{scene_after, IsRunOf, IsScheduled, IsTaskNew, MovedTaskIsNew, MovedSourceIsGone, OtherObjectsStay}
use Rattle.job_terms.specs.Ops.{deciding}
use Rattle.world_laws.proofs.Traces.{state_after_step}
use Rattle.world_laws.proofs.Frame.{others_stay}
use Rattle.world_laws.proofs.Order.{begun_is_after, came_before}
use Rattle.world_laws.proofs.Moves as moves
use Rattle.world_laws.proofs.Rows as rows
use Rattle.world_laws.proofs.Tasks as tasks
use Rattle.world_laws.proofs.TaskLaws as laws

-- a copy is decided by its deciding request
decided_by : (small : Bool) (n count : ℕ) (gained : Gained) → IsDecidedBy kind.Copy small n count gained → (answered : Reply) × gained (job_of n (deciding kind.Copy small) 0) answered
decided_by true n count gained h = (reply.Copied, h)
decided_by false n count gained h = (reply.Completed, h)

as_deciding : (job : JobId) (n : ℕ) (small : Bool) (of_kind : Kind) → of_kind ≡ kind.Copy → job ≡ job_of n (deciding kind.Copy small) 0 → job ≡ job_of n (deciding of_kind small) 0
as_deciding job n small of_kind is_kind is_job = is_job ∙ ap (λ (k : Kind). job_of n (deciding k small) 0) (sym is_kind)

not_a_removal : kind.Copy ≡ kind.RemoveObject → ⊥
not_a_removal e = cc

module _ (Shows : Ask → ℕ → Talk → Class → List ℕ → Type 0) where
  pub moved_task_is_new : MovedTaskIsNew Shows
  moved_task_is_new s excused held run front later step of_plan is n task bucket key object is_kind lane sent is_event same =
      let r = of_plan.scheduled in
      let p = of_plan.traced in
      let of = begun_is_after Shows s.limits run.start run.trace run.dispatched run.journal p.runs p.fits r.given front step later lane sent is is_event in
      let is_job : of.0.dispatch.job ≡ job_of n op.Delete 0 = of.2 ∙ same in
      let own = tasks.row_of_job Shows s run.journal run.dispatched of_plan.coming r n task bucket key object.is_task object.is_dest of.0 op.Delete 0 of.1 is_job in
      let source = rows.row_source (gained_before Shows run.dispatched of.0.dispatch.given_at) task (record { number = n; bytes = source_bytes s.held task.source; piece = own.piece; count = own.count })
      task.kind (is_small s task) of.0.dispatch.job.number of.0.ask of.0.body
      (subst (λ (o : Op). IsTaskAsk (gained_before Shows run.dispatched of.0.dispatch.given_at) task (record { number = n; bytes = source_bytes s.held task.source; piece = own.piece; count = own.count })
      task.kind (is_small s task) o of.0.dispatch.job.number of.0.ask of.0.body) (ap (λ (j : JobId). j.op) is_job) own.row)
      (λ removal. not_a_removal (sym is_kind ∙ removal)) in
      let decided = r.schedule.moves_last of.0 n task of.1 (ap (λ (j : JobId). j.task) is_job) object.is_task source.moves (ap (λ (j : JobId). j.op) is_job) own.piece own.count own.pieces in
      let gained = decided_by (is_small s task) n own.count (gained_before Shows run.dispatched of.0.dispatch.given_at) (subst (λ (k : Kind). IsDecidedBy k (is_small s task) n own.count (gained_before Shows run.dispatched of.0.dispatch.given_at)) is_kind decided) in
      let c = gained.1.0 in
      let is_deciding : c.dispatch.job ≡ job_of n (deciding task.kind (is_small s task)) 0 = as_deciding c.dispatch.job n (is_small s task) task.kind is_kind gained.1.2 in
      let in_events : events_of run.trace ≡ events_of front ++ step.event ∷ events_of later = ap events_of is ∙ map-append (λ (x : Step). x.event) front (step ∷ later) in
      let come = came_before Shows s.limits run.start run.trace run.dispatched run.journal p.runs p.fits r.given c of.0 (r.come c gained.1.1) gained.1.3 (events_of front) (step.event ∷ events_of later) in_events of.3 in
      let split : run.trace ≡ (front ++ step ∷ []) ++ later = is ∙ sym (append_assoc front (step ∷ []) later) in
      subst (λ (t : State). IsTaskNew s excused held (moments run) task t) (state_after_step front step run.start)
      (laws.new_once_come Shows s run of_plan.coming r n task bucket key object.is_task object.is_dest excused held (front ++ step ∷ []) p (later, split) object.has_source c gained.1.1 is_deciding
      (moves.come_later front (step ∷ []) c come) (tasks.replied Shows c gained.0 gained.1.4).0)

  -- a request that may change an object changes its task's destination, or deletes the source of its move
  pub what_changes : (s : Setting) (journal : List Event) (dispatched coming : List Dispatched) → IsScheduled Shows s journal dispatched coming → (bucket key : List ℕ) (c : Dispatched) → Contains dispatched c → MayChange c.ask bucket key
      → (m : ℕ) × (task : Task) × (slice_get s.tasks m ≡ Some task) × (IsObject task.dest bucket key ⊎ rows.DeletesSource task c.ask bucket key)
  what_changes s journal dispatched coming r bucket key c known may = elim (found_or_not c.dispatch.job.task) [
    | inl none ↦ absurd (tasks.planning_changes_nothing c.ask bucket key (tasks.asks_only Shows s journal dispatched coming r c known none) may)
    | inr some ↦
        let found = tasks.row_of Shows s journal dispatched coming r c some.0 known some.1 in (
          some.0,
          found.0,
          found.1,
          elim (rows.row_changes (gained_before Shows dispatched c.dispatch.given_at) found.0 (record { number = some.0; bytes = source_bytes s.held found.0.source; piece = found.2.piece; count = found.2.count }) bucket key
              found.0.kind (is_small s found.0) c.dispatch.job.op c.dispatch.job.number c.ask c.body found.2.row may) [
                | inl there ↦ inl there.is_dest
                | inr source ↦ inr source
              ],
        )
  ]

  pub other_objects_stay : OtherObjectsStay Shows
  other_objects_stay s run part bucket key of begins =
      elim (others_stay Shows s.limits run.start run.trace run.dispatched run.journal of.traced.runs of.traced.fits bucket key part begins.0 begins.1) [
        | inr rest ↦ inr (inr rest)
        | inl asked ↦
            let what = what_changes s run.journal run.dispatched of.coming of.scheduled bucket key asked.0 asked.1 asked.2 in
            elim what.3 [
              | inl there ↦ inl (what.1, contains_of s.tasks what.1 (has_at s.tasks what.0 what.1 what.2), rows.place_is what.1.dest bucket key there)
              | inr source ↦ inr (inl (what.1, contains_of s.tasks what.1 (has_at s.tasks what.0 what.1 what.2), source.moves, rows.source_is what.1.source bucket key source.is_source))
            ]
      ]

  gone_after : (s : Setting) (held : MapOf HeldFile) (run : Run) (part : List Step) (of : IsRunOf Shows s run) → HasEndedBy run part → (n : ℕ) (task : Task) (bucket key : List ℕ)
      → slice_get s.tasks n ≡ Some task → task.moves ≡ true → task.source ≡ Some (place.Object bucket key) → task.kind ≢ kind.RemoveObject
      → (c : Dispatched) → Contains run.dispatched c → c.dispatch.job ≡ job_of n op.Delete 0 → HasSucceeded Shows c → IsGone run.trace (scene_after s held run part) task.source
  gone_after s held run part of whole n task bucket key is_task moved is_source other c known is_job succeeded =
      subst (λ (o : Option Place). IsGone run.trace (scene_after s held run part) o) (sym is_source)
      (moves.source_is_gone Shows s.limits run part bucket key (record { runs = of.traced.runs; fits = of.traced.fits }) deletes_alone whole
      (record { request = c; known = known; may = may; come = of.scheduled.come c known; succeeded = succeeded }))
    where
      here : IsSource task.source bucket key
      here = subst (λ (o : Option Place). IsSource o bucket key) (sym is_source) (refl, refl)

      deletes_alone : AllThatChange bucket key (AsksDelete bucket key) run.dispatched
      deletes_alone d among changes =
          let what = what_changes s run.journal run.dispatched of.coming of.scheduled bucket key d among changes in
          elim what.3 [
            | inl there ↦ absurd (of.scheduled.apart.sources n what.0 task what.1 bucket key is_task what.2 moved here there)
            | inr source ↦ source.deletes
          ]

      own_of : (found : (t : Task) × (slice_get s.tasks n ≡ Some t) × tasks.IsRow Shows s run.journal run.dispatched of.coming of.scheduled n t c) → tasks.IsRow Shows s run.journal run.dispatched of.coming of.scheduled n task c
      own_of found = subst (λ (t : Task). tasks.IsRow Shows s run.journal run.dispatched of.coming of.scheduled n t c) (some_is found.0 task (sym found.1 ∙ is_task)) found.2

      may : MayChange c.ask bucket key
      may =
          let own = own_of (tasks.row_of Shows s run.journal run.dispatched of.coming of.scheduled c n known (ap (λ (j : JobId). j.task) is_job)) in
          let source = rows.row_source (gained_before Shows run.dispatched c.dispatch.given_at) task (record { number = n; bytes = source_bytes s.held task.source; piece = own.piece; count = own.count })
          task.kind (is_small s task) c.dispatch.job.number c.ask c.body
          (subst (λ (o : Op). IsTaskAsk (gained_before Shows run.dispatched c.dispatch.given_at) task (record { number = n; bytes = source_bytes s.held task.source; piece = own.piece; count = own.count })
          task.kind (is_small s task) o c.dispatch.job.number c.ask c.body) (ap (λ (j : JobId). j.op) is_job) own.row) other in
          let at = subst (λ (o : Option Place). IsSource o source.from.bucket source.from.key) is_source source.from.is_source in
          subst (λ (a : Ask). MayChange a bucket key) (sym source.deletes) (sym at.0, sym at.1)

  pub moved_source_is_gone : MovedSourceIsGone Shows
  moved_source_is_gone s held run part of whole n task bucket key is_task moved is_source other deleted =
      gone_after s held run part of whole n task bucket key is_task moved is_source other deleted.0 deleted.1 deleted.2 deleted.3
