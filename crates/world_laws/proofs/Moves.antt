-- Moved objects: the source goes only once the destination is new.
use Rattle.std.proofs.Common.{append_assoc, ◌≡◌, ◌∙◌, ◌⊎◌, ◌++◌, ℕ, List, [], ◌∷◌, Option, None, refl, sym, ap, subst, inl, inr, Contains, filter_map, slice_get}
use Rattle.std.proofs.lemmas.List.{map-append}
use Rattle.std.proofs.lemmas.List.Elements.{filter_map-append}
use Rattle.s3_model.specs.declared.requests.Ask.{Ask}
use Rattle.s3_model.specs.declared.requests.Ask.TheVariants as ask
use Rattle.s3_model.specs.declared.answers.Reply.{Reply}
use Rattle.s3_model.specs.declared.answers.Reply.TheVariants as reply
use Rattle.s3_model.specs.declared.answers.Class.{Class}
use Rattle.s3_model.specs.declared.outcomes.Event.{Event}
use Rattle.s3_model.specs.declared.outcomes.Event.TheVariants as entry
use Rattle.s3_model.specs.declared.settings.Limits.{Limits}
use Rattle.s3_model.specs.Replies.{IsSameReply}
use Rattle.s3_model.specs.Talks.{Talk}
use Rattle.s3_service.specs.ServiceState.{State, Object, object_at}
use Rattle.s3_service.specs.Serves.{Replied, Succeeds, MayChange, ExternalWrite, Writes, Removes, after_external}
use Rattle.job_terms.specs.Dispatches.{Dispatched}
use Rattle.run_promise.specs.Traces.{SentRequest, Step, TraceEvent, Given, Begin, Serve, External, Came, IsTrace, Steps, state_after, events_of, event_of}
use Rattle.run_promise.specs.Fits.{Fits, request_at}
use Rattle.run_promise.specs.Endings.{IsDeleted}
use Rattle.run_promise.specs.Runs.{HasJournal, moments}
use Rattle.world_laws.specs.Premises.{HasCome, HasSucceeded}
use Rattle.world_laws.specs.Destinations.{AllThatChange, Making, Requests, IsNewOnceCome}
use Rattle.world_laws.specs.Multipart.{AreCopiedParts, IsCopiedInParts}
use Rattle.world_laws.specs.SmallTransfers.{AsksCopy, AsksDelete, AreAll, IsCopied}
use Rattle.world_laws.specs.Moves.{IsNewOnceBegun, IsWritten, CopyComesFirst, CopiedPartsComeFirst, SourceIsGone}
use Rattle.shared_lemmas.proofs.Members.{contains_of, Has, has, place_in_front}
use Rattle.world_laws.proofs.Objects.{object_at-without_object, place_decided}
use Rattle.world_laws.proofs.Requests.{IsWriteOf}
use Rattle.world_laws.proofs.Traces.{begun_through, step_of, event_of_whole}
use Rattle.world_laws.proofs.Fitting as fitting
use Rattle.world_laws.proofs.Fitting.{come_by}
use Rattle.world_laws.proofs.Frame.{any_decided}
use Rattle.world_laws.proofs.Order.{begins_after}
use Rattle.world_laws.proofs.Destinations as dest
use Rattle.world_laws.proofs.SmallTransfers as small
use Rattle.world_laws.proofs.InParts as in_parts

-- what has come in the first part has come
pub come_later : (front rest : List Step) (c : Dispatched) → HasCome (filter_map event_of (events_of front)) c → HasCome (filter_map event_of (events_of (front ++ rest))) c
come_later front rest c come =
    let both : filter_map event_of (events_of (front ++ rest)) ≡ filter_map event_of (events_of front) ++ filter_map event_of (events_of rest) =
    ap (filter_map event_of) (map-append (λ (step : Step). step.event) front rest) ∙ filter_map-append event_of (events_of front) (events_of rest) in (
      come.0,
      come.1,
      come.2,
      ap (λ (j : List Event). slice_get j come.0) both
          ∙ place_in_front (filter_map event_of (events_of front)) (filter_map event_of (events_of rest)) come.0 (entry.Came c.dispatch.job c.dispatch.lane come.1) come.3,
    )

module _ (Shows : Ask → ℕ → Talk → Class → List ℕ → Type 0) where
  -- ---- the destination

  -- what is new once a success has come is new once a request begins that waits for it
  pub once_begun : (bucket key : List ℕ) (AreOurs : Requests) (IsNew : Making) → IsNewOnceCome Shows bucket key AreOurs IsNew → IsNewOnceBegun Shows bucket key AreOurs IsNew
  once_begun bucket key AreOurs IsNew once limits run part p ours given success job waits begins begun =
      let c = success.request in
      let late = begins.0 in
      let lane = begun.0 in
      let sent = begun.1 in
      let at = step_of part (Begin lane sent) (has (events_of part) (Begin lane sent) begun.2) in
      let in_two : run.trace ≡ (at.front ++ at.step ∷ at.back) ++ late = begins.1 ∙ ap (λ (t : List Step). t ++ late) at.is in
      let so_far = begins_after Shows limits run.start run.trace run.dispatched run.journal p.runs p.fits given c job success.come waits at.front at.step (at.back ++ late) lane sent
      (in_two ∙ append_assoc at.front (at.step ∷ at.back) late) at.is_event begun.3 in
      subst (λ (t : List Step). IsNew (moments run) (state_after run.start t)) (sym at.is)
      (once limits run (at.front ++ at.step ∷ at.back) p ours (late, in_two)
      (small.come_in Shows run.journal (filter_map event_of (events_of (at.front ++ at.step ∷ at.back))) run.dispatched bucket key success (come_later at.front (at.step ∷ at.back) c so_far)))

  pub copy_comes_first : CopyComesFirst Shows
  copy_comes_first bucket key from_bucket from_key etag =
      once_begun bucket key (AreAll bucket key (AsksCopy bucket key from_bucket from_key etag)) (IsCopied bucket key from_bucket from_key etag) (small.copy_once_come Shows bucket key from_bucket from_key etag)

  pub copied_parts_come_first : CopiedPartsComeFirst Shows
  copied_parts_come_first bucket key from_bucket from_key etag ranges count =
      once_begun bucket key (AreCopiedParts Shows bucket key from_bucket from_key etag ranges count) (IsCopiedInParts bucket key from_bucket from_key etag ranges count)
      (in_parts.copied_parts_once_come Shows bucket key from_bucket from_key etag ranges count)

  -- ---- the source

  -- an event writes the object from outside
  abbrev IsWriteAt : List ℕ → List ℕ → TraceEvent → Type 0
  IsWriteAt bucket key (External (Writes b k object)) = (b ≡ bucket) × (k ≡ key)
  IsWriteAt bucket key (External (Removes b k)) = ⊥
  IsWriteAt bucket key (Given job lane) = ⊥
  IsWriteAt bucket key (Begin lane sent) = ⊥
  IsWriteAt bucket key (Serve sent answer) = ⊥
  IsWriteAt bucket key (Came job lane tries) = ⊥

  write_at_decided : (bucket key : List ℕ) (event : TraceEvent) → IsWriteAt bucket key event ⊎ (IsWriteAt bucket key event → ⊥)
  write_at_decided bucket key (External (Writes b k object)) = place_decided b k bucket key
  write_at_decided bucket key (External (Removes b k)) = inr (λ h. h)
  write_at_decided bucket key (Given job lane) = inr (λ h. h)
  write_at_decided bucket key (Begin lane sent) = inr (λ h. h)
  write_at_decided bucket key (Serve sent answer) = inr (λ h. h)
  write_at_decided bucket key (Came job lane tries) = inr (λ h. h)

  written_by : (trace : List Step) (bucket key : List ℕ) (event : TraceEvent) → Has (events_of trace) event → IsWriteAt bucket key event → IsWritten trace bucket key
  written_by trace bucket key (External (Writes b k object)) h at = (
    object,
    contains_of (events_of trace) (External (Writes bucket key object))
        (subst (λ (x : List ℕ). Has (events_of trace) (External (Writes bucket x object))) at.1 (subst (λ (x : List ℕ). Has (events_of trace) (External (Writes x k object))) at.0 h)),
  )
  written_by trace bucket key (External (Removes b k)) h at = absurd at
  written_by trace bucket key (Given job lane) h at = absurd at
  written_by trace bucket key (Begin lane sent) h at = absurd at
  written_by trace bucket key (Serve sent answer) h at = absurd at
  written_by trace bucket key (Came job lane tries) h at = absurd at

  delete_is_gone : (limits : Limits) (old : State) (bucket key body : List ℕ) (answered : Reply) (bytes : List ℕ) (new : State) → Succeeds limits old (ask.Delete bucket key) body answered bytes new → answered ≡ reply.Gone
  delete_is_gone limits old bucket key body reply.Gone bytes new h = refl
  delete_is_gone limits old bucket key body answered bytes new h = absurd h

  removed_is_none : (bucket key : List ℕ) (write : ExternalWrite) (old : State) → (IsWriteAt bucket key (External write) → ⊥) → IsWriteOf write bucket key → object_at (after_external write old) bucket key ≡ None
  removed_is_none bucket key (Writes b k object) old apart at = absurd (apart at)
  removed_is_none bucket key (Removes b k) old apart at =
      subst (λ (x : List ℕ). object_at (after_external (Removes b k) old) bucket x ≡ None) at.1
      (subst (λ (x : List ℕ). object_at (after_external (Removes b k) old) x k ≡ None) at.0 (object_at-without_object old b k))

  gone_after : {page : Option ℕ} (limits : Limits) (start : State) (trace part : List Step) (journal : List Event) (dispatched : List Dispatched) (bucket key : List ℕ)
      → IsTrace limits [] start trace → Fits Shows page (events_of trace) journal dispatched → AllThatChange bucket key (AsksDelete bucket key) dispatched
      → HasJournal journal trace part → (c : Dispatched) → Contains dispatched c → MayChange c.ask bucket key → HasCome journal c → HasSucceeded Shows c
      → IsDeleted trace bucket key × ((object_at (state_after start part) bucket key ≡ None) ⊎ IsWritten trace bucket key)
  gone_after limits start trace part journal dispatched bucket key runs fits ours whole c known may come succeeded = (deleted, gone)
    where
      sent : SentRequest
      sent = request_at c succeeded.place

      answer : (same : Reply) × IsSameReply succeeded.reply same × Has (events_of part) (Serve sent (Replied same succeeded.bytes))
      answer = fitting.success_is_served Shows limits start trace dispatched journal runs fits part whole.0 whole.1 c known (come_by journal trace part whole c come) succeeded
          (λ is. fitting.changes_no_page bucket key c may (is.0, is.1))

      served : Has (events_of trace) (Serve sent (Replied answer.0 succeeded.bytes))
      served = subst (λ (t : List Step). Has (events_of t) (Serve sent (Replied answer.0 succeeded.bytes))) (sym whole.1)
          (event_of_whole part whole.0 (Serve sent (Replied answer.0 succeeded.bytes)) answer.2)

      is_delete : c.ask ≡ ask.Delete bucket key
      is_delete = ours c known may

      deleted : IsDeleted trace bucket key
      deleted =
          let at = step_of trace (Serve sent (Replied answer.0 succeeded.bytes)) served in
          let steps = subst (λ (event : TraceEvent). Steps limits (begun_through [] at.front) (state_after start at.front) event at.step.state) at.is_event
          (fitting.steps_at Shows limits start trace dispatched journal runs fits at.front at.step at.back at.is) in
          let is_gone : answer.0 ≡ reply.Gone = delete_is_gone limits (state_after start at.front) bucket key c.body answer.0 succeeded.bytes at.step.state
          (subst (λ (asked : Ask). Succeeds limits (state_after start at.front) asked c.body answer.0 succeeded.bytes at.step.state) is_delete steps.1) in (
            sent,
            succeeded.bytes,
            is_delete,
            contains_of (events_of trace) (Serve sent (Replied reply.Gone succeeded.bytes))
                (subst (λ (r : Reply). Has (events_of trace) (Serve sent (Replied r succeeded.bytes))) is_gone served),
          )

      gone : (object_at (state_after start part) bucket key ≡ None) ⊎ IsWritten trace bucket key
      gone = elim (any_decided (IsWriteAt bucket key) (write_at_decided bucket key) (events_of trace)) [
        | inl written ↦ inr (written_by trace bucket key written.0 written.1 written.2)
        | inr none ↦ inl (dest.success_makes_new Shows limits start trace dispatched journal runs fits bucket key (λ (found : Option Object). found ≡ None)
            (λ d old answered bytes new served_too changes. small.removes Shows bucket key limits start trace dispatched d old answered bytes new served_too (ours d served_too.known changes))
            (λ write old happened at. removed_is_none bucket key write old (λ is_write. none (External write) happened is_write) at)
            part whole.0 whole.1 c known may (come_by journal trace part whole c come) succeeded)
      ]

  pub source_is_gone : SourceIsGone Shows
  source_is_gone limits run part bucket key of ours whole success =
      gone_after limits run.start run.trace part run.journal run.dispatched bucket key of.runs of.fits ours whole success.request success.known success.may success.come success.succeeded
