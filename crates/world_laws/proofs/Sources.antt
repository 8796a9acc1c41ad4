-- What planning was told of an object is so at every moment of the run.
use Rattle.std.proofs.Common.{◌≡◌, ◌∙◌, ℕ, List, [], ◌∷◌, refl, sym, ap, subst, length, slice_get}
use Rattle.std.proofs.lemmas.List.{append-nil}
use Rattle.s3_model.specs.declared.requests.Ask.{Ask}
use Rattle.s3_model.specs.declared.requests.Ask.TheVariants as ask
use Rattle.s3_model.specs.declared.answers.Class.{Class}
use Rattle.s3_model.specs.declared.answers.Reply.{Reply}
use Rattle.s3_model.specs.declared.answers.Reply.TheVariants as reply
use Rattle.s3_model.specs.declared.outcomes.Event.{Event}
use Rattle.s3_model.specs.declared.places.Entry.{Entry}
use Rattle.s3_model.specs.declared.settings.Limits.{Limits}
use Rattle.s3_model.specs.Replies.{IsSameReply}
use Rattle.s3_model.specs.Talks.{Talk}
use Rattle.s3_service.specs.ServiceState.{Object, State}
use Rattle.s3_service.specs.Serves.{IsThere, Replied, Succeeds}
use Rattle.run_promise.specs.Fits.{request_at}
use Rattle.run_promise.specs.Traces.{Step, Serve, TraceEvent, Steps, state_after, states}
use Rattle.run_promise.specs.Truthful.{IsDest}
use Rattle.run_promise.specs.Runs.{moments}
use Rattle.world_laws.specs.Sources.{TellsOf, FoundHasSize, FoundIsSource}
use Rattle.world_laws.proofs.Listings.{entry_is_there}
use Rattle.world_laws.proofs.Fitting as fitting
use Rattle.world_laws.proofs.Kept.{one_content}
use Rattle.shared_lemmas.proofs.Members.{contains_of, Has, has}
use Rattle.world_laws.proofs.Traces.{begun_through, has_state_after, step_of}

there_at : (t : State) (object : Object) (b k under bucket key etag : List ℕ) → b ≡ bucket → k ≡ key → under ≡ etag → IsThere t b k under object → IsThere t bucket key etag object
there_at t object b k under bucket key etag is_bucket is_key is_etag there =
    subst (λ (x : List ℕ). IsThere t x key etag object) is_bucket (subst (λ (x : List ℕ). IsThere t b x etag object) is_key (subst (λ (x : List ℕ). IsThere t b k x object) is_etag there))

-- a reply that tells of an object has what is there
told_is_there : (limits : Limits) (old : State) (asked : Ask) (body : List ℕ) (told served : Reply) (bytes : List ℕ) (new : State) (bucket key etag : List ℕ) (size : ℕ)
    → TellsOf asked told bucket key etag size → IsSameReply told served → Succeeds limits old asked body served bytes new
    → (object : Object) × IsThere old bucket key etag object × (size ≡ length object.bytes)
told_is_there limits old (ask.Head b k) body (reply.Found said under micros) served bytes new bucket key etag size tells same succeeds =
    let finds = subst (λ (r : Reply). Succeeds limits old (ask.Head b k) body r bytes new) (sym same) succeeds in
    (finds.0, there_at old finds.0 b k under bucket key etag tells.0 tells.1 tells.2 finds.1, sym tells.3 ∙ finds.2)
told_is_there limits old (ask.List b prefix delimited token) body (reply.Listed page) (reply.Listed other) bytes new bucket key etag size tells same succeeds =
    let entry = tells.0 in
    let among = subst (λ (items : List Entry). Has items entry) same.0 (has page.entries.items entry tells.1) in
    let found = entry_is_there old b prefix delimited token other new succeeds.1 entry among in (
      found.0,
      there_at old found.0 b entry.key entry.etag bucket key etag tells.2 tells.3 tells.4 (record { held = found.1; etag = sym found.2.2 }),
      sym tells.5 ∙ found.2.1,
    )
told_is_there limits old (ask.List b prefix delimited token) body (reply.Listed page) served bytes new bucket key etag size tells same succeeds = absurd succeeds
told_is_there limits old asked body told served bytes new bucket key etag size tells same succeeds = absurd tells

module _ (Shows : Ask → ℕ → Talk → Class → List ℕ → Type 0) where
  pub found_has_size : FoundHasSize Shows
  found_has_size s run p bucket key etag size found bytes had =
      let c = found.request in
      let come = found.come in
      let served = fitting.success_is_served Shows s.limits run.start run.trace run.dispatched run.journal p.runs p.fits run.trace [] (sym (append-nil run.trace)) c found.known
      (come.0, come.1, come.2, ap (λ (j : List Event). slice_get j come.0) p.fits.moves ∙ come.3) found.succeeded found.taken in
      let at = step_of run.trace (Serve (request_at c found.succeeded.place) (Replied served.0 found.succeeded.bytes)) served.2 in
      let old : State = state_after run.start at.front in
      let steps = subst (λ (event : TraceEvent). Steps s.limits (begun_through [] at.front) old event at.step.state) at.is_event
      (fitting.steps_at Shows s.limits run.start run.trace run.dispatched run.journal p.runs p.fits at.front at.step at.back at.is) in
      let there = told_is_there s.limits old c.ask c.body found.succeeded.reply served.0 found.succeeded.bytes at.step.state bucket key etag size found.tells served.1 steps.1 in
      let among = subst (λ (t : List Step). Has (states run.start t) old) (sym at.is) (has_state_after at.front (at.step ∷ at.back) run.start) in
      ap length (one_content run.start run.trace (IsDest s.tasks) p.honest bucket key etag bytes there.0.bytes had (old, there.0, contains_of (moments run) old among, there.1, refl)) ∙ sym there.2

  pub found_is_source : FoundIsSource Shows
  found_is_source s run p task bucket key is_source found = (bucket, key, is_source, found_has_size s run p bucket key task.etag task.size found)
