-- What begins or is served in a trace that fits: nothing but requests that were dispatched, and each began before it was served.
use Rattle.std.proofs.Common.{◌≡◌, ◌++◌, ℕ, List, [], ◌∷◌, ap, Contains, Option}
use Rattle.s3_model.specs.declared.requests.Ask.{Ask}
use Rattle.s3_model.specs.declared.answers.Class.{Class}
use Rattle.s3_model.specs.declared.outcomes.Event.{Event}
use Rattle.s3_model.specs.declared.settings.Limits.{Limits}
use Rattle.s3_model.specs.Talks.{Talk}
use Rattle.s3_service.specs.ServiceState.{State}
use Rattle.s3_service.specs.Serves.{Answer}
use Rattle.job_terms.specs.Dispatches.{Dispatched}
use Rattle.run_promise.specs.Traces.{SentRequest, Step, Begin, Serve, IsTrace, events_of}
use Rattle.run_promise.specs.Fits.{Fits}
use Rattle.shared_lemmas.proofs.Members.{contains_of, has}
use Rattle.world_laws.proofs.Fitting as fitting

-- the request of a dispatch
abbrev pub IsOf : SentRequest → Dispatched → Type 0
IsOf sent c = (sent.ask ≡ c.ask) × (sent.body ≡ c.body) × (sent.job ≡ c.dispatch.job)

of_request : (c : Dispatched) (sent : SentRequest) → fitting.IsRequestOf c sent → IsOf sent c
of_request c sent is = (ap (λ (r : SentRequest). r.ask) is.is_sent, ap (λ (r : SentRequest). r.body) is.is_sent, ap (λ (r : SentRequest). r.job) is.is_sent)

module _ {page : Option ℕ} (Shows : Ask → ℕ → Talk → Class → List ℕ → Type 0) (limits : Limits) (start : State) (trace : List Step) (dispatched : List Dispatched) (journal : List Event)
    (runs : IsTrace limits [] start trace) (fits : Fits Shows page (events_of trace) journal dispatched) where
  pub begun_is_dispatched : (lane : ℕ) (sent : SentRequest) → Contains (events_of trace) (Begin lane sent) → (c : Dispatched) × Contains dispatched c × IsOf sent c
  begun_is_dispatched lane sent h =
      let found = fitting.begin_is_dispatched Shows limits start trace dispatched journal runs fits lane sent (has (events_of trace) (Begin lane sent) h) in
      (found.0, found.1, of_request found.0 sent found.2)

  pub served_is_dispatched : (sent : SentRequest) (answer : Answer) → Contains (events_of trace) (Serve sent answer) → (c : Dispatched) × Contains dispatched c × IsOf sent c
  served_is_dispatched sent answer h =
      let told = fits.answers sent answer h in
      (told.of, told.known, of_request told.of sent (record { place = told.place; is_sent = told.is_sent }))

  -- a request that is served began earlier
  pub served_was_begun : (front : List Step) (step : Step) (back : List Step) (sent : SentRequest) (answer : Answer) → trace ≡ front ++ step ∷ back → step.event ≡ Serve sent answer
      → (lane : ℕ) × Contains (events_of front) (Begin lane sent)
  served_was_begun front step back sent answer is is_event =
      let begun = fitting.served_was_begun Shows limits start trace dispatched journal runs fits front step back sent answer is is_event in
      (begun.0, contains_of (events_of front) (Begin begun.0 sent) begun.1)
