-- Traces that fit a journal: what is served in them was dispatched, and a certain answer was served before its dispatch came.
use Rattle.std.proofs.Common.{append_assoc, ◌≡◌, ◌∙◌, ◌+◌, ◌==◌, ℕ, true, cond, List, [], ◌∷◌, ◌++◌, Some, None, refl, sym, ap, subst, inl, inr, Contains, filter, filter_map, slice_get, arith, Option}
use Rattle.std.proofs.lemmas.List.{map-append, append-nil}
use Rattle.s3_model.specs.declared.requests.Ask.{Ask}
use Rattle.s3_model.specs.declared.requests.Ask.TheVariants as ask
use Rattle.s3_model.specs.declared.answers.Reply.{Reply}
use Rattle.s3_model.specs.declared.answers.Class.{Class}
use Rattle.s3_model.specs.declared.answers.Class.TheVariants as class
use Rattle.s3_model.specs.declared.outcomes.JobId.{JobId}
use Rattle.s3_model.specs.declared.outcomes.Event.{Event}
use Rattle.s3_model.specs.declared.outcomes.Event.TheVariants as entry
use Rattle.s3_model.specs.declared.settings.Limits.{Limits}
use Rattle.s3_model.specs.declared.tries.Mark.{Mark}
use Rattle.s3_model.specs.Replies.{IsSameReply}
use Rattle.s3_model.specs.Talks.{Talk}
use Rattle.s3_service.specs.ServiceState.{State, HasBucket}
use Rattle.s3_service.specs.Serves.{Answer, Replied, Refused, Succeeds, ExternalWrite, bucket_of, after_external, MayChange}
use Rattle.job_terms.specs.Dispatches.{Attempt, Dispatched}
use Rattle.run_promise.specs.Traces.{SentRequest, Step, TraceEvent, Given, Begin, Serve, External, Came, IsTrace, Steps, state_after, states, events_of, event_of, begun_in}
use Rattle.run_promise.specs.Fits.{Fits, IsCertain, IsListing, IsPageJob, Names, request_at, requests_from, requests_of}
use Rattle.run_promise.specs.Runs.{HasJournal}
use Rattle.world_laws.specs.Premises.{HasCome, HasSucceeded}
use Rattle.shared_lemmas.proofs.Members.{contains_of, gathered, Has, has, has-append_left, has-filter_map, kept, split_at}
use Rattle.world_laws.proofs.Traces.{begun_through, begun_from, state_after_step, step_within, event_within, has_state_after, beginning_of}
use Rattle.shared_lemmas.proofs.Clashes.{none_is_some}

-- ---- requests of a dispatch

pub record IsRequestOf (c : Dispatched) (sent : SentRequest) : Type 0 where
  pub place : ℕ
  pub is_sent : sent ≡ request_at c place

requested : (c : Dispatched) (k : ℕ) (attempts : List Attempt) (sent : SentRequest) → Has (requests_from c k attempts) sent → IsRequestOf c sent
requested c k [] sent h = absurd h
requested c k (attempt ∷ attempts) sent (inl e) = record { place = k; is_sent = sym e }
requested c k (attempt ∷ attempts) sent (inr h) = requested c (k + 1) attempts sent h

same_lane : (lane : ℕ) (sent : SentRequest) → begun_in lane (Begin lane sent) ≡ Some sent
same_lane lane sent = let same : (lane == lane) ≡ true = grind arith in ap (λ b. cond b (Some sent) None) same

pub came_event : (event : TraceEvent) (job : JobId) (lane : ℕ) (tries : List Mark) → event_of event ≡ Some (entry.Came job lane tries) → event ≡ Came job lane tries
came_event (Came j l t) job lane tries e = cc
came_event (Given j l) job lane tries e = cc
came_event (Begin l sent) job lane tries e = cc
came_event (Serve sent answer) job lane tries e = cc
came_event (External write) job lane tries e = cc

-- a planning job that asks for a page of a listing
abbrev pub AsksPage : Dispatched → Type 0
AsksPage c = IsListing c.ask × (c.dispatch.job.task ≡ None)

-- what changes an object lists nothing
pub changes_no_page : (bucket key : List ℕ) (c : Dispatched) → MayChange c.ask bucket key → AsksPage c → ⊥
changes_no_page bucket key c may page = by c.ask may page.0
  where
    by : (asked : Ask) → MayChange asked bucket key → IsListing asked → ⊥
    by (ask.List b prefix delimited token) may is = may
    by asked may is = is

-- a task lists nothing
pub task_asks_no_page : (n : ℕ) (c : Dispatched) → c.dispatch.job.task ≡ Some n → AsksPage c → ⊥
task_asks_no_page n c of_task page = none_is_some n (sym page.1 ∙ of_task)

-- a request is answered as its class names, but where its page was refused by its content
pub names_where : (page : Option ℕ) (c : Dispatched) → (IsPageJob page c → ⊥) → (shown : Class) (body : List ℕ) (answer : Answer) → (IsCertain page c shown → Names shown body answer) → Names shown body answer
names_where page c no_page (class.Success said) body answer names = names no_page
names_where page c no_page (class.Refusal code message) body answer names = names tt
names_where page c no_page (class.Uncertain why) body answer names = tt

module _ (Shows : Ask → ℕ → Talk → Class → List ℕ → Type 0) (limits : Limits) (start : State) (trace : List Step) (dispatched : List Dispatched) where
  -- a request of this dispatch is served with success, at a step of the trace
  pub record IsServed (c : Dispatched) (old : State) (answered : Reply) (bytes : List ℕ) (new : State) : Type 0 where
    pub known : Contains dispatched c
    pub place : ℕ
    pub attempt : Attempt
    pub is_attempt : slice_get c.dispatch.attempts place ≡ Some attempt
    pub names : (AsksPage c → ⊥) → (shown : Class) (body : List ℕ) → Shows c.ask c.limit attempt.talk shown body → Names shown body (Replied answered bytes)
    pub succeeds : Succeeds limits old c.ask c.body answered bytes new
    pub among : Has (states start trace) old
    pub front : List Step
    pub step : Step
    pub back : List Step
    pub is : trace ≡ front ++ step ∷ back
    pub is_event : step.event ≡ Serve (request_at c place) (Replied answered bytes)
    pub is_old : old ≡ state_after start front
    pub is_new : new ≡ step.state

  -- what each success and each external write keeps
  pub record IsKept (Holds : State → Type 0) : Type 0 where
    pub served : (c : Dispatched) (old : State) (answered : Reply) (bytes : List ℕ) (new : State) → IsServed c old answered bytes new → Holds old → Holds new
    pub written : (write : ExternalWrite) (old : State) → Has (events_of trace) (External write) → HasBucket old (bucket_of write) → Holds old → Holds (after_external write old)

  module _ {page : Option ℕ} (journal : List Event) (runs : IsTrace limits [] start trace) (fits : Fits Shows page (events_of trace) journal dispatched) where
    -- what begins was dispatched
    pub begin_is_dispatched : (lane : ℕ) (sent : SentRequest) → Has (events_of trace) (Begin lane sent) → (c : Dispatched) × Contains dispatched c × IsRequestOf c sent
    begin_is_dispatched lane sent h =
        let among = has-filter_map (begun_in lane) (events_of trace) (Begin lane sent) sent h (same_lane lane sent) in
        let of_lane = subst (λ (all : List SentRequest). Has all sent) (fits.begins lane) among in
        let found = gathered requests_of (filter (λ (c : Dispatched). c.dispatch.lane == lane) dispatched) sent of_lane in
        (found.0, contains_of dispatched found.0 (kept (λ (c : Dispatched). c.dispatch.lane == lane) dispatched found.0 found.1), requested found.0 0 found.0.dispatch.attempts sent found.2)

    -- what is served was begun before
    pub served_was_begun : (front : List Step) (step : Step) (back : List Step) (sent : SentRequest) (answer : Answer) → trace ≡ front ++ step ∷ back → step.event ≡ Serve sent answer
        → (lane : ℕ) × Has (events_of front) (Begin lane sent)
    served_was_begun front step back sent answer is is_event =
        let at_step = step_within limits front step back [] start (subst (λ (t : List Step). IsTrace limits [] start t) is runs) in
        let serves = subst (λ (event : TraceEvent). Steps limits (begun_through [] front) (state_after start front) event step.state) is_event at_step in
        elim (begun_from front [] sent (has (begun_through [] front) sent serves.0)) [ inl h ↦ absurd h | inr h ↦ h ]

    pub steps_at : (front : List Step) (step : Step) (back : List Step) → trace ≡ front ++ step ∷ back → Steps limits (begun_through [] front) (state_after start front) step.event step.state
    steps_at front step back is = step_within limits front step back [] start (subst (λ (t : List Step). IsTrace limits [] start t) is runs)

    pub happens_at : (front : List Step) (step : Step) (back : List Step) → trace ≡ front ++ step ∷ back → Has (events_of trace) step.event
    happens_at front step back is = subst (λ (t : List Step). Has (events_of t) step.event) (sym is) (event_within front step back)

    -- a success at its step, by the dispatch that it is of
    pub success_at : (front : List Step) (step : Step) (back : List Step) (sent : SentRequest) (answered : Reply) (bytes : List ℕ) → trace ≡ front ++ step ∷ back
        → step.event ≡ Serve sent (Replied answered bytes) → (c : Dispatched) × IsServed c (state_after start front) answered bytes step.state × IsRequestOf c sent
    success_at front step back sent answered bytes is is_event =
        let steps = subst (λ (event : TraceEvent). Steps limits (begun_through [] front) (state_after start front) event step.state) is_event (steps_at front step back is) in
        let happened : Has (events_of trace) (Serve sent (Replied answered bytes)) = subst (λ (event : TraceEvent). Has (events_of trace) event) is_event (happens_at front step back is) in
        let told = fits.answers sent (Replied answered bytes) (contains_of (events_of trace) (Serve sent (Replied answered bytes)) happened) in (
          told.of,
          record {
            known = told.known;
            place = told.place;
            attempt = told.attempt;
            is_attempt = told.is_attempt;
            names = λ no_page shown body shows. names_where page told.of (λ is. no_page (is.0, is.1)) shown body (Replied answered bytes) (told.names shown body shows);
            succeeds = subst (λ (s : SentRequest). Succeeds limits (state_after start front) s.ask s.body answered bytes step.state) told.is_sent steps.1;
            among = subst (λ (t : List Step). Has (states start t) (state_after start front)) (sym is) (has_state_after front (step ∷ back) start);
            front = front;
            step = step;
            back = back;
            is = is;
            is_event = is_event ∙ ap (λ (s : SentRequest). Serve s (Replied answered bytes)) told.is_sent;
            is_old = refl;
            is_new = refl;
          },
          record { place = told.place; is_sent = told.is_sent },
        )

    -- one step keeps what each success and each external write keeps
    at_step : (Holds : State → Type 0) → IsKept Holds → (front : List Step) (step : Step) (back : List Step) → trace ≡ front ++ step ∷ back → Holds (state_after start front) → Holds step.state
    at_step Holds kept_by front step back is holds =
        by_event step.event refl
        (steps_at front step back is)
        (λ sent answered bytes is_event. let found = success_at front step back sent answered bytes is is_event in kept_by.served found.0 (state_after start front) answered bytes step.state found.1 holds)
        (λ write is_event there. kept_by.written write (state_after start front) (subst (λ (event : TraceEvent). Has (events_of trace) event) is_event (happens_at front step back is)) there holds)
      where
        by_event : (event : TraceEvent) → step.event ≡ event → Steps limits (begun_through [] front) (state_after start front) event step.state
            → ((sent : SentRequest) (answered : Reply) (bytes : List ℕ) → step.event ≡ Serve sent (Replied answered bytes) → Holds step.state)
            → ((write : ExternalWrite) → step.event ≡ External write → HasBucket (state_after start front) (bucket_of write) → Holds (after_external write (state_after start front)))
            → Holds step.state
        by_event (Given job lane) is_event steps served written = subst Holds (sym steps) holds
        by_event (Begin lane sent) is_event steps served written = subst Holds (sym steps) holds
        by_event (Came job lane tries) is_event steps served written = subst Holds (sym steps) holds
        by_event (External write) is_event steps served written = subst Holds (sym steps.1) (written write is_event steps.0)
        by_event (Serve sent (Refused code)) is_event steps served written = subst Holds (sym steps.1.0) holds
        by_event (Serve sent (Replied answered bytes)) is_event steps served written = served sent answered bytes is_event

    -- what each success and each external write keeps holds from a step on at each later one
    pub holds_from : (Holds : State → Type 0) → IsKept Holds → (rest front late : List Step) → trace ≡ front ++ (rest ++ late) → Holds (state_after start front) → Holds (state_after start (front ++ rest))
    holds_from Holds kept_by [] front late is holds = subst (λ (t : List Step). Holds (state_after start t)) (sym (append-nil front)) holds
    holds_from Holds kept_by (step ∷ rest) front late is holds =
        subst (λ (t : List Step). Holds (state_after start t)) (append_assoc front (step ∷ []) rest)
        (holds_from Holds kept_by rest (front ++ step ∷ []) late (is ∙ sym (append_assoc front (step ∷ []) (rest ++ late)))
        (subst Holds (sym (state_after_step front step start)) (at_step Holds kept_by front step (rest ++ late) is holds)))

    pub holds_at : (Holds : State → Type 0) → IsKept Holds → (part late : List Step) → trace ≡ part ++ late → Holds start → Holds (state_after start part)
    holds_at Holds kept_by part late is holds = holds_from Holds kept_by part [] late is holds

    -- so at each state of the trace
    pub holds_always : (Holds : State → Type 0) → IsKept Holds → Holds start → (t : State) → Has (states start trace) t → Holds t
    holds_always Holds kept_by holds t among =
        let at = beginning_of trace start t among in
        subst Holds (sym at.is_state) (holds_at Holds kept_by at.part at.late at.is holds)

    -- a certain answer is served by the time that its dispatch has come
    pub certain_is_served : (part late : List Step) → trace ≡ part ++ late → (c : Dispatched) → Contains dispatched c → HasCome (filter_map event_of (events_of part)) c
        → (place : ℕ) (attempt : Attempt) (shown : Class) (bytes : List ℕ) → slice_get c.dispatch.attempts place ≡ Some attempt → Shows c.ask c.limit attempt.talk shown bytes → IsCertain page c shown
        → (answer : Answer) × Has (events_of part) (Serve (request_at c place) answer) × Names shown bytes answer
    certain_is_served part late is c known come place attempt shown bytes is_attempt shows certain =
        let at = split_at event_of (events_of part) come.0 (entry.Came c.dispatch.job c.dispatch.lane come.1) come.3 in
        let is_came : at.item ≡ Came c.dispatch.job c.dispatch.lane come.1 = came_event at.item c.dispatch.job c.dispatch.lane come.1 at.gives in
        let in_part : events_of part ≡ at.front ++ Came c.dispatch.job c.dispatch.lane come.1 ∷ at.back = at.is ∙ ap (λ (event : TraceEvent). at.front ++ event ∷ at.back) is_came in
        let in_trace : events_of trace ≡ at.front ++ Came c.dispatch.job c.dispatch.lane come.1 ∷ (at.back ++ events_of late) =
        ap events_of is ∙ map-append (λ (step : Step). step.event) part late ∙ ap (λ (all : List TraceEvent). all ++ events_of late) in_part
        ∙ append_assoc at.front (Came c.dispatch.job c.dispatch.lane come.1 ∷ at.back) (events_of late) in
        let served = fits.served at.front (at.back ++ events_of late) c.dispatch.job c.dispatch.lane come.1 c place attempt shown bytes in_trace known refl (come.2 ∙ ap Some (sym at.place)) is_attempt shows certain in
        let so_far : Has (events_of part) (Serve (request_at c place) served.0) =
        subst (λ (all : List TraceEvent). Has all (Serve (request_at c place) served.0)) (sym at.is) (has-append_left at.front (at.item ∷ at.back) (Serve (request_at c place) served.0) (has at.front (Serve (request_at c place) served.0) served.1)) in
        (served.0, so_far, served.2)

    -- and so is a success, with a reply of the same items
    pub success_is_served : (part late : List Step) → trace ≡ part ++ late → (c : Dispatched) → Contains dispatched c → HasCome (filter_map event_of (events_of part)) c
        → (succeeded : HasSucceeded Shows c) → (IsPageJob page c → ⊥) → (same : Reply) × IsSameReply succeeded.reply same × Has (events_of part) (Serve (request_at c succeeded.place) (Replied same succeeded.bytes))
    success_is_served part late is c known come succeeded no_page =
        let served = certain_is_served part late is c known come succeeded.place succeeded.attempt (class.Success succeeded.reply) succeeded.bytes succeeded.is_attempt succeeded.shows no_page in
        (served.2.0, served.2.1, subst (λ (answer : Answer). Has (events_of part) (Serve (request_at c succeeded.place) answer)) served.2.2 served.1)

-- what has come by the end has come by every whole part
pub come_by : (journal : List Event) (trace part : List Step) → HasJournal journal trace part → (c : Dispatched) → HasCome journal c → HasCome (filter_map event_of (events_of part)) c
come_by journal trace part whole c come = (come.0, come.1, come.2, ap (λ (j : List Event). slice_get j come.0) whole.2 ∙ come.3)
