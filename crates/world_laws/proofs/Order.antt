-- A job's requests begin only after it was given.
use Rattle.std.proofs.Common.{append_assoc, ◌≡◌, ◌∙◌, ◌⊎◌, ◌+◌, ◌<◌, ◌≤◌, ℕ, true, cond, List, [], ◌∷◌, ◌++◌, Option, Some, refl, sym, ap, subst, inl, inr, Contains, length, filter_map, slice_get, arith}
use Rattle.std.specs.Prelude.{sum_by, count_by}
use Rattle.std.proofs.lemmas.List.{append-nil, map-append}
use Rattle.std.proofs.lemmas.Option.{slice_get_within}
use Rattle.std.proofs.lemmas.List.Elements.{filter_map-append}
use Rattle.std.proofs.lemmas.List.Sums.{sum_by-cons}
use Rattle.s3_model.specs.declared.requests.Ask.{Ask}
use Rattle.s3_model.specs.declared.answers.Class.{Class}
use Rattle.s3_model.specs.declared.outcomes.JobId.{JobId}
use Rattle.s3_model.specs.declared.outcomes.Event.{Event}
use Rattle.s3_model.specs.declared.outcomes.Event.TheVariants as entry
use Rattle.s3_model.specs.declared.settings.Limits.{Limits}
use Rattle.s3_model.specs.declared.tries.Mark.{Mark}
use Rattle.s3_model.specs.Talks.{Talk}
use Rattle.s3_service.specs.ServiceState.{State}
use Rattle.job_terms.specs.Dispatches.{Dispatched}
use Rattle.job_terms.specs.Jobs.{is_job}
use Rattle.run_promise.specs.Traces.{SentRequest, Step, TraceEvent, Given, Begin, Serve, External, Came, IsTrace, events_of, event_of, is_begin_of, marks_come}
use Rattle.run_promise.specs.Fits.{Fits}
use Rattle.run_promise.specs.Schedule.{IsBefore}
use Rattle.world_laws.specs.Premises.{AreGiven, HasCome}
use Rattle.shared_lemmas.proofs.Members.{Has, has-append_cases, has-append_left, has-append_right, has_at, has_filtered, place_in_front, place_middle, place_within_front, split_of}
use Rattle.job_terms.proofs.SameJobs.{either_way, job_itself, job_same, job_decided}
use Rattle.world_laws.proofs.Fitting.{begin_is_dispatched}
use Rattle.world_laws.proofs.Traces.{event_within}
use Rattle.world_laws.proofs.Frame.{any_decided}

-- ---- events of a job

given_event : (event : TraceEvent) (job : JobId) (lane : ℕ) → event_of event ≡ Some (entry.Given job lane) → event ≡ Given job lane
given_event (Given j l) job lane e = cc
given_event (Came j l t) job lane e = cc
given_event (Begin l sent) job lane e = cc
given_event (Serve sent answer) job lane e = cc
given_event (External write) job lane e = cc

-- an event is the Given of a job or not
given_decided : (job : JobId) (event : TraceEvent) → ((lane : ℕ) × (event ≡ Given job lane)) ⊎ ((lane : ℕ) → event ≡ Given job lane → ⊥)
given_decided job (Given other l) = elim (job_decided other job) [
  | inl same ↦ inl (l, ap (λ j. Given j l) same)
  | inr apart ↦ inr (λ lane e. apart (job_of other job l lane e))
]
  where
    job_of : (j k : JobId) (l m : ℕ) → Given j l ≡ Given k m → j ≡ k
    job_of j k l m e = cc
given_decided job (Came other l t) = inr (λ lane e. clash e)
  where
    clash : {j k : JobId} {l m : ℕ} {t : List Mark} → Came j l t ≡ Given k m → ⊥
    clash e = cc
given_decided job (Begin l sent) = inr (λ lane e. clash e)
  where
    clash : {s : SentRequest} {k : JobId} {l m : ℕ} → Begin l s ≡ Given k m → ⊥
    clash e = cc
given_decided job (Serve sent answer) = inr (λ lane e. clash e)
  where
    clash : {s : SentRequest} {a : _} {k : JobId} {m : ℕ} → Serve s a ≡ Given k m → ⊥
    clash e = cc
given_decided job (External write) = inr (λ lane e. clash e)
  where
    clash : {w : _} {k : JobId} {m : ℕ} → External w ≡ Given k m → ⊥
    clash e = cc

-- no Given of the job is among them
abbrev NotGiven : JobId → List TraceEvent → Type 0
NotGiven job events = (lane : ℕ) → Has events (Given job lane) → ⊥

clash_begin : (s : SentRequest) (k : JobId) (l m : ℕ) → Begin l s ≡ Given k m → ⊥
clash_begin s k l m e = cc

module _ (job : JobId) where
  sum_none : (events : List TraceEvent) → ((event : TraceEvent) → Has events event → marks_come job event ≡ 0) → sum_by (marks_come job) events ≡ 0
  sum_none [] each = refl
  sum_none (event ∷ events) each = sum_by-cons (marks_come job) event events ∙ ap (λ n. n + sum_by (marks_come job) events) (each event (inl refl)) ∙ ap (λ n. 0 + n) (sum_none events (λ other h. each other (inr h)))

  one_more : (event : TraceEvent) (events : List TraceEvent) → count_by (is_begin_of job) (event ∷ events) ≡ cond (is_begin_of job event) 1 0 + count_by (is_begin_of job) events
  one_more event events = sum_by-cons (λ (x : TraceEvent). cond (is_begin_of job x) 1 0) event events

  count_some : (events : List TraceEvent) (lane : ℕ) (sent : SentRequest) → sent.job ≡ job → Has events (Begin lane sent) → 1 ≤ count_by (is_begin_of job) events
  count_some [] lane sent same h = absurd h
  count_some (event ∷ events) lane sent same (inl e) =
      let test : is_begin_of job event ≡ true = ap (is_begin_of job) e ∙ ap (is_job job) same ∙ job_itself job in
      let counted : count_by (is_begin_of job) (event ∷ events) ≡ 1 + count_by (is_begin_of job) events = one_more event events ∙ ap (λ b. cond b 1 0 + count_by (is_begin_of job) events) test in
      omega arith
  count_some (event ∷ events) lane sent same (inr h) =
      let rest = count_some events lane sent same h in
      let counted : count_by (is_begin_of job) (event ∷ events) ≡ cond (is_begin_of job event) 1 0 + count_by (is_begin_of job) events = one_more event events in
      omega arith

module _ {page : Option ℕ} (Shows : Ask → ℕ → Talk → Class → List ℕ → Type 0) (limits : Limits) (start : State) (trace : List Step) (dispatched : List Dispatched) (journal : List Event)
    (runs : IsTrace limits [] start trace) (fits : Fits Shows page (events_of trace) journal dispatched) (given : AreGiven journal dispatched) where
  -- the journal in two parts
  journal_is : (front rest : List TraceEvent) → events_of trace ≡ front ++ rest → journal ≡ filter_map event_of front ++ filter_map event_of rest
  journal_is front rest is = sym fits.moves ∙ ap (filter_map event_of) is ∙ filter_map-append event_of front rest

  -- what stands at a place of the first part
  in_front : (front rest : List TraceEvent) (place : ℕ) (event : Event) → events_of trace ≡ front ++ rest → place < length (filter_map event_of front) → slice_get journal place ≡ Some event
      → slice_get (filter_map event_of front) place ≡ Some event
  in_front front rest place event is inside at =
      place_within_front (filter_map event_of front) (filter_map event_of rest) place event inside (ap (λ (j : List Event). slice_get j place) (sym (journal_is front rest is)) ∙ at)

  -- the place in the journal of an event of the trace
  pub record HasPlace (front : List TraceEvent) (event : Event) : Type 0 where
    pub place : ℕ
    pub inside : place < length (filter_map event_of front)
    pub at : slice_get journal place ≡ Some event

  place_of_event : (front rest : List TraceEvent) (x : TraceEvent) (event : Event) → events_of trace ≡ front ++ rest → Has front x → event_of x ≡ Some event → HasPlace front event
  place_of_event front rest x event is h shows =
      let split = split_of front x h in
      let gives : filter_map event_of (x ∷ split.back) ≡ event ∷ filter_map event_of split.back = rw shows refl in
      let in_two : filter_map event_of front ≡ filter_map event_of split.front ++ event ∷ filter_map event_of split.back =
      ap (filter_map event_of) split.is ∙ filter_map-append event_of split.front (x ∷ split.back) ∙ ap (λ (j : List Event). filter_map event_of split.front ++ j) gives in
      let here : slice_get (filter_map event_of front) (length (filter_map event_of split.front)) ≡ Some event =
      ap (λ (j : List Event). slice_get j (length (filter_map event_of split.front))) in_two ∙ place_middle (filter_map event_of split.front) event (filter_map event_of split.back) in
      record {
        place = length (filter_map event_of split.front);
        inside = slice_get_within (filter_map event_of front) (length (filter_map event_of split.front)) event here;
        at = ap (λ (j : List Event). slice_get j (length (filter_map event_of split.front))) (journal_is front rest is)
            ∙ place_in_front (filter_map event_of front) (filter_map event_of rest) (length (filter_map event_of split.front)) event here;
      }

  -- the Given of a dispatch that stands at a place of the first part
  given_within : (front rest : List TraceEvent) (c : Dispatched) → events_of trace ≡ front ++ rest → Contains dispatched c → c.dispatch.given_at < length (filter_map event_of front) → Has front (Given c.dispatch.job c.dispatch.lane)
  given_within front rest c is known inside =
      let at = in_front front rest c.dispatch.given_at (entry.Given c.dispatch.job c.dispatch.lane) is inside (given.given c known) in
      let found = has_filtered event_of front (entry.Given c.dispatch.job c.dispatch.lane) (has_at (filter_map event_of front) c.dispatch.given_at (entry.Given c.dispatch.job c.dispatch.lane) at) in
      subst (Has front) (given_event found.0 c.dispatch.job c.dispatch.lane found.2) found.1

  module _ (job : JobId) where
    -- where a job was not given, none of it has come
    not_come : (front rest : List TraceEvent) → events_of trace ≡ front ++ rest → NotGiven job front → (other : JobId) (lane : ℕ) (tries : List Mark) → Has front (Came other lane tries) → job ≡ other → ⊥
    not_come front rest is never other lane tries h same =
        let at = place_of_event front rest (Came other lane tries) (entry.Came other lane tries) is h refl in
        let found = given.each_came at.place lane other tries at.at in
        let before = given.in_order found.0 at.place found.1 found.3 in
        let inside = at.inside in
        let there = given_within front rest found.0 is found.1 (omega arith) in
        never found.0.dispatch.lane (subst (λ j. Has front (Given j found.0.dispatch.lane)) (found.2 ∙ sym same) there)

    no_marks : (front rest : List TraceEvent) → events_of trace ≡ front ++ rest → NotGiven job front → (event : TraceEvent) → Has front event → marks_come job event ≡ 0
    no_marks front rest is never (Given other lane) h = refl
    no_marks front rest is never (Begin lane sent) h = refl
    no_marks front rest is never (Serve sent answer) h = refl
    no_marks front rest is never (External write) h = refl
    no_marks front rest is never (Came other lane tries) h = elim (either_way (is_job job other)) [
      | inl yes_ ↦ absurd (not_come front rest is never other lane tries h (job_same job other yes_))
      | inr no_ ↦ ap (λ b. cond b (length tries) 0) no_
    ]

    -- a job whose request has begun and that was not given is never given
    never_given : (rest front : List TraceEvent) (lane : ℕ) (sent : SentRequest) → events_of trace ≡ front ++ rest → NotGiven job front → sent.job ≡ job → Has front (Begin lane sent) → (other : ℕ) → Has rest (Given job other) → ⊥
    never_given [] front lane sent is never same begun other h = h
    never_given (event ∷ rest) front lane sent is never same begun other h = elim (given_decided job event) [
      | inl here ↦
          let counts = fits.since_given front rest job here.0 (is ∙ ap (λ (e : TraceEvent). front ++ e ∷ rest) here.1) in
          let none = sum_none job front (no_marks front (event ∷ rest) is never) in
          let some = count_some job front lane sent same begun in
          absurd (omega arith)
      | inr apart ↦
          never_given rest (front ++ event ∷ []) lane sent (is ∙ sym (append_assoc front (event ∷ []) rest)) (not_yet event front never apart) same (has-append_left front (event ∷ []) (Begin lane sent) begun) other
          (later event rest other apart h)
    ]
      where
        not_yet : (one : TraceEvent) (all : List TraceEvent) → NotGiven job all → ((l : ℕ) → one ≡ Given job l → ⊥) → NotGiven job (all ++ one ∷ [])
        not_yet one all none apart l g = elim (has-append_cases all (one ∷ []) (Given job l) g) [ inl a ↦ none l a | inr b ↦ elim b [ inl e ↦ apart l e | inr f ↦ f ] ]

        later : (one : TraceEvent) (all : List TraceEvent) (l : ℕ) → ((m : ℕ) → one ≡ Given job m → ⊥) → Has (one ∷ all) (Given job l) → Has all (Given job l)
        later one all l apart (inl e) = absurd (apart l e)
        later one all l apart (inr g) = g

    -- a request that begins is of a job that was given before
    begun_was_given : (front : List Step) (step : Step) (back : List Step) (lane : ℕ) (sent : SentRequest) → trace ≡ front ++ step ∷ back → step.event ≡ Begin lane sent → sent.job ≡ job
        → (other : ℕ) × Has (events_of front) (Given job other)
    begun_was_given front step back lane sent is is_event same =
        elim (any_decided (λ (event : TraceEvent). (other : ℕ) × (event ≡ Given job other)) (λ event. decided event) (events_of front)) [
          | inl found ↦ (found.2.0, subst (Has (events_of front)) found.2.1 found.1)
          | inr none ↦ absurd (contrary (λ other h. none (Given job other) h (other, refl)))
        ]
      where
        decided : (event : TraceEvent) → ((other : ℕ) × (event ≡ Given job other)) ⊎ ((other : ℕ) × (event ≡ Given job other) → ⊥)
        decided event = elim (given_decided job event) [ inl h ↦ inl h | inr h ↦ inr (λ g. h g.0 g.1) ]

        after : NotGiven job (events_of front) → events_of trace ≡ events_of front ++ step.event ∷ events_of back → (other : ℕ) → Has (step.event ∷ events_of back) (Given job other) → ⊥
        after never in_events other (inl e) = clash_begin sent job lane other (sym is_event ∙ e)
        after never in_events other (inr h) =
            never_given (events_of back) (events_of front ++ step.event ∷ []) lane sent (in_events ∙ sym (append_assoc (events_of front) (step.event ∷ []) (events_of back)))
            (λ l g. elim (has-append_cases (events_of front) (step.event ∷ []) (Given job l) g) [
              | inl a ↦ never l a
              | inr b ↦ elim b [ inl e ↦ clash_begin sent job lane l (sym is_event ∙ e) | inr f ↦ f ]
            ])
            same (has-append_right (events_of front) (step.event ∷ []) (Begin lane sent) (inl is_event)) other h

        contrary : NotGiven job (events_of front) → ⊥
        contrary never =
            let in_events : events_of trace ≡ events_of front ++ step.event ∷ events_of back = ap events_of is ∙ map-append (λ (s : Step). s.event) front (step ∷ back) in
            let begins : Has (events_of trace) (Begin lane sent) = subst (λ (event : TraceEvent). Has (events_of trace) event) is_event (subst (λ (t : List Step). Has (events_of t) step.event) (sym is) (event_within front step back)) in
            let of = begin_is_dispatched Shows limits start trace dispatched journal runs fits lane sent begins in
            let of_job : of.0.dispatch.job ≡ job = sym (ap (λ (r : SentRequest). r.job) of.2.is_sent) ∙ same in
            let at = given.given of.0 of.1 in
            let all : length journal ≡ length (filter_map event_of (events_of trace)) = ap length (sym fits.moves) in
            let inside = slice_get_within journal of.0.dispatch.given_at (entry.Given of.0.dispatch.job of.0.dispatch.lane) at in
            let there = given_within (events_of trace) [] of.0 (sym (append-nil (events_of trace))) of.1 (omega arith) in
            let of_given : Has (events_of front ++ step.event ∷ events_of back) (Given job of.0.dispatch.lane) =
            subst (λ (all : List TraceEvent). Has all (Given job of.0.dispatch.lane)) in_events (subst (λ j. Has (events_of trace) (Given j of.0.dispatch.lane)) of_job there) in
            elim (has-append_cases (events_of front) (step.event ∷ events_of back) (Given job of.0.dispatch.lane) of_given) [
              | inl a ↦ never of.0.dispatch.lane a
              | inr b ↦ after never in_events of.0.dispatch.lane b
            ]

  -- so its dispatch was given at a place that the journal has reached
  pub begun_is_after : (front : List Step) (step : Step) (back : List Step) (lane : ℕ) (sent : SentRequest) → trace ≡ front ++ step ∷ back → step.event ≡ Begin lane sent
      → (c : Dispatched) × Contains dispatched c × (c.dispatch.job ≡ sent.job) × (c.dispatch.given_at < length (filter_map event_of (events_of front)))
  begun_is_after front step back lane sent is is_event =
      let was = begun_was_given sent.job front step back lane sent is is_event refl in
      let in_events : events_of trace ≡ events_of front ++ step.event ∷ events_of back = ap events_of is ∙ map-append (λ (s : Step). s.event) front (step ∷ back) in
      let at = place_of_event (events_of front) (step.event ∷ events_of back) (Given sent.job was.0) (entry.Given sent.job was.0) in_events was.1 refl in
      let found = given.each_given at.place was.0 sent.job at.at in
      (found.0, found.1, found.2, subst (λ n. n < length (filter_map event_of (events_of front))) (sym found.3) at.inside)

  -- what came before a dispatch was given had come when one of its requests begins
  pub came_before : (c d : Dispatched) → HasCome journal c → IsBefore c.dispatch.came_at d.dispatch.given_at → (front rest : List TraceEvent) → events_of trace ≡ front ++ rest → d.dispatch.given_at < length (filter_map event_of front)
      → HasCome (filter_map event_of front) c
  came_before c d come before front rest is reached =
      let earlier : come.0 < d.dispatch.given_at = subst (λ (o : Option ℕ). IsBefore o d.dispatch.given_at) come.2 before in
      (come.0, come.1, come.2, in_front front rest come.0 (entry.Came c.dispatch.job c.dispatch.lane come.1) is (omega arith) come.3)

  -- a request of a job that is given only after another came begins only after that
  pub begins_after : (c : Dispatched) (job : JobId) → HasCome journal c → ((d : Dispatched) → Contains dispatched d → d.dispatch.job ≡ job → IsBefore c.dispatch.came_at d.dispatch.given_at)
      → (front : List Step) (step : Step) (back : List Step) (lane : ℕ) (sent : SentRequest) → trace ≡ front ++ step ∷ back → step.event ≡ Begin lane sent → sent.job ≡ job
      → HasCome (filter_map event_of (events_of front)) c
  begins_after c job come waits front step back lane sent is is_event same =
      let of = begun_is_after front step back lane sent is is_event in
      came_before c of.0 come (waits of.0 of.1 (of.2 ∙ same)) (events_of front) (step.event ∷ events_of back) (ap events_of is ∙ map-append (λ (s : Step). s.event) front (step ∷ back)) of.3
