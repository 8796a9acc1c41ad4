-- Of jobs that are carried, that each answer is one that a talk names follows from the other clauses of a trace.
use Rattle.std.proofs.Common.{◌≡◌, ◌∙◌, ◌+◌, ◌++◌, ◌==◌, ℕ, suc, true, cond, List, [], ◌∷◌, Some, None, refl, sym, ap, subst, inl, inr, AllPairs, Contains, filter, filter_map, slice_get, arith}
use Rattle.s3_model.specs.declared.answers.Class.{Class}
use Rattle.s3_model.specs.declared.answers.Class.TheVariants as class
use Rattle.s3_model.specs.declared.answers.Listed.{Listed}
use Rattle.s3_model.specs.declared.outcomes.Event.{Event}
use Rattle.s3_model.specs.declared.outcomes.Event.TheVariants as entry
use Rattle.s3_service.specs.Serves.{Answer}
use Rattle.job_terms.specs.Dispatches.{Attempt, Dispatched}
use Rattle.run_promise.specs.Fits.{IsAnswered, IsCertain, Names, request_at, requests_from, requests_of}
use Rattle.run_promise.specs.Traces.{SentRequest, Step, TraceEvent, Given, Begin, Serve, External, Came, IsSameAttempt, IsTrace, Steps, begun_in, event_of, events_of, served_in, state_after}
use Rattle.promise_examples.specs.Misfits.{before}
use Rattle.promise_examples.specs.Runs.{Example}
use Rattle.promise_examples.specs.TraceBreaks.{TraceClause, Moves, Begins, Once, Answers, Served, Runs, AnswersFollow, Carries, SaysOfTrace, Shows}
use Rattle.shared_lemmas.proofs.Members.{Has, contains_of, gathered, has, has-append_left, has-filter_map, kept, split_at}
use Rattle.world_laws.proofs.Fitting.{came_event}
use Rattle.world_laws.proofs.Traces.{begun_from, begun_through, event_of_whole, step_of, step_within}

-- ---- one answer for a request

abbrev Other : SentRequest → SentRequest → Type 0
Other a b = ¬ (IsSameAttempt a b)

behind : (x : SentRequest) (xs : List SentRequest) → AllPairs Other (x ∷ xs) → AllPairs Other xs
behind x xs once i j d lt within = once (suc i) (suc j) d (omega arith) (omega arith)

first_is_other : (x : SentRequest) (xs : List SentRequest) → AllPairs Other (x ∷ xs) → (y : SentRequest) → Has xs y → Other x y
first_is_other x xs once y h =
    let at = contains_of xs y h in
    let inside = at.1 in
    subst (λ (z : SentRequest). Other x z) at.2 (once 0 (suc at.0) y (omega arith) (omega (arith, inside)))

served_behind : (x : TraceEvent) (xs : List TraceEvent) → AllPairs Other (filter_map served_in (x ∷ xs)) → AllPairs Other (filter_map served_in xs)
served_behind (Serve sent answer) xs once = behind sent (filter_map served_in xs) once
served_behind (Given job lane) xs once = once
served_behind (Begin lane sent) xs once = once
served_behind (External write) xs once = once
served_behind (Came job lane tries) xs once = once

same_answer : (sent : SentRequest) (a b : Answer) → Serve sent a ≡ Serve sent b → a ≡ b
same_answer sent a b e = cc

not_again : (sent : SentRequest) (a b : Answer) (x : TraceEvent) (xs : List TraceEvent) → x ≡ Serve sent a → AllPairs Other (filter_map served_in (x ∷ xs)) → Has xs (Serve sent b) → ⊥
not_again sent a b x xs e once h =
    first_is_other sent (filter_map served_in xs) (subst (λ (y : TraceEvent). AllPairs Other (filter_map served_in (y ∷ xs))) e once) sent
    (has-filter_map served_in xs (Serve sent b) sent h refl) (refl, refl)

one_answer : (events : List TraceEvent) → AllPairs Other (filter_map served_in events) → (sent : SentRequest) (a b : Answer) → Has events (Serve sent a) → Has events (Serve sent b) → a ≡ b
one_answer [] once sent a b h g = absurd h
one_answer (x ∷ xs) once sent a b (inl e) (inl f) = same_answer sent a b (sym e ∙ f)
one_answer (x ∷ xs) once sent a b (inl e) (inr g) = absurd (not_again sent a b x xs e once g)
one_answer (x ∷ xs) once sent a b (inr h) (inl f) = absurd (not_again sent b a x xs f once h)
one_answer (x ∷ xs) once sent a b (inr h) (inr g) = one_answer xs (served_behind x xs once) sent a b h g

named_as : (shown : Class) (bytes : List ℕ) (a b : Answer) → a ≡ b → Names shown bytes a → Names shown bytes b
named_as shown bytes a b e named = subst (λ (said : Answer). Names shown bytes said) e named

-- ---- what began is an attempt of a dispatch

record IsAttemptOf (c : Dispatched) (k : ℕ) (attempts : List Attempt) (sent : SentRequest) : Type 0 where
  place : ℕ
  attempt : Attempt
  is_attempt : slice_get attempts place ≡ Some attempt
  is_sent : sent ≡ request_at c (k + place)

attempt_of : (c : Dispatched) (k : ℕ) (attempts : List Attempt) (sent : SentRequest) → Has (requests_from c k attempts) sent → IsAttemptOf c k attempts sent
attempt_of c k [] sent h = absurd h
attempt_of c k (attempt ∷ attempts) sent (inl e) =
    let here : k ≡ k + 0 = omega arith in
    record { place = 0; attempt = attempt; is_attempt = refl; is_sent = sym e ∙ ap (request_at c) here }
attempt_of c k (attempt ∷ attempts) sent (inr h) =
    let later = attempt_of c (k + 1) attempts sent h in
    let here : k + 1 + later.place ≡ k + suc later.place = omega arith in
    record { place = suc later.place; attempt = later.attempt; is_attempt = later.is_attempt; is_sent = later.is_sent ∙ ap (request_at c) here }

same_lane : (lane : ℕ) (sent : SentRequest) → begun_in lane (Begin lane sent) ≡ Some sent
same_lane lane sent = let same : (lane == lane) ≡ true = grind arith in ap (λ b. cond b (Some sent) None) same

moves_answers : Moves ≡ Answers → ⊥
moves_answers e = cc

begins_answers : Begins ≡ Answers → ⊥
begins_answers e = cc

once_answers : Once ≡ Answers → ⊥
once_answers e = cc

served_answers : Served ≡ Answers → ⊥
served_answers e = cc

runs_answers : Runs ≡ Answers → ⊥
runs_answers e = cc

module _ (page_of : List ℕ → Listed) (e : Example) (dispatched coming : List Dispatched) (trace : List Step) (carried : Carries page_of e dispatched coming)
    (all : (rule : TraceClause) → ¬ (rule ≡ Answers) → SaysOfTrace page_of e dispatched trace rule) where
  abbrev events : List TraceEvent
  events = events_of trace

  module _ (sent : SentRequest) (answer : Answer) (happened : Contains events (Serve sent answer)) where
    -- it began before
    began : (lane : ℕ) × Has events (Begin lane sent)
    began =
        let at = step_of trace (Serve sent answer) (has events (Serve sent answer) happened) in
        let step = step_within e.setting.limits at.front at.step at.back [] before (subst (λ (t : List Step). IsTrace e.setting.limits [] before t) at.is (all Runs runs_answers)) in
        let serves = subst (λ (event : TraceEvent). Steps e.setting.limits (begun_through [] at.front) (state_after before at.front) event at.step.state) at.is_event step in
        elim (begun_from at.front [] sent (has (begun_through [] at.front) sent serves.0)) [
          | inl none ↦ absurd none
          | inr some ↦ (some.0, subst (λ (t : List Step). Has (events_of t) (Begin some.0 sent)) (sym at.is) (event_of_whole at.front (at.step ∷ at.back) (Begin some.0 sent) some.1))
        ]

    -- so it is an attempt of a dispatch
    found : (c : Dispatched) × Contains dispatched c × IsAttemptOf c 0 c.dispatch.attempts sent
    found =
        let among = has-filter_map (begun_in began.0) events (Begin began.0 sent) sent began.1 (same_lane began.0 sent) in
        let of_lane = subst (λ (sents : List SentRequest). Has sents sent) (all Begins begins_answers began.0) among in
        let from = gathered requests_of (filter (λ (c : Dispatched). c.dispatch.lane == began.0) dispatched) sent of_lane in
        (from.0, contains_of dispatched from.0 (kept (λ (c : Dispatched). c.dispatch.lane == began.0) dispatched from.0 from.1), attempt_of from.0 0 from.0.dispatch.attempts sent from.2)

    is_sent : sent ≡ request_at found.0 found.2.place
    is_sent = let here : 0 + found.2.place ≡ found.2.place = omega arith in found.2.is_sent ∙ ap (request_at found.0) here

    -- where its talk is certain it was served as the talk says, and no second time
    certain : (shown : Class) (bytes : List ℕ) → Shows page_of found.0.ask found.0.limit found.2.attempt.talk shown bytes → IsCertain None found.0 shown → Names shown bytes answer
    certain shown bytes shows is_certain =
        let c = found.0 in
        let came = carried.comes c found.1 in
        let split = split_at event_of events came.0 (entry.Came c.dispatch.job c.dispatch.lane came.1)
        (subst (λ (journal : List Event). slice_get journal came.0 ≡ Some (entry.Came c.dispatch.job c.dispatch.lane came.1)) (sym (all Moves moves_answers)) came.3) in
        let is = came_event split.item c.dispatch.job c.dispatch.lane came.1 split.gives in
        let here = subst (λ (event : TraceEvent). events ≡ split.front ++ event ∷ split.back) is split.is in
        let served = all Served served_answers split.front split.back c.dispatch.job c.dispatch.lane came.1 c found.2.place found.2.attempt shown bytes here found.1 refl
        (came.2 ∙ ap Some (sym split.place)) found.2.is_attempt shows is_certain in
        let mine = subst (λ (r : SentRequest). Has events (Serve r answer)) is_sent (has events (Serve sent answer) happened) in
        let told = subst (λ (t : List TraceEvent). Has t (Serve (request_at c found.2.place) served.0)) (sym here)
        (has-append_left split.front (Came c.dispatch.job c.dispatch.lane came.1 ∷ split.back) (Serve (request_at c found.2.place) served.0) (has split.front (Serve (request_at c found.2.place) served.0) served.1)) in
        named_as shown bytes served.0 answer (one_answer events (all Once once_answers) (request_at c found.2.place) served.0 answer told mine) served.2

    answered : IsAnswered (Shows page_of) None dispatched sent answer
    answered = record {
      of = found.0;
      known = found.1;
      place = found.2.place;
      attempt = found.2.attempt;
      is_attempt = found.2.is_attempt;
      is_sent = is_sent;
      names = certain;
    }

pub answers_follow : (page_of : List ℕ → Listed) → AnswersFollow page_of
answers_follow page_of e dispatched coming trace carried all sent answer happened = answered page_of e dispatched coming trace carried all sent answer happened
