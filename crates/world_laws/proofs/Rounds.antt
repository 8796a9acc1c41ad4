-- Rounds with jobs of their own make a trace that fits.
use Rattle.std.proofs.Common.{append_assoc, ◌≡◌, ◌∙◌, ◌+◌, ◌==◌, ◌≤◌, ℕ, zero, suc, Bool, true, false, cond, List, [], ◌∷◌, ◌++◌, Option, Some, None, refl, sym, ap, subst, inl, inr, AllPairs, get_or, length, filter, filter_map, slice_get, arith}
use Rattle.std.specs.Prelude.{flat_map, sum_by, count_by}
use Rattle.std.proofs.lemmas.List.{length-append}
use Rattle.std.proofs.lemmas.List.Elements.{Contains-get_or}
use Rattle.std.proofs.lemmas.List.Kept.{AllPairs-cons}
use Rattle.std.proofs.lemmas.List.Sums.{sum_by-cons}
use Rattle.std.proofs.lemmas.Option.{slice_get_within}
use Rattle.s3_model.specs.declared.requests.Ask.{Ask}
use Rattle.s3_model.specs.declared.answers.Reply.{Reply}
use Rattle.s3_model.specs.declared.answers.Reply.TheVariants as reply
use Rattle.s3_model.specs.Replies.{IsSameReply}
use Rattle.s3_model.specs.declared.answers.Class.{Class}
use Rattle.s3_model.specs.declared.outcomes.JobId.{JobId}
use Rattle.s3_model.specs.declared.outcomes.Event.{Event}
use Rattle.s3_model.specs.declared.outcomes.Event.TheVariants as entry
use Rattle.s3_model.specs.declared.settings.Limits.{Limits}
use Rattle.s3_model.specs.declared.tries.Mark.{Mark}
use Rattle.s3_service.specs.ServiceState.{State}
use Rattle.s3_service.specs.Serves.{Answer}
use Rattle.job_terms.specs.Dispatches.{Attempt, Dispatched}
use Rattle.job_terms.specs.Jobs.{is_job}
use Rattle.run_promise.specs.Traces.{SentRequest, TraceEvent, Given, Begin, Serve, Came, IsTrace, IsSameAttempt, events_of, event_of, begun_in, served_in, is_begin_of, marks_come}
use Rattle.run_promise.specs.Fits.{Fits, Names, request_at, requests_of}
use Rattle.shared_lemmas.proofs.Clashes.{some_is}
use Rattle.shared_lemmas.proofs.Lists.{head_is, tail_is}
use Rattle.shared_lemmas.proofs.Members.{contains_of, Has, has, has_middle, place_middle}
use Rattle.world_laws.specs.Premises.{AreGiven, HasCome}
use Rattle.world_laws.specs.Rounds.{reply_to, Told, Round, answer_by, mark_by, ending_by, attempt_of, dispatch_at, dispatched_from, journal_of, steps_from, AreServed}
use Rattle.job_terms.proofs.SameJobs.{job_itself}

-- ---- events that differ

given_came : {j k : JobId} {l m : ℕ} {t : List Mark} → Given j l ≡ Came k m t → ⊥
given_came e = cc

begin_came : {s : SentRequest} {k : JobId} {l m : ℕ} {t : List Mark} → Begin l s ≡ Came k m t → ⊥
begin_came e = cc

serve_came : {s : SentRequest} {a : Answer} {k : JobId} {m : ℕ} {t : List Mark} → Serve s a ≡ Came k m t → ⊥
serve_came e = cc

begin_given : {s : SentRequest} {k : JobId} {l m : ℕ} → Begin l s ≡ Given k m → ⊥
begin_given e = cc

serve_given : {s : SentRequest} {a : Answer} {k : JobId} {m : ℕ} → Serve s a ≡ Given k m → ⊥
serve_given e = cc

begin_serve : {s u : SentRequest} {a : Answer} {l : ℕ} → Begin l s ≡ Serve u a → ⊥
begin_serve e = cc

came_job : {j k : JobId} {l m : ℕ} {t u : List Mark} → Came j l t ≡ Came k m u → j ≡ k
came_job e = cc

came_tries : {j k : JobId} {l m : ℕ} {t u : List Mark} → Came j l t ≡ Came k m u → t ≡ u
came_tries e = cc

serve_sent : {s t : SentRequest} {a b : Answer} → Serve s a ≡ Serve t b → s ≡ t
serve_sent e = cc

serve_answer : {s t : SentRequest} {a b : Answer} → Serve s a ≡ Serve t b → a ≡ b
serve_answer e = cc

empty_is : (front : List TraceEvent) (x : TraceEvent) (back : List TraceEvent) → [] ≡ front ++ x ∷ back → ⊥
empty_is [] x back e = cc
empty_is (a ∷ front) x back e = cc

-- ---- jobs of their own

abbrev pub AreApart : List Round → Type 0
AreApart [] = Unit {0}
AreApart (r ∷ rounds) = ((other : Round) → Has rounds other → r.job ≡ other.job → ⊥) × AreApart rounds

-- the rounds of the dispatches
pub round_of : (rounds : List Round) (place : ℕ) (c : Dispatched) → Has (dispatched_from place rounds) c → (r : Round) × (at : ℕ) × Has rounds r × (dispatch_at at r ≡ c)
round_of [] place c h = absurd h
round_of (r ∷ rounds) place c (inl e) = (r, place, inl refl, e)
round_of (r ∷ rounds) place c (inr h) = let rest = round_of rounds (place + 2) c h in (rest.0, rest.1, inr rest.2, rest.3)

-- ---- the trace

pub rounds_trace : (limits : Limits) (rounds : List Round) (place : ℕ) (begun : List SentRequest) (old : State) → AreServed limits old rounds → IsTrace limits begun old (steps_from place old rounds)
rounds_trace limits [] place begun old served = tt
rounds_trace limits (r ∷ rounds) place begun old served =
    (refl, (refl, (((0, omega arith, refl), served.0), (refl, rounds_trace limits rounds (place + 2) (request_at (dispatch_at place r) 0 ∷ begun) r.after served.1))))

moves : (rounds : List Round) (place : ℕ) (old : State) → filter_map event_of (events_of (steps_from place old rounds)) ≡ journal_of rounds
moves [] place old = refl
moves (r ∷ rounds) place old = ap (λ (j : List Event). entry.Given r.job 0 ∷ entry.Came r.job 0 (mark_by r.refused ∷ []) ∷ j) (moves rounds (place + 2) r.after)

begins : (lane : ℕ) (rounds : List Round) (place : ℕ) (old : State)
    → filter_map (begun_in lane) (events_of (steps_from place old rounds)) ≡ flat_map requests_of (filter (λ (c : Dispatched). c.dispatch.lane == lane) (dispatched_from place rounds))
begins lane [] place old = refl
begins zero (r ∷ rounds) place old = ap (λ (all : List SentRequest). request_at (dispatch_at place r) 0 ∷ all) (begins zero rounds (place + 2) r.after)
begins (suc lane) (r ∷ rounds) place old =
    let a : (suc lane == 0) ≡ false = grind arith in
    let b : (0 == suc lane) ≡ false = grind arith in
    rw (a, b) (begins (suc lane) rounds (place + 2) r.after)

-- ---- counts

four : (f : TraceEvent → ℕ) (a b c d : TraceEvent) (rest : List TraceEvent) → sum_by f (a ∷ b ∷ c ∷ d ∷ rest) ≡ f a + (f b + (f c + (f d + sum_by f rest)))
four f a b c d rest =
    sum_by-cons f a (b ∷ c ∷ d ∷ rest) ∙ ap (λ n. f a + n) (sum_by-cons f b (c ∷ d ∷ rest) ∙ ap (λ n. f b + n) (sum_by-cons f c (d ∷ rest) ∙ ap (λ n. f c + n) (sum_by-cons f d rest)))

-- a round adds as many begins as marks
evened : (job : JobId) (r : Round) (place : ℕ) (front : List TraceEvent) (a b c d : TraceEvent) → a ≡ Given r.job 0 → b ≡ Begin 0 (request_at (dispatch_at place r) 0)
    → c ≡ Serve (request_at (dispatch_at place r) 0) (answer_by r.refused r.ask r.got r.size) → d ≡ Came r.job 0 (mark_by r.refused ∷ [])
    → (n : ℕ) → count_by (is_begin_of job) front ≡ sum_by (marks_come job) front + n → count_by (is_begin_of job) (a ∷ b ∷ c ∷ d ∷ front) ≡ sum_by (marks_come job) (a ∷ b ∷ c ∷ d ∷ front) + n
evened job r place front a b c d ea eb ec ed n same =
    let count : count_by (is_begin_of job) (a ∷ b ∷ c ∷ d ∷ front)
    ≡ cond {A = ℕ} (is_begin_of job a) 1 0 + (cond {A = ℕ} (is_begin_of job b) 1 0 + (cond {A = ℕ} (is_begin_of job c) 1 0 + (cond {A = ℕ} (is_begin_of job d) 1 0 + count_by (is_begin_of job) front))) =
    four (λ (x : TraceEvent). cond {A = ℕ} (is_begin_of job x) 1 0) a b c d front in
    let sum : sum_by (marks_come job) (a ∷ b ∷ c ∷ d ∷ front) ≡ marks_come job a + (marks_come job b + (marks_come job c + (marks_come job d + sum_by (marks_come job) front))) =
    four (marks_come job) a b c d front in
    let a1 : cond {A = ℕ} (is_begin_of job a) 1 0 ≡ 0 = ap (λ (e : TraceEvent). cond {A = ℕ} (is_begin_of job e) 1 0) ea in
    let b1 : cond {A = ℕ} (is_begin_of job b) 1 0 ≡ cond {A = ℕ} (is_job job r.job) 1 0 = ap (λ (e : TraceEvent). cond {A = ℕ} (is_begin_of job e) 1 0) eb in
    let c1 : cond {A = ℕ} (is_begin_of job c) 1 0 ≡ 0 = ap (λ (e : TraceEvent). cond {A = ℕ} (is_begin_of job e) 1 0) ec in
    let d1 : cond {A = ℕ} (is_begin_of job d) 1 0 ≡ 0 = ap (λ (e : TraceEvent). cond {A = ℕ} (is_begin_of job e) 1 0) ed in
    let a2 : marks_come job a ≡ 0 = ap (marks_come job) ea in
    let b2 : marks_come job b ≡ 0 = ap (marks_come job) eb in
    let c2 : marks_come job c ≡ 0 = ap (marks_come job) ec in
    let d2 : marks_come job d ≡ cond {A = ℕ} (is_job job r.job) 1 0 = ap (marks_come job) ed in
    omega arith

since_given : (rounds : List Round) (place : ℕ) (old : State) (front back : List TraceEvent) (job : JobId) (lane : ℕ) → events_of (steps_from place old rounds) ≡ front ++ Given job lane ∷ back
    → count_by (is_begin_of job) front ≡ sum_by (marks_come job) front + 0
since_given [] place old front back job lane e = absurd (empty_is front _ back e)
since_given (r ∷ rounds) place old [] back job lane e = omega arith
since_given (r ∷ rounds) place old (a ∷ []) back job lane e = absurd (begin_given (head_is _ _ _ _ (tail_is _ _ _ _ e)))
since_given (r ∷ rounds) place old (a ∷ b ∷ []) back job lane e = absurd (serve_given (head_is _ _ _ _ (tail_is _ _ _ _ (tail_is _ _ _ _ e))))
since_given (r ∷ rounds) place old (a ∷ b ∷ c ∷ []) back job lane e = absurd (given_came (sym (head_is _ _ _ _ (tail_is _ _ _ _ (tail_is _ _ _ _ (tail_is _ _ _ _ e))))))
since_given (r ∷ rounds) place old (a ∷ b ∷ c ∷ d ∷ front) back job lane e =
    let second = tail_is _ _ _ _ e in
    let third = tail_is _ _ _ _ second in
    let fourth = tail_is _ _ _ _ third in
    evened job r place front a b c d (sym (head_is _ _ _ _ e)) (sym (head_is _ _ _ _ second)) (sym (head_is _ _ _ _ third)) (sym (head_is _ _ _ _ fourth)) 0
    (since_given rounds (place + 2) r.after front back job lane (tail_is _ _ _ _ fourth))

until_came : (rounds : List Round) (place : ℕ) (old : State) (front back : List TraceEvent) (job : JobId) (lane : ℕ) (tries : List Mark) → events_of (steps_from place old rounds) ≡ front ++ Came job lane tries ∷ back
    → count_by (is_begin_of job) front ≡ sum_by (marks_come job) front + length tries
until_came [] place old front back job lane tries e = absurd (empty_is front _ back e)
until_came (r ∷ rounds) place old [] back job lane tries e = absurd (given_came (head_is _ _ _ _ e))
until_came (r ∷ rounds) place old (a ∷ []) back job lane tries e = absurd (begin_came (head_is _ _ _ _ (tail_is _ _ _ _ e)))
until_came (r ∷ rounds) place old (a ∷ b ∷ []) back job lane tries e = absurd (serve_came (head_is _ _ _ _ (tail_is _ _ _ _ (tail_is _ _ _ _ e))))
until_came (r ∷ rounds) place old (a ∷ b ∷ c ∷ []) back job lane tries e =
    let second = tail_is _ _ _ _ e in
    let third = tail_is _ _ _ _ second in
    let last = head_is _ _ _ _ (tail_is _ _ _ _ third) in
    let same : r.job ≡ job = came_job last in
    let one : length tries ≡ 1 = ap length (sym (came_tries last)) in
    let test : is_job job r.job ≡ true = ap (is_job job) same ∙ job_itself job in
    let first_is : a ≡ Given r.job 0 = sym (head_is _ _ _ _ e) in
    let second_is : b ≡ Begin 0 (request_at (dispatch_at place r) 0) = sym (head_is _ _ _ _ second) in
    let third_is : c ≡ Serve (request_at (dispatch_at place r) 0) (answer_by r.refused r.ask r.got r.size) = sym (head_is _ _ _ _ third) in
    let counted = four_three job a b c in
    let a1 : cond {A = ℕ} (is_begin_of job a) 1 0 ≡ 0 = ap (λ (x : TraceEvent). cond {A = ℕ} (is_begin_of job x) 1 0) first_is in
    let b1 : cond {A = ℕ} (is_begin_of job b) 1 0 ≡ 1 = ap (λ (x : TraceEvent). cond {A = ℕ} (is_begin_of job x) 1 0) second_is ∙ ap (λ t. cond {A = ℕ} t 1 0) test in
    let c1 : cond {A = ℕ} (is_begin_of job c) 1 0 ≡ 0 = ap (λ (x : TraceEvent). cond {A = ℕ} (is_begin_of job x) 1 0) third_is in
    let a2 : marks_come job a ≡ 0 = ap (marks_come job) first_is in
    let b2 : marks_come job b ≡ 0 = ap (marks_come job) second_is in
    let c2 : marks_come job c ≡ 0 = ap (marks_come job) third_is in
    omega arith
  where
    four_three : (j : JobId) (x y z : TraceEvent) → (count_by (is_begin_of j) (x ∷ y ∷ z ∷ []) ≡ cond {A = ℕ} (is_begin_of j x) 1 0 + (cond {A = ℕ} (is_begin_of j y) 1 0 + cond {A = ℕ} (is_begin_of j z) 1 0))
        × (sum_by (marks_come j) (x ∷ y ∷ z ∷ []) ≡ marks_come j x + (marks_come j y + marks_come j z))
    four_three j x y z = (omega arith, omega arith)
until_came (r ∷ rounds) place old (a ∷ b ∷ c ∷ d ∷ front) back job lane tries e =
    let second = tail_is _ _ _ _ e in
    let third = tail_is _ _ _ _ second in
    let fourth = tail_is _ _ _ _ third in
    evened job r place front a b c d (sym (head_is _ _ _ _ e)) (sym (head_is _ _ _ _ second)) (sym (head_is _ _ _ _ third)) (sym (head_is _ _ _ _ fourth)) (length tries)
    (until_came rounds (place + 2) r.after front back job lane tries (tail_is _ _ _ _ fourth))

-- ---- what is served

-- each served request is that of a round, with its answer
pub record IsOfRound (rounds : List Round) (place : ℕ) (sent : SentRequest) (answer : Answer) : Type 0 where
  pub round : Round
  pub among : Has rounds round
  pub at : ℕ
  pub known : Has (dispatched_from place rounds) (dispatch_at at round)
  pub is_sent : sent ≡ request_at (dispatch_at at round) 0
  pub is_answer : answer ≡ answer_by round.refused round.ask round.got round.size

served_is : (rounds : List Round) (place : ℕ) (old : State) (sent : SentRequest) (answer : Answer) → Has (events_of (steps_from place old rounds)) (Serve sent answer) → IsOfRound rounds place sent answer
served_is [] place old sent answer h = absurd h
served_is (r ∷ rounds) place old sent answer (inl e) = absurd (serve_given (sym e))
served_is (r ∷ rounds) place old sent answer (inr (inl e)) = absurd (begin_serve e)
served_is (r ∷ rounds) place old sent answer (inr (inr (inl e))) =
    record { round = r; among = inl refl; at = place; known = inl refl; is_sent = sym (serve_sent e); is_answer = sym (serve_answer e) }
served_is (r ∷ rounds) place old sent answer (inr (inr (inr (inl e)))) = absurd (serve_came (sym e))
served_is (r ∷ rounds) place old sent answer (inr (inr (inr (inr h)))) =
    let rest = served_is rounds (place + 2) r.after sent answer h in
    record { round = rest.round; among = inr rest.among; at = rest.at; known = inr rest.known; is_sent = rest.is_sent; is_answer = rest.is_answer }

-- a reply is the same as itself
pub same_reply : (a : Reply) → IsSameReply a a
same_reply (reply.Listed page) = (refl, refl, refl, refl)
same_reply (reply.BucketList buckets) = refl
same_reply a = refl

-- the talk of a round names its answer
names_answer : (refused : Bool) (asked : Ask) (got : List ℕ) (size : ℕ) (shown : Class) (bytes : List ℕ) (answer : Answer)
    → Told asked 0 (record { host = []; port = size; sent = []; got = got; ending = ending_by refused }) shown bytes → answer ≡ answer_by refused asked got size → Names shown bytes answer
names_answer true asked got size shown bytes answer told is = rw told.0 is
names_answer false asked got size shown bytes answer told is = rw (told.0, told.1) (reply_to asked got size, same_reply (reply_to asked got size), is)

-- ---- each is served once

sent_by : (rounds : List Round) (place : ℕ) (old : State) (sent : SentRequest) → Has (filter_map served_in (events_of (steps_from place old rounds))) sent → (r : Round) × Has rounds r × (sent.job ≡ r.job)
sent_by [] place old sent h = absurd h
sent_by (r ∷ rounds) place old sent (inl e) = (r, inl refl, sym (ap (λ (s : SentRequest). s.job) e))
sent_by (r ∷ rounds) place old sent (inr h) = let rest = sent_by rounds (place + 2) r.after sent h in (rest.0, inr rest.1, rest.2)

abbrev IsOther : SentRequest → SentRequest → Type 0
IsOther a b = IsSameAttempt a b → ⊥

once : (rounds : List Round) (place : ℕ) (old : State) → AreApart rounds → AllPairs IsOther (filter_map served_in (events_of (steps_from place old rounds)))
once [] place old apart = λ i j d before inside. absurd (omega arith)
once (r ∷ rounds) place old apart =
    AllPairs-cons IsOther (request_at (dispatch_at place r) 0) (filter_map served_in (events_of (steps_from (place + 2) r.after rounds)))
    (λ k d inside.
    let later = filter_map served_in (events_of (steps_from (place + 2) r.after rounds)) in
    let found = sent_by rounds (place + 2) r.after (get_or later k d) (has later (get_or later k d) (Contains-get_or later k d inside)) in
    λ same. apart.0 found.0 found.1 (same.0 ∙ found.2))
    (once rounds (place + 2) r.after apart.1)

abbrev GoesOn : Dispatched → Dispatched → Type 0
GoesOn a b = a.dispatch.job ≡ b.dispatch.job → a.dispatch.earlier + length a.dispatch.attempts ≤ b.dispatch.earlier

pub rounds_numbered : (rounds : List Round) (place : ℕ) → AreApart rounds → AllPairs GoesOn (dispatched_from place rounds)
rounds_numbered [] place apart = λ i j d before inside. absurd (omega arith)
rounds_numbered (r ∷ rounds) place apart =
    AllPairs-cons GoesOn (dispatch_at place r) (dispatched_from (place + 2) rounds)
    (λ k d inside.
    let later = dispatched_from (place + 2) rounds in
    let found = round_of rounds (place + 2) (get_or later k d) (has later (get_or later k d) (Contains-get_or later k d inside)) in
    λ same. absurd (apart.0 found.0 found.2 (same ∙ sym (ap (λ (c : Dispatched). c.dispatch.job) found.3))))
    (rounds_numbered rounds (place + 2) apart.1)

-- ---- served before it comes

came_is : (rounds : List Round) (place : ℕ) (old : State) (job : JobId) (lane : ℕ) (tries : List Mark) → Has (events_of (steps_from place old rounds)) (Came job lane tries) → (r : Round) × Has rounds r × (r.job ≡ job)
came_is [] place old job lane tries h = absurd h
came_is (r ∷ rounds) place old job lane tries (inl e) = absurd (given_came e)
came_is (r ∷ rounds) place old job lane tries (inr (inl e)) = absurd (begin_came e)
came_is (r ∷ rounds) place old job lane tries (inr (inr (inl e))) = absurd (serve_came e)
came_is (r ∷ rounds) place old job lane tries (inr (inr (inr (inl e)))) = (r, inl refl, came_job e)
came_is (r ∷ rounds) place old job lane tries (inr (inr (inr (inr h)))) = let rest = came_is rounds (place + 2) r.after job lane tries h in (rest.0, inr rest.1, rest.2)

pub first_attempt : (r : Round) (k : ℕ) (attempt : Attempt) → slice_get (attempt_of r ∷ []) k ≡ Some attempt → k ≡ 0
first_attempt r k attempt e = let inside = slice_get_within (attempt_of r ∷ []) k attempt e in omega arith

-- a request of a dispatch that was served, by its round
pub record IsServedBy (front : List TraceEvent) (c : Dispatched) (k : ℕ) : Type 0 where
  pub round : Round
  pub at : ℕ
  pub is : dispatch_at at round ≡ c
  pub served : Has front (Serve (request_at c k) (answer_by round.refused round.ask round.got round.size))

later_served : (a b d f : TraceEvent) (front : List TraceEvent) (c : Dispatched) (k : ℕ) → IsServedBy front c k → IsServedBy (a ∷ b ∷ d ∷ f ∷ front) c k
later_served a b d f front c k s = record { round = s.round; at = s.at; is = s.is; served = inr (inr (inr (inr s.served))) }

served_before : (rounds : List Round) (place : ℕ) (old : State) (front back : List TraceEvent) (job : JobId) (lane : ℕ) (tries : List Mark) (c : Dispatched) → AreApart rounds
    → events_of (steps_from place old rounds) ≡ front ++ Came job lane tries ∷ back → Has (dispatched_from place rounds) c → c.dispatch.job ≡ job
    → (k : ℕ) (attempt : Attempt) → slice_get c.dispatch.attempts k ≡ Some attempt → IsServedBy front c k
served_before [] place old front back job lane tries c apart e known same k attempt slot = absurd known
served_before (r ∷ rounds) place old [] back job lane tries c apart e known same k attempt slot = absurd (given_came (head_is _ _ _ _ e))
served_before (r ∷ rounds) place old (a ∷ []) back job lane tries c apart e known same k attempt slot = absurd (begin_came (head_is _ _ _ _ (tail_is _ _ _ _ e)))
served_before (r ∷ rounds) place old (a ∷ b ∷ []) back job lane tries c apart e known same k attempt slot = absurd (serve_came (head_is _ _ _ _ (tail_is _ _ _ _ (tail_is _ _ _ _ e))))
served_before (r ∷ rounds) place old (a ∷ b ∷ d ∷ []) back job lane tries c apart e (inl here) same k attempt slot =
    let third = head_is _ _ _ _ (tail_is _ _ _ _ (tail_is _ _ _ _ e)) in
    let first : k ≡ 0 = first_attempt r k attempt (subst (λ (x : Dispatched). slice_get x.dispatch.attempts k ≡ Some attempt) (sym here) slot) in
    let sent : request_at (dispatch_at place r) 0 ≡ request_at c k = ap (λ (x : Dispatched). request_at x 0) here ∙ ap (request_at c) (sym first) in
    record {
      round = r;
      at = place;
      is = here;
      served = inr (inr (inl (sym third ∙ ap (λ (s : SentRequest). Serve s (answer_by r.refused r.ask r.got r.size)) sent)));
    }
served_before (r ∷ rounds) place old (a ∷ b ∷ d ∷ []) back job lane tries c apart e (inr later) same k attempt slot =
    let found = round_of rounds (place + 2) c later in
    let last = head_is _ _ _ _ (tail_is _ _ _ _ (tail_is _ _ _ _ (tail_is _ _ _ _ e))) in
    absurd (apart.0 found.0 found.2 (came_job last ∙ sym same ∙ sym (ap (λ (x : Dispatched). x.dispatch.job) found.3)))
served_before (r ∷ rounds) place old (a ∷ b ∷ d ∷ f ∷ front) back job lane tries c apart e (inl here) same k attempt slot =
    let rest = tail_is _ _ _ _ (tail_is _ _ _ _ (tail_is _ _ _ _ (tail_is _ _ _ _ e))) in
    let found = came_is rounds (place + 2) r.after job lane tries (subst (λ (all : List TraceEvent). Has all (Came job lane tries)) (sym rest) (has_middle front (Came job lane tries) back)) in
    absurd (apart.0 found.0 found.1 (ap (λ (x : Dispatched). x.dispatch.job) here ∙ same ∙ sym found.2))
served_before (r ∷ rounds) place old (a ∷ b ∷ d ∷ f ∷ front) back job lane tries c apart e (inr later) same k attempt slot =
    later_served a b d f front c k
    (served_before rounds (place + 2) r.after front back job lane tries c apart.1 (tail_is _ _ _ _ (tail_is _ _ _ _ (tail_is _ _ _ _ (tail_is _ _ _ _ e)))) later same k attempt slot)

-- and its answer is the one that its talk names
named_by : (c : Dispatched) (r : Round) (at : ℕ) → dispatch_at at r ≡ c → (k : ℕ) (attempt : Attempt) (shown : Class) (bytes : List ℕ) → slice_get c.dispatch.attempts k ≡ Some attempt → Told c.ask c.limit attempt.talk shown bytes
    → Names shown bytes (answer_by r.refused r.ask r.got r.size)
named_by c r at is k attempt shown bytes slot told =
    let slot_here : slice_get (attempt_of r ∷ []) k ≡ Some attempt = subst (λ (d : Dispatched). slice_get d.dispatch.attempts k ≡ Some attempt) (sym is) slot in
    let first : k ≡ 0 = first_attempt r k attempt slot_here in
    let only : attempt_of r ≡ attempt = some_is (attempt_of r) attempt (ap (slice_get (attempt_of r ∷ [])) (sym first) ∙ slot_here) in
    names_answer r.refused r.ask r.got r.size shown bytes (answer_by r.refused r.ask r.got r.size)
    (subst (λ (a : Attempt). Told r.ask 0 a.talk shown bytes) (sym only) (subst (λ (d : Dispatched). Told d.ask d.limit attempt.talk shown bytes) (sym is) told)) refl

-- ---- places of the journal

pub record StandsAt (journal : List Event) (c : Dispatched) : Type 0 where
  pub given : slice_get journal c.dispatch.given_at ≡ Some (entry.Given c.dispatch.job c.dispatch.lane)
  pub tries : List Mark
  pub comes : c.dispatch.came_at ≡ Some (c.dispatch.given_at + 1)
  pub came : slice_get journal (c.dispatch.given_at + 1) ≡ Some (entry.Came c.dispatch.job c.dispatch.lane tries)
  pub counted : length tries ≡ length c.dispatch.attempts

pub stands_at : (rounds : List Round) (place : ℕ) (front : List Event) (c : Dispatched) → length front ≡ place → Has (dispatched_from place rounds) c → StandsAt (front ++ journal_of rounds) c
stands_at [] place front c long h = absurd h
stands_at (r ∷ rounds) place front c long (inl here) = subst (StandsAt (front ++ journal_of (r ∷ rounds))) here (record {
  given = ap (slice_get (front ++ journal_of (r ∷ rounds))) (sym long) ∙ place_middle front (entry.Given r.job 0) (entry.Came r.job 0 (mark_by r.refused ∷ []) ∷ journal_of rounds);
  tries = mark_by r.refused ∷ [];
  comes = refl;
  counted = refl;
  came = ap (slice_get (front ++ journal_of (r ∷ rounds))) (sym one_on) ∙ ap (λ (j : List Event). slice_get j (length (front ++ entry.Given r.job 0 ∷ []))) (sym (append_assoc front (entry.Given r.job 0 ∷ []) (entry.Came r.job 0 (mark_by r.refused ∷ []) ∷ journal_of rounds)))
      ∙ place_middle (front ++ entry.Given r.job 0 ∷ []) (entry.Came r.job 0 (mark_by r.refused ∷ [])) (journal_of rounds);
})
  where
    one_on : length (front ++ entry.Given r.job 0 ∷ []) ≡ place + 1
    one_on = length-append front (entry.Given r.job 0 ∷ []) ∙ ap (λ n. n + 1) long
stands_at (r ∷ rounds) place front c long (inr later) =
    subst (λ (j : List Event). StandsAt j c) (append_assoc front (entry.Given r.job 0 ∷ entry.Came r.job 0 (mark_by r.refused ∷ []) ∷ []) (journal_of rounds))
    (stands_at rounds (place + 2) (front ++ entry.Given r.job 0 ∷ entry.Came r.job 0 (mark_by r.refused ∷ []) ∷ []) c
    (length-append front (entry.Given r.job 0 ∷ entry.Came r.job 0 (mark_by r.refused ∷ []) ∷ []) ∙ ap (λ n. n + 2) long) later)

given_is : {j k : JobId} {l m : ℕ} → Some (entry.Given j l) ≡ Some (entry.Given k m) → j ≡ k
given_is e = cc

came_entry : {j k : JobId} {l m : ℕ} {t u : List Mark} → Some (entry.Came j l t) ≡ Some (entry.Came k m u) → j ≡ k
came_entry e = cc

given_not_came : {j k : JobId} {l m : ℕ} {t : List Mark} → Some (entry.Given j l) ≡ Some (entry.Came k m t) → ⊥
given_not_came e = cc

nothing_there : {event : Event} → ◌≡◌ {A = Option Event} None (Some event) → ⊥
nothing_there e = cc

each_given : (rounds : List Round) (place k lane : ℕ) (job : JobId) → slice_get (journal_of rounds) k ≡ Some (entry.Given job lane)
    → (c : Dispatched) × Has (dispatched_from place rounds) c × (c.dispatch.job ≡ job) × (c.dispatch.given_at ≡ place + k)
each_given [] place k lane job e = absurd (nothing_there e)
each_given (r ∷ rounds) place zero lane job e = (dispatch_at place r, inl refl, given_is e, omega arith)
each_given (r ∷ rounds) place (suc zero) lane job e = absurd (given_not_came (sym e))
each_given (r ∷ rounds) place (suc (suc k)) lane job e =
    let rest = each_given rounds (place + 2) k lane job e in
    (rest.0, inr rest.1, rest.2, rest.3 ∙ omega arith)

each_came : (rounds : List Round) (place k lane : ℕ) (job : JobId) (tries : List Mark) → slice_get (journal_of rounds) k ≡ Some (entry.Came job lane tries)
    → (c : Dispatched) × Has (dispatched_from place rounds) c × (c.dispatch.job ≡ job) × (c.dispatch.came_at ≡ Some (place + k))
each_came [] place k lane job tries e = absurd (nothing_there e)
each_came (r ∷ rounds) place zero lane job tries e = absurd (given_not_came e)
each_came (r ∷ rounds) place (suc zero) lane job tries e = (dispatch_at place r, inl refl, came_entry e, refl)
each_came (r ∷ rounds) place (suc (suc k)) lane job tries e =
    let rest = each_came rounds (place + 2) k lane job tries e in
    (rest.0, inr rest.1, rest.2, rest.3 ∙ ap Some (omega arith))

-- ---- they fit

module _ (rounds : List Round) (start : State) (apart : AreApart rounds) where
  pub rounds_fit : Fits Told None (events_of (steps_from 0 start rounds)) (journal_of rounds) (dispatched_from 0 rounds)
  rounds_fit = record {
    moves = moves rounds 0 start;
    begins = λ lane. begins lane rounds 0 start;
    since_given = λ front back job lane e. let even = since_given rounds 0 start front back job lane e in omega arith;
    until_came = λ front back job lane tries e. until_came rounds 0 start front back job lane tries e;
    once = once rounds 0 start apart;
    answers = λ sent answer h.
        let is = served_is rounds 0 start sent answer (has (events_of (steps_from 0 start rounds)) (Serve sent answer) h) in
        record {
          of = dispatch_at is.at is.round;
          known = contains_of (dispatched_from 0 rounds) (dispatch_at is.at is.round) is.known;
          place = 0;
          attempt = attempt_of is.round;
          is_attempt = refl;
          is_sent = is.is_sent;
          names = λ shown bytes told certain. names_answer is.round.refused is.round.ask is.round.got is.round.size shown bytes answer told is.is_answer;
        };
    served = λ front back job lane tries c place attempt shown bytes e known same at slot shows certain.
        let found = served_before rounds 0 start front back job lane tries c apart e (has (dispatched_from 0 rounds) c known) same place attempt slot in (
          answer_by found.round.refused found.round.ask found.round.got found.round.size,
          contains_of front (Serve (request_at c place) (answer_by found.round.refused found.round.ask found.round.got found.round.size)) found.served,
          named_by c found.round found.at found.is place attempt shown bytes slot shows,
        );
  }

  pub rounds_given : AreGiven (journal_of rounds) (dispatched_from 0 rounds)
  rounds_given = record {
    given = λ c known. (stands_at rounds 0 [] c refl (has (dispatched_from 0 rounds) c known)).given;
    in_order = λ c place known at. let stands = stands_at rounds 0 [] c refl (has (dispatched_from 0 rounds) c known) in let level = some_is (c.dispatch.given_at + 1) place (sym stands.comes ∙ at) in omega arith;
    each_given = λ place lane job e. let found = each_given rounds 0 place lane job e in (found.0, contains_of (dispatched_from 0 rounds) found.0 found.1, found.2, found.3 ∙ omega arith);
    each_came = λ place lane job tries e.
        let found = each_came rounds 0 place lane job tries e in (found.0, contains_of (dispatched_from 0 rounds) found.0 found.1, found.2, found.3 ∙ ap Some (omega arith));
  }

  pub rounds_come : (c : Dispatched) → Has (dispatched_from 0 rounds) c → HasCome (journal_of rounds) c
  rounds_come c known = let stands = stands_at rounds 0 [] c refl known in (c.dispatch.given_at + 1, stands.tries, stands.comes, stands.came)
