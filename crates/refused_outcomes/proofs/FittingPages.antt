-- A trace whose second page is another one than the run read fits where that page was refused, and nowhere else.
use Rattle.std.proofs.Common.{◌≡◌, ◌==◌, ℕ, zero, suc, false, List, [], ◌∷◌, Option, Some, None, refl, sym, ap, subst, Contains, filter, filter_map, length, slice_get, take, arith}
use Rattle.std.specs.Prelude.{flat_map}
use Rattle.s3_model.specs.declared.answers.Class.{Class}
use Rattle.s3_model.specs.declared.answers.Class.TheVariants as class
use Rattle.s3_model.specs.declared.answers.Reply.{Reply}
use Rattle.s3_model.specs.declared.answers.Reply.TheVariants as reply
use Rattle.s3_model.specs.declared.places.Entry.{Entry}
use Rattle.s3_model.specs.declared.requests.Ask.{Ask}
use Rattle.s3_model.specs.declared.settings.Limits.{Limits}
use Rattle.s3_model.specs.declared.tries.Mark.TheVariants as mark
use Rattle.s3_model.specs.Replies.{IsSameReply}
use Rattle.s3_model.specs.Talks.{Talk}
use Rattle.s3_service.specs.Serves.{Answer, Replied}
use Rattle.job_terms.specs.Dispatches.{Attempt, Dispatched}
use Rattle.run_promise.specs.Fits.{Fits, IsAnswered, IsCertain, Names, request_at, requests_of}
use Rattle.run_promise.specs.Schedule.{most_body}
use Rattle.run_promise.specs.Traces.{Came, SentRequest, Serve, TraceEvent, begun_in, event_of, events_of}
use Rattle.shared_lemmas.proofs.Lists.{head_is}
use Rattle.promise_examples.specs.Pages.{entry_of, first_key, last_key, list_job, listing_run, listing_trace, page_with, request, talk_of, token}
use Rattle.promise_examples.specs.Reading.{Reads}
use Rattle.promise_examples.proofs.Concrete.{at, cut, each, slot, some_is}
use Rattle.promise_examples.proofs.Readings.{names, reads}
use Rattle.promise_examples.proofs.Repeats.{other_job}
use Rattle.promise_examples.proofs.TwoPages.{two_pages_are_met}
use Rattle.refused_outcomes.specs.FittingPages.{IsUnfit, OtherPagesAreUnfit, PagesFit, RefusedPageFits, same_twice}
use Rattle.refused_outcomes.specs.RefusedPages.{both_and, first_job, last_job}
use Rattle.refused_outcomes.proofs.RefusedPages.{repeated}

abbrev Shows : Ask → ℕ → Talk → Class → List ℕ → Type 0
Shows = Reads same_twice

abbrev jobs : List Dispatched
jobs = both_and []

abbrev events : List TraceEvent
events = events_of listing_trace

abbrev attempt_of : ℕ → List ℕ → Attempt
attempt_of moment got = record { mark = mark.Success; talk = talk_of moment got }

abbrev first_answer : Answer
first_answer = Replied (reply.Listed (page_with 0 token)) []

abbrev last_answer : Answer
last_answer = Replied (reply.Listed (page_with 0 [])) []

one_three : ◌≡◌ {A = Option ℕ} (Some 1) (Some 3) → ⊥
one_three e = let is : ◌≡◌ {A = ℕ} 1 3 = some_is 1 3 e in omega arith

three_one : ◌≡◌ {A = Option ℕ} (Some 3) (Some 1) → ⊥
three_one e = one_three (sym e)

success_refusal : (said : Reply) (code message : List ℕ) → class.Success said ≡ class.Refusal code message → ⊥
success_refusal said code message e = cc

replied_is : (a b : Reply) → Replied a [] ≡ Replied b [] → a ≡ b
replied_is a b e = cc

keys_apart : entry_of first_key ∷ [] ≡ entry_of last_key ∷ [] → ⊥
keys_apart e =
    let key : first_key ≡ last_key = ap (λ (entry : Entry). entry.key) (head_is (entry_of first_key) (entry_of last_key) [] [] e) in
    let byte : ◌≡◌ {A = ℕ} 97 99 = head_is 97 99 [] [] key in omega arith

-- ---- where the last page was refused

-- nothing is certain of it
not_certain : (shown : Class) (said : List ℕ) → Shows last_job.ask most_body (talk_of 6 []) shown said → IsCertain (Some 1) last_job shown → ⊥
not_certain (class.Success answered) said shows certain = certain (tt, refl, refl)
not_certain (class.Refusal code message) said shows certain = success_refusal _ code message shows.0
not_certain (class.Uncertain why) said shows certain = certain

first_named : (shown : Class) (said : List ℕ) → Shows first_job.ask most_body (talk_of 5 token) shown said → Names shown said first_answer
first_named = names same_twice first_job.ask most_body (talk_of 5 token) first_answer (reply.Listed (page_with 0 token), (refl, refl, refl, refl), refl)

abbrev AnswerRule : TraceEvent → Type 0
AnswerRule (Serve sent answer) = IsAnswered Shows (Some 1) jobs sent answer
AnswerRule event = Unit {0}

first_answered : IsAnswered Shows (Some 1) jobs (request 0 None) first_answer
first_answered = record { of = first_job; known = at jobs 0 first_job refl; place = 0; attempt = attempt_of 5 token; is_attempt = refl; is_sent = refl; names = λ shown said shows certain. first_named shown said shows }

last_answered : IsAnswered Shows (Some 1) jobs (request 1 (Some token)) last_answer
last_answered = record { of = last_job; known = at jobs 1 last_job refl; place = 0; attempt = attempt_of 6 []; is_attempt = refl; is_sent = refl; names = λ shown said shows certain. absurd (not_certain shown said shows certain) }

-- the answer of each attempt that came there, and is certain, was served in front
abbrev IsServed : List TraceEvent → ℕ → Dispatched → Type 0
IsServed front place c = c.dispatch.came_at ≡ Some place → (k : ℕ) (attempt : Attempt) → slice_get c.dispatch.attempts k ≡ Some attempt → (shown : Class) (said : List ℕ)
    → Shows c.ask c.limit attempt.talk shown said → IsCertain (Some 1) c shown → (answer : Answer) × Contains front (Serve (request_at c k) answer) × Names shown said answer

abbrev ServedRule : List TraceEvent → TraceEvent → Type 0
ServedRule front (Came job lane tries) = (c : Dispatched) → Contains jobs c → IsServed front (length (filter_map event_of front)) c
ServedRule front event = Unit {0}

first_served : (c : Dispatched) → Contains jobs c → IsServed (take 3 events) 1 c
first_served = each (IsServed (take 3 events) 1) jobs (
  (λ here k attempt at_k. slot (λ n a. (shown : Class) (said : List ℕ) → Shows first_job.ask most_body a.talk shown said → IsCertain (Some 1) first_job shown → (answer : Answer) × Contains (take 3 events) (Serve (request_at first_job n) answer) × Names shown said answer) (attempt_of 5 token ∷ [])
      ((λ shown said shows certain. (first_answer, at (take 3 events) 2 _ refl, first_named shown said shows)), tt) k attempt at_k),
  ((λ here. absurd (three_one here)), tt),
)

last_served : (c : Dispatched) → Contains jobs c → IsServed (take 7 events) 3 c
last_served = each (IsServed (take 7 events) 3) jobs (
  (λ here. absurd (one_three here)),
  (
    (λ here k attempt at_k. slot (λ n a. (shown : Class) (said : List ℕ) → Shows last_job.ask most_body a.talk shown said → IsCertain (Some 1) last_job shown → (answer : Answer) × Contains (take 7 events) (Serve (request_at last_job n) answer) × Names shown said answer) (attempt_of 6 [] ∷ [])
        ((λ shown said shows certain. absurd (not_certain shown said shows certain)), tt) k attempt at_k),
    tt,
  ),
)

begins : (lane : ℕ) → filter_map (begun_in lane) events ≡ flat_map requests_of (filter (λ (c : Dispatched). c.dispatch.lane == lane) jobs)
begins zero = refl
begins (suc lane) =
    let a : (suc lane == 0) ≡ false = grind arith in
    let b : (0 == suc lane) ≡ false = grind arith in
    rw (a, b) refl

module _ (limits : Limits) where
  fits : Fits Shows (Some 1) events (listing_run limits).journal jobs
  fits =
      let honest = (two_pages_are_met limits 0).fits in
      record {
        moves = honest.moves;
        begins = begins;
        since_given = honest.since_given;
        until_came = honest.until_came;
        once = honest.once;
        answers = λ sent answer happened. each AnswerRule events (tt, (tt, (first_answered, (tt, (tt, (tt, (last_answered, (tt, tt)))))))) (Serve sent answer) happened;
        served = λ front back job lane tries c place attempt shown said e known of_job come at_place shows certain.
            cut ServedRule events (tt, (tt, (tt, (first_served, (tt, (tt, (tt, (last_served, tt)))))))) front (Came job lane tries) back e c known come place attempt at_place shown said shows certain;
      }

  met : PagesFit limits
  met = record {
    needed = repeated;
    fits = record { of_journal = refl; of_page = refl; fitting = record { runs = (two_pages_are_met limits 0).runs; honest = (two_pages_are_met limits 0).honest; fits = fits } };
  }

  -- ---- where another one was, or none

  unfit : IsUnfit limits
  unfit refused_page differs fits_it =
      let a = fits_it.fitting.fits.answers (request 1 (Some token)) last_answer (at events 6 _ refl) in
      each (λ (c : Dispatched). (k : ℕ) (attempt : Attempt) → (slice_get c.dispatch.attempts k ≡ Some attempt) → request 1 (Some token) ≡ request_at c k
      → ((shown : Class) (said : List ℕ) → Shows c.ask c.limit attempt.talk shown said → IsCertain refused_page c shown → Names shown said last_answer) → ⊥) jobs (
        (λ k attempt at_k sent named. other_job (list_job 1) (list_job 0) refl (ap (λ (r : SentRequest). r.job) sent)),
        (
          (λ k attempt at_k sent. slot (λ n a. ((shown : Class) (said : List ℕ) → Shows last_job.ask most_body a.talk shown said → IsCertain refused_page last_job shown → Names shown said last_answer) → ⊥) (attempt_of 6 [] ∷ []) (wrong, tt) k attempt at_k),
          tt,
        ),
      ) a.of a.known a.place a.attempt a.is_attempt a.is_sent a.names
    where
      wrong : ((shown : Class) (said : List ℕ) → Shows last_job.ask most_body (talk_of 6 []) shown said → IsCertain refused_page last_job shown → Names shown said last_answer) → ⊥
      wrong named =
          let is = named (class.Success (reply.Listed (same_twice []))) [] (reads same_twice last_job.ask most_body (talk_of 6 [])) (λ page. differs page.2) in
          let same = subst (λ (said : Reply). IsSameReply (reply.Listed (same_twice [])) said) (sym (replied_is _ _ is.2)) is.1 in
          keys_apart same.0

pub refused_page_fits : RefusedPageFits
refused_page_fits limits = met limits

pub other_pages_are_unfit : OtherPagesAreUnfit
other_pages_are_unfit limits = unfit limits
