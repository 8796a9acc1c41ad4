-- Traces with one thing changed do not fit.
use Rattle.shared_lemmas.proofs.Lists.{head_is, no_cons}
use Rattle.std.proofs.Common.{◌≡◌, ◌++◌, ℕ, false, List, [], ◌∷◌, Some, refl, sym, ap, Contains, length, slice_get, arith, None}
use Rattle.std.specs.Prelude.{codes}
use Rattle.s3_model.specs.declared.requests.Ask.{Ask}
use Rattle.s3_model.specs.declared.answers.Class.{Class}
use Rattle.s3_model.specs.declared.answers.Listed.{Listed}
use Rattle.s3_model.specs.declared.answers.Reply.{Reply}
use Rattle.s3_model.specs.declared.answers.Reply.TheVariants as reply
use Rattle.s3_model.specs.declared.outcomes.JobId.{JobId}
use Rattle.s3_model.specs.declared.tries.Mark.TheVariants as mark
use Rattle.s3_model.specs.Talks.{Talk}
use Rattle.s3_service.specs.ServiceState.{State, with_object}
use Rattle.world_laws.proofs.Objects.{object_at-with_object}
use Rattle.s3_service.specs.Serves.{Answer, Replied, Refused, Removes, Writes}
use Rattle.job_terms.specs.Dispatches.{Attempt, Dispatched, dispatches}
use Rattle.run_promise.specs.Fits.{Fits, Names, request_at}
use Rattle.run_promise.specs.Traces.{SentRequest, Step, TraceEvent, Given, Begin, Serve, Came, External, IsTrace, IsHonest, events_of, states}
use Rattle.run_promise.specs.Truthful.{IsDest}
use Rattle.promise_examples.specs.GivenAgain.{put_job, bytes}
use Rattle.promise_examples.specs.Misfits as specs
use Rattle.promise_examples.specs.Misfits.{IsUnfit, TracesAreRefused, bucket, key, request, before}
use Rattle.promise_examples.specs.Reading.{Reads}
use Rattle.promise_examples.specs.Refused.{whole_run, stored_at, task}
use Rattle.promise_examples.specs.Services.{object_of}
use Rattle.promise_examples.proofs.Concrete.{has, at, each, slot}
use Rattle.promise_examples.proofs.Readings.{reads, shown_by}
use Rattle.promise_examples.proofs.Shown.{made, of_shown}
use Rattle.promise_examples.proofs.WholePut.{met}
use Rattle.world_laws.proofs.Fitting.{names_where}
use Rattle.promise_examples.proofs.Fitting.{no_page}

given_serve : (j : JobId) (l : ℕ) (s : SentRequest) (a : Answer) → Given j l ≡ Serve s a → ⊥
given_serve j l s a e = cc

begin_serve : (l : ℕ) (r s : SentRequest) (a : Answer) → Begin l r ≡ Serve s a → ⊥
begin_serve l r s a e = cc

refused_replied : (code : List ℕ) (said : Reply) (bytes : List ℕ) → Refused code ≡ Replied said bytes → ⊥
refused_replied code said bytes e = cc

module _ (page_of : List ℕ → Listed) where
  abbrev Shows : Ask → ℕ → Talk → Class → List ℕ → Type 0
  Shows = Reads page_of

  abbrev stored : Attempt
  stored = record { mark = mark.Success; talk = stored_at 5 }

  abbrev sent : Ask → List ℕ → ℕ → ℕ → Dispatched
  sent asked body limit size = made (record { job = put_job; lane = 0; given_at = 0; came_at = Some 1; earlier = 0; is_second = false; attempts = stored ∷ [] }) asked body limit size

  abbrev Unfit : List Step → Ask → List ℕ → ℕ → ℕ → Type 0
  Unfit trace asked body limit size = IsTrace whole_run.setting.limits [] before trace → IsHonest before trace (IsDest whole_run.setting.tasks) → Fits Shows None (events_of trace) whole_run.journal (sent asked body limit size ∷ []) → ⊥

  abbrev Misses : List Step → List Dispatched → Type 0
  Misses trace xs = IsTrace whole_run.setting.limits [] before trace → IsHonest before trace (IsDest whole_run.setting.tasks) → Fits Shows None (events_of trace) whole_run.journal xs → ⊥

  unfit : (trace : List Step) → ((asked : Ask) (body : List ℕ) (limit size : ℕ) → Unfit trace asked body limit size) → IsUnfit page_of trace
  unfit trace all dispatched coming schedule carried runs honest fits = of_shown (dispatches whole_run.journal whole_run.logs) (Misses trace) all dispatched carried.shown runs honest fits

  on_served_twice : (asked : Ask) (body : List ℕ) (limit size : ℕ) → Unfit specs.served_twice asked body limit size
  on_served_twice asked body limit size runs honest fits = fits.once 0 1 (request 1) (omega arith) (omega arith) (refl, refl)

  on_served_before_begun : (asked : Ask) (body : List ℕ) (limit size : ℕ) → Unfit specs.served_before_begun asked body limit size
  on_served_before_begun asked body limit size runs honest fits = has [] (request 1) runs.1.0.0

  abbrev in_front : List TraceEvent
  in_front = Given put_job 0 ∷ Begin 0 (request 1) ∷ []

  not_in_front : (s : SentRequest) (a : Answer) → Contains in_front (Serve s a) → ⊥
  not_in_front s a known = each (λ (event : TraceEvent). event ≡ Serve s a → ⊥) in_front (given_serve put_job 0 s a, (begin_serve 0 (request 1) s a, tt)) (Serve s a) known refl

  unserved : (later : List TraceEvent) (asked : Ask) (body : List ℕ) (limit size : ℕ) → Fits Shows None (in_front ++ Came put_job 0 (mark.Success ∷ []) ∷ later) whole_run.journal (sent asked body limit size ∷ []) → ⊥
  unserved later asked body limit size fits =
      let served = fits.served in_front later put_job 0 (mark.Success ∷ []) (sent asked body limit size) 0 stored (shown_by page_of asked (stored_at 5)) _ refl (at (sent asked body limit size ∷ []) 0 (sent asked body limit size) refl) refl refl refl
      (reads page_of asked limit (stored_at 5)) (no_page (sent asked body limit size)) in
      not_in_front (request_at (sent asked body limit size) 0) served.0 served.1

  on_other_answer : (asked : Ask) (body : List ℕ) (limit size : ℕ) → Unfit specs.other_answer asked body limit size
  on_other_answer asked body limit size runs honest fits =
      let is = fits.answers (request 1) (Refused (codes "AccessDenied")) (at (events_of specs.other_answer) 2 (Serve (request 1) (Refused (codes "AccessDenied"))) refl) in
      each (λ (c : Dispatched). slice_get c.dispatch.attempts is.place ≡ Some is.attempt → ((shown : Class) (b : List ℕ) → Shows c.ask c.limit is.attempt.talk shown b → Names shown b (Refused (codes "AccessDenied"))) → ⊥) (sent asked body limit size ∷ [])
      (of_place is.place is.attempt, tt) is.of is.known is.is_attempt (λ shown b shows. names_where None is.of (no_page is.of) shown b (Refused (codes "AccessDenied")) (is.names shown b shows))
    where
      of_place : (place : ℕ) (attempt : Attempt) → slice_get (stored ∷ []) place ≡ Some attempt → ((shown : Class) (b : List ℕ) → Shows asked limit attempt.talk shown b → Names shown b (Refused (codes "AccessDenied"))) → ⊥
      of_place place attempt here named =
          slot (λ (k : ℕ) (a : Attempt). ((shown : Class) (b : List ℕ) → Shows asked limit a.talk shown b → Names shown b (Refused (codes "AccessDenied"))) → ⊥) (stored ∷ [])
          ((λ says. let is = says (shown_by page_of asked (stored_at 5)) _ (reads page_of asked limit (stored_at 5)) in refused_replied (codes "AccessDenied") is.0 _ is.2), tt) place attempt here named

  on_begun_before_given : (asked : Ask) (body : List ℕ) (limit size : ℕ) → Unfit specs.begun_before_given asked body limit size
  on_begun_before_given asked body limit size runs honest fits =
      let n : ◌≡◌ {A = ℕ} 1 0 = fits.since_given (Begin 0 (request 1) ∷ []) (Serve (request 1) (Replied reply.Stored []) ∷ Came put_job 0 (mark.Success ∷ []) ∷ []) put_job 0 refl in omega arith

  on_begun_after_came : (asked : Ask) (body : List ℕ) (limit size : ℕ) → Unfit specs.begun_after_came asked body limit size
  on_begun_after_came asked body limit size runs honest fits =
      let n : ◌≡◌ {A = ℕ} 0 1 = fits.until_came (Given put_job 0 ∷ []) (Begin 0 (request 1) ∷ Serve (request 1) (Replied reply.Stored []) ∷ []) put_job 0 (mark.Success ∷ []) refl in omega arith

  on_other_number : (asked : Ask) (body : List ℕ) (limit size : ℕ) → Unfit specs.other_number asked body limit size
  on_other_number asked body limit size runs honest fits = let n : ◌≡◌ {A = ℕ} 2 1 = ap (λ (r : SentRequest). r.number) (head_is _ _ _ _ (fits.begins 0)) in omega arith

  on_begun_twice : (asked : Ask) (body : List ℕ) (limit size : ℕ) → Unfit specs.begun_twice asked body limit size
  on_begun_twice asked body limit size runs honest fits = let n : ◌≡◌ {A = ℕ} 2 1 = ap length (fits.begins 0) in omega arith

  on_never_given : (asked : Ask) (body : List ℕ) (limit size : ℕ) → Unfit specs.never_given asked body limit size
  on_never_given asked body limit size runs honest fits = let n : ◌≡◌ {A = ℕ} 1 2 = ap length fits.moves in omega arith

  on_overwritten : (asked : Ask) (body : List ℕ) (limit size : ℕ) → Unfit specs.overwritten asked body limit size
  on_overwritten asked body limit size runs honest fits =
      honest.not_written bucket key (object_of bytes) (at (events_of specs.overwritten) 4 (External (Writes bucket key (object_of bytes))) refl) (task, at (task ∷ []) 0 task refl, refl)

  on_removed : (asked : Ask) (body : List ℕ) (limit size : ℕ) → Unfit specs.removed asked body limit size
  on_removed asked body limit size runs honest fits = honest.not_removed bucket key (at (events_of specs.removed) 4 (External (Removes bucket key)) refl) (task, at (task ∷ []) 0 task refl, refl)

  on_two_contents : (asked : Ask) (body : List ℕ) (limit size : ℕ) → Unfit specs.two_contents asked body limit size
  on_two_contents asked body limit size runs honest fits =
      let last : State = with_object specs.first_content bucket specs.other_key (specs.with_byte 9) in
      let same : 8 ∷ [] ≡ 9 ∷ [] = honest.one_content specs.first_content last bucket specs.other_key (specs.with_byte 8) (specs.with_byte 9) (at (states before specs.two_contents) 5 specs.first_content refl) (at (states before specs.two_contents) 6 last refl)
      (object_at-with_object specs.stored bucket specs.other_key (specs.with_byte 8)) (object_at-with_object specs.first_content bucket specs.other_key (specs.with_byte 9)) refl in
      let byte : ◌≡◌ {A = ℕ} 8 9 = head_is 8 9 [] [] same in omega arith

  pub traces : TracesAreRefused page_of
  traces = record {
    whole = met page_of;
    served_twice = unfit specs.served_twice on_served_twice;
    served_before_begun = unfit specs.served_before_begun on_served_before_begun;
    never_served = unfit specs.never_served (λ asked body limit size runs honest fits. unserved [] asked body limit size fits);
    served_after_came = unfit specs.served_after_came (λ asked body limit size runs honest fits. unserved (Serve (request 1) (Replied reply.Stored []) ∷ []) asked body limit size fits);
    other_answer = unfit specs.other_answer on_other_answer;
    begun_before_given = unfit specs.begun_before_given on_begun_before_given;
    begun_after_came = unfit specs.begun_after_came on_begun_after_came;
    other_number = unfit specs.other_number on_other_number;
    other_lane = unfit specs.other_lane (λ asked body limit size runs honest fits. no_cons _ _ (sym (fits.begins 0)));
    begun_twice = unfit specs.begun_twice on_begun_twice;
    never_given = unfit specs.never_given on_never_given;
    overwritten = unfit specs.overwritten on_overwritten;
    removed = unfit specs.removed on_removed;
    two_contents = unfit specs.two_contents on_two_contents;
  }
