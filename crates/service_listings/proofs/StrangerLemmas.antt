-- No lane brings a stranger: what came back of a question is its own job, which is not cancelled.
use Rattle.std.proofs.Common.{◌≡◌, ◌∙◌, ◌+◌, ◌-◌, ◌++◌, ℕ, Bool, List, [], ◌∷◌, Option, Some, None, refl, sym, ap, subst, inl, inr, arith, append_assoc, append-nil, length, slice_get}
use Rattle.std.proofs.lemmas.List.{length-drop}
use Rattle.std.specs.Prelude.{◌≢◌, IfErr, Result, Ok, Err, false, is_some, not}
use Rattle.jobs.specs.Holders.{Holder}
use Rattle.jobs.specs.Jobs.{SeenJob}
use Rattle.jobs.specs.declared.ending.Ending.{Ending}
use Rattle.jobs.specs.declared.ending.Ending.TheVariants as ending
use Rattle.lane_jobs.specs.Lanes.{Ends, SeenCarrier, SeenLane, class_ending, reason_of}
use Rattle.list_walk.specs.Pages.{Walk, new_walk, with_page}
use Rattle.planning_questions.proofs.TraceLemmas.{questions_are_traced}
use Rattle.planning_questions.specs.Answers.{said_by}
use Rattle.planning_questions.specs.Listings.{Lists}
use Rattle.planning_questions.specs.Questions.{Answers, AsksOnce, Question, question_job, trace_of}
use Rattle.planning_questions.specs.Traced.{IsBetween}
use Rattle.planning_questions.specs.declared.halt.Halt.{Halt}
use Rattle.planning_questions.specs.declared.halt.Halt.TheVariants as halt
use Rattle.run_traces.proofs.Pending.{new_pending, pending_place}
use Rattle.run_traces.proofs.Steps.{gave_taken, given_count, taken_count, given_in}
use Rattle.run_traces.specs.Exchanges.{MayBeOf}
use Rattle.run_traces.specs.Traces.{Gave, RunTrace, Took, pending_in}
use Rattle.s3_model.specs.Talks.{WireLog}
use Rattle.s3_model.specs.declared.answers.Class.{Class}
use Rattle.s3_model.specs.declared.answers.Class.TheVariants as class
use Rattle.s3_model.specs.declared.answers.Reply.{Reply}
use Rattle.s3_model.specs.declared.answers.Why.{Why}
use Rattle.s3_model.specs.declared.answers.Why.TheVariants as why
use Rattle.s3_model.specs.declared.faults.BadListing.{BadListing}
use Rattle.s3_model.specs.declared.outcomes.Cause.{Cause}
use Rattle.s3_model.specs.declared.outcomes.Reason.{Reason}
use Rattle.s3_model.specs.declared.places.Place.{Place}
use Rattle.s3_model.specs.declared.places.Place.TheVariants as place
use Rattle.s3_model.specs.declared.requests.Ask.{Ask}
use Rattle.s3_model.specs.declared.requests.Ask.TheVariants as ask
use Rattle.s3_model.specs.declared.requests.Op.{Op}
use Rattle.shared_lemmas.proofs.Clashes.{none_is_some, some_is}
use Rattle.trace_laws.proofs.Own.{looks_own, none_is_stranger, own_outcome}
use Rattle.trace_laws.specs.Joined.{IsJoined}
use Rattle.service_listings.specs.Listings.{IsNoStranger, ListsAt}
use Rattle.service_listings.specs.Showings.{NoneIsStrange}
use Rattle.service_listings.specs.declared.listing.Listing.{Listing}

-- ---- halts

ok_stranger : {X : Type 0} (x : X) → ◌≡◌ {A = Result X Halt} (Ok x) (Err halt.Stranger) → ⊥
ok_stranger x e = cc

answer_stranger : {X : Type 0} (cause : Cause) → ◌≡◌ {A = Result X Halt} (Err (halt.Answer cause)) (Err halt.Stranger) → ⊥
answer_stranger cause e = cc

listing_stranger : {X : Type 0} (bad : BadListing) → ◌≡◌ {A = Result X Halt} (Err (halt.Listing bad)) (Err halt.Stranger) → ⊥
listing_stranger bad e = cc

memory_stranger : {X : Type 0} → ◌≡◌ {A = Result X Halt} (Err halt.Memory) (Err halt.Stranger) → ⊥
memory_stranger e = cc

halt_as : (h : Halt) → ◌≡◌ {A = Result Walk Halt} (Err h) (Err halt.Stranger) → ◌≡◌ {A = Result Reply Halt} (Err h) (Err halt.Stranger)
halt_as h e = cc

-- ---- a cancel

-- the ending of a job that was cancelled
abbrev IsCancelled : Ending → Type 0
IsCancelled (ending.Cancelled reason) = Unit {0}
IsCancelled ended = ⊥

uncertain_says : (op : Op) (reason : Why) → said_by op (ending.Uncertain reason) ≡ Err halt.Stranger → ⊥
uncertain_says op why.Memory e = memory_stranger e
uncertain_says op reason e = answer_stranger _ e

says_stranger : (op : Op) (ended : Ending) → said_by op ended ≡ Err halt.Stranger → IsCancelled ended
says_stranger op (ending.Gained said) e = absurd (ok_stranger said e)
says_stranger op (ending.Refused status code message) e = absurd (answer_stranger _ e)
says_stranger op (ending.Uncertain reason) e = absurd (uncertain_says op reason e)
says_stranger op (ending.Cancelled reason) e = tt
says_stranger op ending.Memory e = absurd (memory_stranger e)

class_goes_on : (status : ℕ) (shown : Class) → IsCancelled (class_ending status shown) → ⊥
class_goes_on status (class.Success said) h = h
class_goes_on status (class.Refusal code message) h = h
class_goes_on status (class.Uncertain reason) h = h

no_reason : (cell : Option Holder) → is_some cell ≡ false → reason_of cell ≡ None
no_reason None none = refl
no_reason (Some holder) none = absurd (clash none)
  where
    clash : is_some (Some holder) ≡ false → ⊥
    clash e = cc

not_cancelled : (made most : ℕ) (gave : Option Reason) (classes : List Class) (ended : Ending) → gave ≡ None → Ends made most gave classes ended → IsCancelled ended → ⊥
not_cancelled made most gave classes ended none (inl h) cancelled = class_goes_on h.status h.shown (subst IsCancelled h.ending_is cancelled)
not_cancelled made most gave classes ended none (inr (inl h)) cancelled = none_is_some h.reason (sym none ∙ h.gave_is)
not_cancelled made most gave classes ended none (inr (inr h)) cancelled = subst IsCancelled h.ending_is cancelled

-- ---- the job of a question

oldest : (number : ℕ) (job : SeenJob) (trace : RunTrace) → IsBetween number trace → slice_get (pending_in 0 (Gave 0 job ∷ trace)) 0 ≡ Some job
oldest number job trace b =
    let long = length-drop (taken_count 0 trace) (given_in 0 trace) in
    let none = ap (λ (js : List SeenJob). length js) (b.none_pending 0) in
    let still = ap (λ (cs : List _). length cs) (gave_taken trace 0 job 0) in
    let first : given_count 0 trace - taken_count 0 (Gave 0 job ∷ trace) ≡ 0 = omega arith in
    subst (λ (n : ℕ). slice_get (pending_in 0 (Gave 0 job ∷ trace)) n ≡ Some job) first
    (pending_place (Gave 0 job ∷ trace) 0 (given_count 0 trace) job (new_pending trace 0 job b.trace_is))

module _ {W : Type 0} (seen : W → Option WireLog) (carrier : SeenCarrier) (whole : RunTrace) (befores afters : List (SeenLane W)) (joined : IsJoined seen carrier whole befores afters) where
  abbrev taken : ℕ → Question → RunTrace → RunTrace
  taken number q trace = Took 0 q.carried ∷ Gave 0 (question_job number q.asked) ∷ trace

  module _ (number : ℕ) (q : Question) (trace rest : RunTrace) (b : IsBetween number trace) (is : whole ≡ rest ++ taken number q trace) where
    its_own : MayBeOf (question_job number q.asked) q.carried
    its_own =
        let own = own_outcome seen carrier whole befores afters joined rest (Gave 0 (question_job number q.asked) ∷ trace) 0 q.carried is in
        subst (λ (j : SeenJob). MayBeOf j q.carried) (some_is own.job (question_job number q.asked) (sym own.oldest ∙ oldest number (question_job number q.asked) trace b)) (looks_own own.job q.carried own.same)

    goes_on : IsBetween (number + 1) (taken number q trace)
    goes_on = elim (questions_are_traced number q.asked (q ∷ []) (said_by _ q.carried.ending) trace (refl, refl, inl (its_own, refl)) b) [
      | inl between ↦ between
      | inr ends ↦
          let s = ends.0.stranger in
          absurd (none_is_stranger seen carrier whole befores afters joined (record {
            later = rest ++ s.later;
            before = s.before;
            lane = s.lane;
            carried = s.carried;
            is = is ∙ ap (λ (t : RunTrace). rest ++ t) s.is ∙ sym (append_assoc rest s.later (Took s.lane s.carried ∷ s.before));
            job = s.job;
            oldest = s.oldest;
            other = s.other;
          }))
    ]

    answered : (said : Result Reply Halt) → Answers number q said → said ≡ Err halt.Stranger → ⊥
    answered said (inl mine) e =
        let own = own_outcome seen carrier whole befores afters joined rest (Gave 0 (question_job number q.asked) ∷ trace) 0 q.carried is in
        not_cancelled _ _ (reason_of q.carried.job.cell) own.by.carries.classes q.carried.ending (no_reason q.carried.job.cell mine.0.same.cell) own.by.carries.ends
        (says_stranger _ q.carried.ending (sym mine.1 ∙ e))
    answered said (inr other) e = other.0 its_own

  asks_none : (number : ℕ) (asked : Ask) (questions : List Question) (said : Result Reply Halt) → IsBetween number [] → whole ≡ trace_of number questions → AsksOnce number asked questions said → said ≡ Err halt.Stranger → ⊥
  asks_none number asked [] said b is asks e = memory_stranger (sym asks ∙ e)
  asks_none number asked (q ∷ later) said b is asks e = answered number q [] (trace_of (number + 1) later) b is said asks.2 e

  lists_none : (number : ℕ) (walk : Walk) (questions : List Question) (result : Result Walk Halt) (trace : RunTrace) → IsBetween number trace → whole ≡ trace_of number questions ++ trace → Lists number walk questions result
      → result ≡ Err halt.Stranger → ⊥
  lists_none number walk [] result trace b is lists e = memory_stranger (sym lists ∙ e)
  lists_none number walk (q ∷ later) result trace b is lists e =
      let here : whole ≡ trace_of (number + 1) later ++ taken number q trace = is ∙ append_assoc (trace_of (number + 1) later) (taken number q []) trace in
      elim lists.1 [
        | inl (page, brings, next) ↦ elim next [
          | inl more ↦ lists_none (number + 1) (with_page walk page) later result (taken number q trace) (goes_on number q trace (trace_of (number + 1) later) b here) here more.2 e
          | inr end ↦ elim end.0 [
            | inl last ↦ ok_stranger _ (sym last.2 ∙ e)
            | inr other ↦ elim other [
              | inl bad ↦ listing_stranger _ (sym bad.2 ∙ e)
              | inr memory ↦ memory_stranger (sym memory ∙ e)
            ]
          ]
        ]
        | inr (h, answers, none, ended) ↦ answered number q trace (trace_of (number + 1) later) b here (Err h) answers (halt_as h (sym ended ∙ e))
      ]

nothing_yet : (number : ℕ) → IsBetween number []
nothing_yet number = record { trace_is = tt; none_pending = λ lane. refl; numbers_left = λ id planning later. refl }

err_is : {X : Type 0} (h : Halt) → ◌≡◌ {A = Result Listing Halt} (Err h) (Err halt.Stranger) → ◌≡◌ {A = Result X Halt} (Err h) (Err halt.Stranger)
err_is h e = cc

pub none_is_strange : {W : Type 0} (seen : W → Option WireLog) → NoneIsStrange seen
none_is_strange seen carrier number None recursive questions (Err h) befores afters lists joined e =
    asks_none seen carrier (trace_of number questions) befores afters joined number ask.Buckets questions (Err h) (nothing_yet number) refl lists (err_is h e)
none_is_strange seen carrier number (Some (place.Object bucket key)) recursive questions (Err h) befores afters lists joined e =
    lists_none seen carrier (trace_of number questions) befores afters joined number (new_walk bucket key (not recursive)) questions (Err h) [] (nothing_yet number) (sym (append-nil (trace_of number questions))) lists (err_is h e)
none_is_strange seen carrier number (Some (place.File path)) recursive questions (Err h) befores afters lists joined e = lists
none_is_strange seen carrier number at recursive questions (Ok listed) befores afters lists joined e = ok_stranger listed e

known : (result : Result Listing Halt) → result ≢ Err halt.Stranger → IfErr result IsNoStranger
known (Ok listed) other = tt
known (Err halt.Stranger) other = absurd (other refl)
known (Err why) other = tt

pub no_stranger : {W : Type 0} (seen : W → Option WireLog) (carrier : SeenCarrier) (number : ℕ) (at : Option Place) (recursive : Bool) (questions : List Question) (result : Result Listing Halt) (befores afters : List (SeenLane W))
    → ListsAt number at recursive questions result → IsJoined seen carrier (trace_of number questions) befores afters → IfErr result IsNoStranger
no_stranger seen carrier number at recursive questions result befores afters lists joined =
    known result (none_is_strange seen carrier number at recursive questions result befores afters lists joined)
