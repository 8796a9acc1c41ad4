-- Once the lane is joined, what came back of each question is its own: no lane brings a stranger.
use Rattle.std.proofs.Common.{◌≡◌, ◌∙◌, ◌+◌, ◌++◌, ℕ, List, [], ◌∷◌, Option, Some, None, append_assoc, append-nil, refl, sym, subst, ap, inl, inr, map, get_or}
use Rattle.std.specs.Prelude.{Result, Ok, Err, ◌≢◌}
use Rattle.bounded_executor.specs.Exchange.{Exchange, unused}
use Rattle.bounded_executor.specs.Runs.{Runs}
use Rattle.job_terms.specs.Ops.{op_of}
use Rattle.jobs.specs.Endings.{SeenCarried}
use Rattle.jobs.specs.Holders.{Holder}
use Rattle.jobs.specs.Jobs.{SeenJob}
use Rattle.jobs.specs.declared.ending.Ending.{Ending}
use Rattle.jobs.specs.declared.ending.Ending.TheVariants as ending
use Rattle.lane_jobs.specs.Lanes.{IsCarriedBy, IsSameJob, KeepsCell, SeenCarrier, SeenLane, class_ending, reason_of}
use Rattle.list_walk.specs.Pages.{Walk, with_page}
use Rattle.planning_questions.specs.Answers.{said_by}
use Rattle.planning_questions.specs.Listings.{Lists}
use Rattle.planning_questions.specs.Questions.{Answers, AsksOnce, Question, question_job, trace_of}
use Rattle.planning_questions.specs.declared.halt.Halt.{Halt}
use Rattle.planning_questions.specs.declared.halt.Halt.TheVariants as halt
use Rattle.run_traces.specs.Traces.{Gave, RunTrace, Took, exchange_of}
use Rattle.s3_model.specs.declared.answers.Class.{Class}
use Rattle.s3_model.specs.declared.answers.Class.TheVariants as class
use Rattle.s3_model.specs.declared.answers.Reply.{Reply}
use Rattle.s3_model.specs.declared.answers.Why.TheVariants as why
use Rattle.s3_model.specs.declared.outcomes.Reason.{Reason}
use Rattle.s3_model.specs.declared.requests.Ask.{Ask}
use Rattle.s3_model.specs.declared.requests.Op.{Op}
use Rattle.s3_model.specs.Talks.{WireLog}
use Rattle.shared_lemmas.proofs.Clashes.{none_is_some}
use Rattle.shared_lemmas.proofs.Members.{contains_of, has_at}
use Rattle.trace_laws.proofs.Own.{looks_own, runs_at, same_carrier}
use Rattle.trace_laws.specs.Joined.{CarriesJob, IsJoined}

-- ---- what the lane was given, and what was taken of it

abbrev jobs_of : (number : ℕ) → List Question → List SeenJob
jobs_of number [] = []
jobs_of number (q ∷ later) = question_job number q.asked ∷ jobs_of (number + 1) later

abbrev carried_of : List Question → List SeenCarried
carried_of questions = map (λ (q : Question). q.carried) questions

abbrev exchange : List SeenJob → List SeenCarried → Exchange SeenJob SeenCarried
exchange given taken = record { given = given; taken = taken }

exchange_is : (number : ℕ) (questions : List Question) (before : RunTrace) → exchange_of 0 (trace_of number questions ++ before)
    ≡ exchange ((exchange_of 0 before).given ++ jobs_of number questions) ((exchange_of 0 before).taken ++ carried_of questions)
exchange_is number [] before =
    let e = exchange_of 0 before in
    sym (ap (λ (given : List SeenJob). exchange given (e.taken ++ [])) (append-nil e.given) ∙ ap (λ (taken : List SeenCarried). exchange e.given taken) (append-nil e.taken))
exchange_is number (q ∷ later) before =
    let e = exchange_of 0 before in
    let job = question_job number q.asked in
    ap (λ (t : RunTrace). exchange_of 0 t) (append_assoc (trace_of (number + 1) later) (Took 0 q.carried ∷ Gave 0 job ∷ []) before)
    ∙ exchange_is (number + 1) later (Took 0 q.carried ∷ Gave 0 job ∷ before)
    ∙ ap (λ (given : List SeenJob). exchange given ((e.taken ++ q.carried ∷ []) ++ carried_of later)) (append_assoc e.given (job ∷ []) (jobs_of (number + 1) later))
    ∙ ap (λ (taken : List SeenCarried). exchange (e.given ++ jobs_of number (q ∷ later)) taken) (append_assoc e.taken (q.carried ∷ []) (carried_of later))

-- ---- each question is carried

pub record IsOwn (carrier : SeenCarrier) (number : ℕ) (q : Question) : Type 0 where
  pub was : Option WireLog
  pub now : Option WireLog
  pub by : IsCarriedBy carrier (question_job number q.asked) was now q.carried
  pub same : IsSameJob (question_job number q.asked) q.carried.job

abbrev pub AreOwn : SeenCarrier → (number : ℕ) → List Question → Type 0
AreOwn carrier number [] = Unit {0}
AreOwn carrier number (q ∷ later) = IsOwn carrier number q × AreOwn carrier (number + 1) later

module _ {W : Type 0} (seen : W → Option WireLog) (carrier : SeenCarrier) where
  own_by : (before after : SeenLane W) (number : ℕ) (questions : List Question) → before.carrier ≡ carrier → Runs (CarriesJob seen) before (jobs_of number questions) (carried_of questions) after → AreOwn carrier number questions
  own_by before after number [] is ran = tt
  own_by before after number (q ∷ later) is (next, one, more) = (
    record {
      was = seen before.wire;
      now = seen next.wire;
      by = subst (λ (c : SeenCarrier). IsCarriedBy c (question_job number q.asked) (seen before.wire) (seen next.wire) q.carried) is one.carried;
      same = one.same;
    },
    own_by next after (number + 1) later (same_carrier before.carrier next.carrier one.carrier ∙ is) more,
  )

  pub all_own : (questions : List Question) (befores afters : List (SeenLane W)) → IsJoined seen carrier (trace_of 0 questions) befores afters → AreOwn carrier 0 questions
  all_own questions befores afters joined = elim (runs_at (CarriesJob seen) befores joined.lanes afters joined.carried 0) [
    | inl none ↦ none_given questions (sym (none.0) ∙ there)
    | inr at ↦
        own_by at.before at.after 0 questions (joined.carriers at.before (contains_of befores at.before (has_at befores 0 at.before at.at_before)))
        (subst (λ (e : Exchange SeenJob SeenCarried). Runs (CarriesJob seen) at.before e.given e.taken at.after) there at.ran)
  ]
    where
      there : get_or joined.lanes 0 unused ≡ exchange (jobs_of 0 questions) (carried_of questions)
      there = joined.exchanged 0 ∙ ap (λ (t : RunTrace). exchange_of 0 t) (sym (append-nil (trace_of 0 questions))) ∙ exchange_is 0 questions []

      none_given : (qs : List Question) → unused ≡ exchange (jobs_of 0 qs) (carried_of qs) → AreOwn carrier 0 qs
      none_given [] e = tt
      none_given (q ∷ later) e = absurd (clash (ap (λ (x : Exchange SeenJob SeenCarried). x.taken) e))
        where
          clash : [] ≡ q.carried ∷ carried_of later → ⊥
          clash same = cc

-- ---- nothing stopped it

no_class : (status : ℕ) (shown : Class) (reason : Reason) → class_ending status shown ≡ ending.Cancelled reason → ⊥
no_class status (class.Success said) reason e = cc
no_class status (class.Refusal code message) reason e = cc
no_class status (class.Uncertain cause) reason e = cc

no_cell : (cell : Option Holder) (reason : Reason) → KeepsCell None cell → reason_of cell ≡ Some reason → ⊥
no_cell None reason keeps e = none_is_some reason e
no_cell (Some cell) reason keeps e = absurd keeps

memory_no_cancel : (reason : Reason) → ending.Memory ≡ ending.Cancelled reason → ⊥
memory_no_cancel reason e = cc

not_cancelled : (carrier : SeenCarrier) (number : ℕ) (q : Question) → IsOwn carrier number q → (reason : Reason) → q.carried.ending ≡ ending.Cancelled reason → ⊥
not_cancelled carrier number q own reason e = elim own.by.carries.ends [
  | inl by_class ↦ no_class by_class.status by_class.shown reason (sym by_class.ending_is ∙ e)
  | inr others ↦ elim others [
    | inl cell ↦ no_cell q.carried.job.cell cell.reason own.same.cell cell.gave_is
    | inr memory ↦ memory_no_cancel reason (sym memory.ending_is ∙ e)
  ]
]

own_said : (op : Op) (e : Ending) → ((reason : Reason) → e ≡ ending.Cancelled reason → ⊥) → said_by op e ≡ Err halt.Stranger → ⊥
own_said op (ending.Gained said) own is = cc
own_said op (ending.Refused status code message) own is = cc
own_said op (ending.Uncertain why.Memory) own is = cc
own_said op (ending.Uncertain reason) own is = cc
own_said op (ending.Cancelled reason) own is = own reason refl
own_said op ending.Memory own is = cc

answers_own : (carrier : SeenCarrier) (number : ℕ) (q : Question) (result : Result Reply Halt) → IsOwn carrier number q → Answers number q result → result ≢ Err halt.Stranger
answers_own carrier number q result own (inl mine) e = own_said (op_of q.asked) q.carried.ending (not_cancelled carrier number q own) (sym mine.1 ∙ e)
answers_own carrier number q result own (inr other) e = other.0 (looks_own (question_job number q.asked) q.carried own.same)

memory_no_stranger : {X : Type 0} → ◌≡◌ {A = Result X Halt} (Err halt.Memory) (Err halt.Stranger) → ⊥
memory_no_stranger e = cc

pub one_own : (carrier : SeenCarrier) (number : ℕ) (asked : Ask) (questions : List Question) (result : Result Reply Halt) → AreOwn carrier number questions → AsksOnce number asked questions result → result ≢ Err halt.Stranger
one_own carrier number asked [] result own is e = memory_no_stranger (sym is ∙ e)
one_own carrier number asked (q ∷ later) result own is e = answers_own carrier number q result own.0 is.2 e

ok_no_stranger : {X : Type 0} (x : X) → ◌≡◌ {A = Result X Halt} (Ok x) (Err halt.Stranger) → ⊥
ok_no_stranger x e = cc

listing_no_stranger : {X : Type 0} (bad : _) → ◌≡◌ {A = Result X Halt} (Err (halt.Listing bad)) (Err halt.Stranger) → ⊥
listing_no_stranger bad e = cc

same_halt : {X : Type 0} (h k : Halt) → ◌≡◌ {A = Result X Halt} (Err h) (Err k) → h ≡ k
same_halt h k e = cc

pub listing_own : (carrier : SeenCarrier) (number : ℕ) (walk : Walk) (questions : List Question) (result : Result Walk Halt) → AreOwn carrier number questions → Lists number walk questions result → result ≢ Err halt.Stranger
listing_own carrier number walk [] result own lists e = memory_no_stranger (sym lists ∙ e)
listing_own carrier number walk (q ∷ later) result own lists e = elim lists.1 [
  | inl (page, brings, next) ↦ elim next [
    | inl more ↦ listing_own carrier (number + 1) (with_page walk page) later result own.1 more.2 e
    | inr end ↦ elim end.0 [
      | inl fits ↦ ok_no_stranger (with_page walk page) (sym fits.2 ∙ e)
      | inr others ↦ elim others [ inl bad ↦ listing_no_stranger bad.0 (sym bad.2 ∙ e) | inr memory ↦ memory_no_stranger (sym memory ∙ e) ]
    ]
  ]
  | inr (h, answers, none, is) ↦ answers_own carrier number q (Err h) own.0 answers (ap (λ (k : Halt). Err k) (same_halt h halt.Stranger (sym is ∙ e)))
]
