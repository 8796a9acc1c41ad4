-- The questions of a planning make a trace, and no lane brings a stranger.
use Rattle.std.proofs.Common.{◌≡◌, ◌∙◌, ◌+◌, ◌++◌, ℕ, suc, List, [], ◌∷◌, Option, Some, None, sym, ap, subst, inl, inr, arith, append_assoc, append-nil, length}
use Rattle.std.specs.Prelude.{Result, Ok, Err}
use Rattle.job_terms.specs.Ops.{op_of}
use Rattle.jobs.specs.declared.ending.Ending.{Ending}
use Rattle.jobs.specs.declared.ending.Ending.TheVariants as ending
use Rattle.lane_jobs.specs.Lanes.{SeenCarrier}
use Rattle.list_walk.specs.Pages.{Walk, with_page}
use Rattle.planning_questions.proofs.TraceLemmas.{listings_are_traced, questions_are_traced}
use Rattle.planning_questions.specs.Answers.{said_by}
use Rattle.planning_questions.specs.Listings.{Lists}
use Rattle.planning_questions.specs.Questions.{Answers, AsksOnce, Question, question_job, trace_of}
use Rattle.planning_questions.specs.Traced.{GoesOnFrom, IsBetween}
use Rattle.planning_questions.specs.declared.halt.Halt.{Halt}
use Rattle.planning_questions.specs.declared.halt.Halt.TheVariants as halt
use Rattle.question_runs.proofs.Own.{AreOwn, listing_own, one_own}
use Rattle.run_traces.specs.Traces.{Gave, IsRunTrace, RunTrace, Took}
use Rattle.s3_model.specs.declared.answers.Reply.{Reply}
use Rattle.s3_model.specs.declared.answers.Why.TheVariants as why
use Rattle.s3_model.specs.declared.outcomes.Cause.TheVariants as cause
use Rattle.s3_model.specs.declared.requests.Ask.{Ask}
use Rattle.s3_model.specs.declared.requests.Op.{Op}
use Rattle.service_dry_runs.specs.Endings.{MayHaltBy}
use Rattle.service_dry_runs.proofs.SideLemmas.{AsksSide, EndsSo, halt_of}

-- ---- halts

same_halt : {X : Type 0} (h k : Halt) → ◌≡◌ {A = Result X Halt} (Err h) (Err k) → h ≡ k
same_halt h k e = cc

ok_no_err : {X : Type 0} (x : X) (h : Halt) → ◌≡◌ {A = Result X Halt} (Err h) (Ok x) → ⊥
ok_no_err x h e = cc

some_halt : (h k : Halt) → Some h ≡ Some k → h ≡ k
some_halt h k e = cc

none_halt : (h : Halt) → None ≡ Some h → ⊥
none_halt h e = cc

-- ---- the trace

trace_in : {X : Type 0} (next : ℕ) (trace : RunTrace) (result : Result X Halt) → GoesOnFrom next trace result → IsRunTrace trace
trace_in next trace result (inl between) = between.trace_is
trace_in next trace result (inr ends) = ends.0.trace_is

between_in : {X : Type 0} (next : ℕ) (trace : RunTrace) (result : Result X Halt) → halt_of result ≡ None → GoesOnFrom next trace result → IsBetween next trace
between_in next trace result on (inl between) = between
between_in next trace result on (inr ends) = absurd (none_halt halt.Stranger (sym on ∙ ap halt_of ends.1))

-- nothing more was asked
none_asked : (number : ℕ) (questions : List Question) (trace : RunTrace) → questions ≡ [] → IsBetween number trace → IsBetween (number + length questions) (trace_of number questions ++ trace)
none_asked number questions trace none b =
    subst (λ (qs : List Question). IsBetween (number + length qs) (trace_of number qs ++ trace)) (sym none)
    (let same : number ≡ number + 0 = omega arith in subst (λ (n : ℕ). IsBetween n trace) same b)

went_on : {X : Type 0} (result : Result X Halt) → EndsSo result None → halt_of result ≡ None
went_on result (inl same) = same
went_on result (inr memory) = absurd (none_halt halt.Memory memory)

module _ (number : ℕ) (questions : List Question) (trace : RunTrace) (b : IsBetween number trace) where
  -- the run may go on behind questions that were answered
  pub goes_on : AsksSide number questions None → IsBetween (number + length questions) (trace_of number questions ++ trace)
  goes_on (inl quiet) = none_asked number questions trace quiet.0 b
  goes_on (inr (inl (walk, result, lists, ended))) =
      between_in (number + length questions) (trace_of number questions ++ trace) result (went_on result ended) (listings_are_traced number walk questions result trace lists b)
  goes_on (inr (inr (asked, result, asks, ended))) =
      between_in (number + length questions) (trace_of number questions ++ trace) result (went_on result ended) (questions_are_traced number asked questions result trace asks b)

  pub is_traced : (ended : Option Halt) → AsksSide number questions ended → IsRunTrace (trace_of number questions ++ trace)
  is_traced ended (inl quiet) = (none_asked number questions trace quiet.0 b).trace_is
  is_traced ended (inr (inl (walk, result, lists, so))) = trace_in (number + length questions) _ result (listings_are_traced number walk questions result trace lists b)
  is_traced ended (inr (inr (asked, result, asks, so))) = trace_in (number + length questions) _ result (questions_are_traced number asked questions result trace asks b)

-- questions behind questions
pub trace_more : (number : ℕ) (first later : List Question) → trace_of number (first ++ later) ≡ trace_of (number + length first) later ++ trace_of number first
trace_more number [] later =
    let same : number ≡ number + 0 = omega arith in
    ap (λ (n : ℕ). trace_of n later) same ∙ sym (append-nil (trace_of (number + 0) later))
trace_more number (q ∷ first) later =
    let steps = Took 0 q.carried ∷ Gave 0 (question_job number q.asked) ∷ [] in
    let same : (number + 1) + length first ≡ number + suc (length first) = omega arith in
    ap (λ (all : RunTrace). all ++ steps) (trace_more (number + 1) first later)
    ∙ append_assoc (trace_of ((number + 1) + length first) later) (trace_of (number + 1) first) steps
    ∙ ap (λ (n : ℕ). trace_of n later ++ (trace_of (number + 1) first ++ steps)) same

pub own_more : (carrier : SeenCarrier) (number : ℕ) (first later : List Question) → AreOwn carrier number (first ++ later) → AreOwn carrier number first × AreOwn carrier (number + length first) later
own_more carrier number [] later own =
    let same : number ≡ number + 0 = omega arith in (tt, subst (λ (n : ℕ). AreOwn carrier n later) same own)
own_more carrier number (q ∷ first) later own =
    let rest = own_more carrier (number + 1) first later own.1 in
    let same : (number + 1) + length first ≡ number + suc (length first) = omega arith in
    ((own.0, rest.0), subst (λ (n : ℕ). AreOwn carrier n later) same rest.1)

-- ---- what halts questions has a line

said_so : (of_op : Op) (e : Ending) (h : Halt) → ◌≡◌ {A = Result Reply Halt} (Err h) (said_by of_op e) → (h ≡ halt.Stranger → ⊥) → MayHaltBy h
said_so of_op (ending.Gained said) h is own = absurd (ok_no_err said h is)
said_so of_op (ending.Refused status code message) h is own = subst MayHaltBy (sym (same_halt h (halt.Answer (cause.Service of_op code message)) is)) tt
said_so of_op (ending.Uncertain why.Memory) h is own = subst MayHaltBy (sym (same_halt h halt.Memory is)) tt
said_so of_op (ending.Uncertain reason) h is own = subst MayHaltBy (sym (same_halt h (halt.Answer (cause.Lost of_op reason)) is)) tt
said_so of_op (ending.Cancelled reason) h is own = absurd (own (same_halt h halt.Stranger is))
said_so of_op ending.Memory h is own = subst MayHaltBy (sym (same_halt h halt.Memory is)) tt

answers_so : (number : ℕ) (q : Question) (h : Halt) → Answers number q (Err h) → (h ≡ halt.Stranger → ⊥) → MayHaltBy h
answers_so number q h (inl mine) own = said_so (op_of q.asked) q.carried.ending h mine.1 own
answers_so number q h (inr other) own = absurd (own (same_halt h halt.Stranger other.1))

one_halts : (number : ℕ) (asked : Ask) (questions : List Question) (h : Halt) → AsksOnce number asked questions (Err h) → (h ≡ halt.Stranger → ⊥) → MayHaltBy h
one_halts number asked [] h is own = subst MayHaltBy (sym (same_halt {X = Reply} h halt.Memory is)) tt
one_halts number asked (q ∷ later) h is own = answers_so number q h is.2 own

listing_halts : (number : ℕ) (walk : Walk) (questions : List Question) (h : Halt) → Lists number walk questions (Err h) → (h ≡ halt.Stranger → ⊥) → MayHaltBy h
listing_halts number walk [] h is own = subst MayHaltBy (sym (same_halt {X = Walk} h halt.Memory is)) tt
listing_halts number walk (q ∷ later) h is own = elim is.1 [
  | inl (page, brings, next) ↦ elim next [
    | inl more ↦ listing_halts (number + 1) (with_page walk page) later h more.2 own
    | inr end ↦ elim end.0 [
      | inl fits ↦ absurd (ok_no_err (with_page walk page) h fits.2)
      | inr others ↦ elim others [
        | inl refused ↦ subst MayHaltBy (sym (same_halt {X = Walk} h (halt.Listing refused.0) refused.2)) tt
        | inr memory ↦ subst MayHaltBy (sym (same_halt {X = Walk} h halt.Memory memory)) tt
      ]
    ]
  ]
  | inr (k, answers, none, same) ↦
      let is_k = same_halt {X = Walk} h k same in
      subst MayHaltBy (sym is_k) (answers_so number q k answers (λ e. own (is_k ∙ e)))
]

-- an ending that is an error
abbrev HaltsBy : {X : Type 0} → Result X Halt → Type 0
HaltsBy (Ok x) = Unit {0}
HaltsBy (Err h) = MayHaltBy h

ended_so : {X : Type 0} (result : Result X Halt) (h : Halt) → EndsSo result (Some h) → HaltsBy result → MayHaltBy h
ended_so result h (inr memory) halts = subst MayHaltBy (sym (some_halt h halt.Memory memory)) tt
ended_so (Ok x) h (inl same) halts = absurd (none_halt h same)
ended_so (Err k) h (inl same) halts = subst MayHaltBy (some_halt k h same) halts

module _ (carrier : SeenCarrier) (number : ℕ) (questions : List Question) (own : AreOwn carrier number questions) where
  listing_by : (walk : Walk) (result : Result Walk Halt) → Lists number walk questions result → HaltsBy result
  listing_by walk (Ok told) lists = tt
  listing_by walk (Err h) lists = listing_halts number walk questions h lists (λ e. listing_own carrier number walk questions (Err h) own lists (ap (λ (k : Halt). Err k) e))

  one_by : (asked : Ask) (result : Result Reply Halt) → AsksOnce number asked questions result → HaltsBy result
  one_by asked (Ok said) asks = tt
  one_by asked (Err h) asks = one_halts number asked questions h asks (λ e. one_own carrier number asked questions (Err h) own asks (ap (λ (k : Halt). Err k) e))

  pub side_halts : (h : Halt) → AsksSide number questions (Some h) → MayHaltBy h
  side_halts h (inl (none, inl went)) = absurd (none_halt h (sym went))
  side_halts h (inl (none, inr memory)) = subst MayHaltBy (sym (some_halt h halt.Memory memory)) tt
  side_halts h (inr (inl (walk, result, lists, so))) = ended_so result h so (listing_by walk result lists)
  side_halts h (inr (inr (asked, result, asks, so))) = ended_so result h so (one_by asked result asks)
