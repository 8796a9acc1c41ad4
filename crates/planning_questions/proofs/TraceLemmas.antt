-- A question more makes a trace again.
use Rattle.std.proofs.Common.{◌≡◌, ◌∙◌, ◌+◌, ◌≤◌, ◌==◌, ◌++◌, ℕ, Bool, true, false, cond, suc, List, [], ◌∷◌, Some, refl, sym, ap, subst, inl, inr, arith, length, slice_get, append_assoc}
use Rattle.std.proofs.Math.ListN.{drop_of_length-le}
use Rattle.std.proofs.lemmas.List.{length-append, length-drop}
use Rattle.std.proofs.Math.Seq.{drop-append_seam}
use Rattle.std.specs.Prelude.{◌&&◌, Result, Err, drop}
use Rattle.job_terms.specs.Jobs.{is_job, is_task}
use Rattle.job_terms.specs.Ops.{is_op}
use Rattle.jobs.specs.Endings.{SeenCarried}
use Rattle.jobs.specs.Jobs.{SeenJob}
use Rattle.list_walk.specs.Pages.{Walk, with_page}
use Rattle.s3_model.specs.declared.answers.Reply.{Reply}
use Rattle.s3_model.specs.declared.outcomes.JobId.{JobId}
use Rattle.s3_model.specs.declared.requests.Ask.{Ask}
use Rattle.shared_lemmas.proofs.Clashes.{none_is_some}
use Rattle.run_traces.specs.Exchanges.{MayBeOf}
use Rattle.run_traces.specs.Traces.{Gave, IsNotPending, IsRunTrace, RunTrace, Took, pending_in, tries_of}
use Rattle.run_traces.proofs.Steps.{gave_given, gave_here, gave_taken, given_count, given_in, taken_count, taken_in, took_given, took_taken}
use Rattle.run_traces.proofs.Pending.{taken_behind}
use Rattle.planning_questions.specs.Questions.{Answers, Question, question_job, trace_of}
use Rattle.planning_questions.specs.Traced.{EndsInStranger, IsBetween, GoesOnFrom, ListingsAreTraced, QuestionsAreTraced}
use Rattle.planning_questions.specs.declared.halt.Halt.{Halt}
use Rattle.planning_questions.specs.declared.halt.Halt.TheVariants as halt

none_there : {X : Type 0} (xs : List X) (k : ℕ) (x : X) → xs ≡ [] → slice_get xs k ≡ Some x → ⊥
none_there xs k x none at = none_is_some x (subst (λ (ys : List _). slice_get ys k ≡ Some x) none at)

one_longer : {X : Type 0} (xs : List X) (x : X) → length (xs ++ x ∷ []) ≡ length xs + 1
one_longer xs x = length-append xs (x ∷ [])

number_below : (a n m : ℕ) → a ≡ n → n + 1 ≤ m → (a == m) ≡ false
number_below a n m same less = grind (arith, same, less)

not_both : (x y : Bool) → (x && y && false) ≡ false
not_both true true = refl
not_both true false = refl
not_both false y = refl

other_job : (a b : JobId) → (a.number == b.number) ≡ false → is_job a b ≡ false
other_job a b apart = ap (λ (test : Bool). is_task a.task b.task && is_op a.op b.op && test) apart ∙ not_both (is_task a.task b.task) (is_op a.op b.op)

module _ (number : ℕ) (asked : Ask) (c : SeenCarried) (trace : RunTrace) (b : IsBetween number trace) where
  abbrev job : SeenJob
  job = question_job number asked

  abbrev given : RunTrace
  given = Gave 0 job ∷ trace

  abbrev taken : RunTrace
  taken = Took 0 c ∷ given

  -- as many outcomes as jobs
  same_count : (lane : ℕ) → given_count lane trace ≡ taken_count lane trace
  same_count lane =
      let long = length-drop (taken_count lane trace) (given_in lane trace) in
      let none = ap (λ (js : List SeenJob). length js) (b.none_pending lane) in
      let few = taken_behind trace b.trace_is lane in
      omega arith

  -- the one job that is pending
  oldest : pending_in 0 given ≡ job ∷ []
  oldest =
      ap (λ (n : List SeenCarried). drop (length n) (given_in 0 given)) (gave_taken trace 0 job 0)
      ∙ ap (λ (js : List SeenJob). drop (taken_count 0 trace) js) (gave_here trace 0 job)
      ∙ ap (λ (n : ℕ). drop n (given_in 0 trace ++ job ∷ [])) (sym (same_count 0))
      ∙ drop-append_seam (given_in 0 trace) (job ∷ [])

  may_give : IsNotPending job.id trace × (job.had ≡ tries_of job.id trace)
  may_give = (
    λ lane place other at same. none_there (pending_in lane trace) place other (b.none_pending lane) at,
    sym (b.numbers_left job.id refl (omega arith)),
  )

  is_trace : IsRunTrace taken
  is_trace =
      let one = ap (λ (js : List SeenJob). length js) oldest in
      (omega arith, (may_give, b.trace_is))

  none_left : (lane : ℕ) → pending_in lane taken ≡ []
  none_left lane = drop_of_length-le (given_in lane taken) enough
    where
      enough : length (given_in lane taken) ≤ length (taken_in lane taken)
      enough =
          let same = same_count lane in
          let still = ap (λ (js : List SeenJob). length js) (took_given given 0 c lane) in
          let before = ap (λ (cs : List SeenCarried). length cs) (gave_taken trace 0 job lane) in
          elim (gave_given trace 0 job lane) [
            | inl here ↦ elim (took_taken given 0 c lane) [
              | inl too ↦
                  let a = ap (λ (js : List SeenJob). length js) here.1 ∙ one_longer (given_in lane trace) job in
                  let t = ap (λ (cs : List SeenCarried). length cs) too.1 ∙ one_longer (taken_in lane given) c in
                  omega arith
              | inr apart ↦ absurd (apart.0 here.0)
            ]
            | inr apart ↦ elim (took_taken given 0 c lane) [
              | inl too ↦ absurd (apart.0 too.0)
              | inr other ↦
                  let a = ap (λ (js : List SeenJob). length js) apart.1 in
                  let t = ap (λ (cs : List SeenCarried). length cs) other.1 in
                  omega arith
            ]
          ]

  -- it came back as itself
  own : MayBeOf job c → IsBetween (number + 1) taken
  own may = record {
    trace_is = is_trace;
    none_pending = none_left;
    numbers_left = λ id planning later.
        let same : c.job.id.number ≡ number = ap (λ (i : JobId). i.number) may.same.id in
        ap (λ (test : Bool). cond test (tries_of id trace + length c.tries) (tries_of id trace)) (other_job c.job.id id (number_below c.job.id.number number id.number same later))
        ∙ b.numbers_left id planning (omega arith);
  }

  -- or it cannot
  stranger : ¬ (MayBeOf job c) → EndsInStranger taken
  stranger other = record {
    trace_is = is_trace;
    none_pending = none_left;
    stranger = record {
      later = [];
      before = given;
      lane = 0;
      carried = c;
      is = refl;
      job = job;
      oldest = ap (λ (js : List SeenJob). slice_get js 0) oldest;
      other = other;
    };
  }

between_as : (m n : ℕ) (trace : RunTrace) → m ≡ n → IsBetween m trace → IsBetween n trace
between_as m n trace e b = subst (λ (k : ℕ). IsBetween k trace) e b

-- nothing was asked
none_more : {X : Type 0} (number : ℕ) (trace : RunTrace) (result : Result X Halt) → IsBetween number trace → GoesOnFrom (number + 0) trace result
none_more number trace result b = inl (between_as number (number + 0) trace (omega arith) b)

-- the last question
one_more : {X : Type 0} (number : ℕ) (q : Question) (trace : RunTrace) (said : Result Reply Halt) (result : Result X Halt) → (said ≡ Err halt.Stranger → result ≡ Err halt.Stranger) → Answers number q said → IsBetween number trace
    → GoesOnFrom (number + 1) (Took 0 q.carried ∷ Gave 0 (question_job number q.asked) ∷ trace) result
one_more number q trace said result passed answers b = elim answers [
  | inl mine ↦ inl (own number q.asked q.carried trace b mine.0)
  | inr other ↦ inr (stranger number q.asked q.carried trace b other.0, passed other.1)
]

pub questions_are_traced : QuestionsAreTraced
questions_are_traced number asked [] result trace came b = none_more number trace result b
questions_are_traced number asked (q ∷ later) result trace came b =
    subst (λ (rest : List Question). GoesOnFrom (number + length (q ∷ rest)) (trace_of number (q ∷ rest) ++ trace) result) (sym came.1)
    (one_more number q trace result result (λ e. e) came.2 b)

halt_as : (h : Halt) → ◌≡◌ {A = Result Reply Halt} (Err h) (Err halt.Stranger) → ◌≡◌ {A = Result Walk Halt} (Err h) (Err halt.Stranger)
halt_as h e = cc

pub listings_are_traced : ListingsAreTraced
listings_are_traced number walk [] result trace lists b = none_more number trace result b
listings_are_traced number walk (q ∷ later) result trace lists b = elim lists.1 [
  | inl (page, brings, next) ↦
      let here = own number q.asked q.carried trace b brings.0 in
      elim next [
        | inl more ↦
            subst (λ (all : RunTrace). GoesOnFrom (number + suc (length later)) all result) (sym (append_assoc (trace_of (number + 1) later) (Took 0 q.carried ∷ Gave 0 (question_job number q.asked) ∷ []) trace))
            (let count : (number + 1) + length later ≡ number + suc (length later) = omega arith in
            subst (λ (n : ℕ). GoesOnFrom n (trace_of (number + 1) later ++ (Took 0 q.carried ∷ Gave 0 (question_job number q.asked) ∷ trace)) result) count
            (listings_are_traced (number + 1) (with_page walk page) later result (Took 0 q.carried ∷ Gave 0 (question_job number q.asked) ∷ trace) more.2 here))
        | inr end ↦ subst (λ (rest : List Question). GoesOnFrom (number + length (q ∷ rest)) (trace_of number (q ∷ rest) ++ trace) result) (sym end.1) (inl here)
      ]
  | inr (h, answers, none, is) ↦
      subst (λ (rest : List Question). GoesOnFrom (number + length (q ∷ rest)) (trace_of number (q ∷ rest) ++ trace) result) (sym none)
      (one_more number q trace (Err h) result (λ e. is ∙ halt_as h e) answers b)
]
