-- One question: what was done for it, and what it says.
use Rattle.std.proofs.Common.{◌≡◌, ◌∙◌, ◌+◌, ◌<◌, ◌++◌, ℕ, false, List, [], ◌∷◌, Option, Some, None, refl, sym, ap, subst, inl, inr, arith, length, get_or, set, append_assoc}
use Rattle.std.proofs.lemmas.List.{get_or-set_same, length-set}
use Rattle.std.specs.Prelude.{Result, is_some}
use Rattle.bounded_executor.specs.Desk.{DeskState, gives, takes}
use Rattle.bounded_executor.specs.Exchange.{Exchange, unused, with_given, with_taken}
use Rattle.jobs.specs.Endings.{SeenCarried}
use Rattle.jobs.specs.Jobs.{SeenJob}
use Rattle.pending_jobs.specs.Pending.{IsBack, KeepsRoom, SeenPendingJobs, out_of, pending_of, with_out}
use Rattle.pending_jobs.specs.declared.pending.Pending.{Pending}
use Rattle.s3_model.specs.declared.answers.Reply.{Reply}
use Rattle.s3_model.specs.declared.bytes.Part.{Part}
use Rattle.s3_model.specs.declared.outcomes.Event.{Event}
use Rattle.s3_model.specs.declared.outcomes.Event.TheVariants as entry
use Rattle.s3_model.specs.declared.outcomes.JobId.{JobId}
use Rattle.s3_model.specs.declared.requests.Ask.{Ask}
use Rattle.shared_lemmas.proofs.Clashes.{true_is_false}
use Rattle.run_traces.specs.Exchanges.{AreExchangesOf, MayBeOf, room_of}
use Rattle.run_traces.specs.Traces.{Gave, RunTrace, Took}
use Rattle.run_traces.proofs.Exchanging.{exchanges_gave, exchanges_took}
use Rattle.planning_questions.specs.Answers.{SaysBack, said_by}
use Rattle.planning_questions.specs.Questions.{Answers, HasQuestions, AsksOnce, IsReadyToAsk, progress_of, question_job, trace_of}
use Rattle.planning_questions.specs.declared.halt.Halt.{Halt}

-- ---- the test

no_part : (now : Option Part) → KeepsRoom None now → now ≡ None
no_part None kept = refl
no_part (Some part) kept = absurd kept

keeps_none : (now : Option Part) → is_some now ≡ false → KeepsRoom None now
keeps_none None none = tt
keeps_none (Some part) none = absurd (true_is_false none)

module _ (number : ℕ) (asked : Ask) (c : SeenCarried) where
  may_be : IsBack (pending_of (question_job number asked)) c.job → MayBeOf (question_job number asked) c
  may_be back = record {
    same = record { id = back.id; cell = back.cell; had = back.had; part = ap (λ (p : Option Part). is_some p) (no_part c.job.part back.part) };
    room = ap room_of (no_part c.job.part back.part);
  }

  is_back : MayBeOf (question_job number asked) c → IsBack (pending_of (question_job number asked)) c.job
  is_back may = record { id = may.same.id; cell = may.same.cell; part = keeps_none c.job.part may.same.part; had = may.same.had }

  answers : (result : Result Reply Halt) → SaysBack (pending_of (question_job number asked) ∷ []) c result → Answers number (record { asked = asked; carried = c }) result
  answers result heard = elim heard [
    | inl own ↦ inl (may_be own.0, own.1 ∙ ap (λ (id : JobId). said_by id.op c.ending) own.0.id)
    | inr other ↦ inr (λ may. other.0 (is_back may), other.1)
  ]

-- ---- what was done

module _ (job : SeenJob) (c : SeenCarried) (lanes : List (Exchange SeenJob SeenCarried)) where
  abbrev with_job : List (Exchange SeenJob SeenCarried)
  with_job = set lanes 0 (with_given (get_or lanes 0 unused) job)

  abbrev with_both : List (Exchange SeenJob SeenCarried)
  with_both = set with_job 0 (with_taken (get_or with_job 0 unused) c)

  exchanged : 0 < length lanes → (trace : RunTrace) → AreExchangesOf trace lanes → AreExchangesOf (Took 0 c ∷ Gave 0 job ∷ trace) with_both
  exchanged some trace are =
      let long : length with_job ≡ length lanes = length-set lanes 0 (with_given (get_or lanes 0 unused) job) in
      exchanges_took (Gave 0 job ∷ trace) with_job 0 c (omega arith) (exchanges_gave trace lanes 0 job some are)

module _ {W : Type 0} (number : ℕ) (asked : Ask) (d d1 d2 : DeskState W SeenJob SeenCarried) (p p1 : SeenPendingJobs) (j j1 j2 : List Event) (result : Result Reply Halt) (job : SeenJob)
    (idle : IsReadyToAsk d p) (job_is : job ≡ question_job number asked) (gave : d1 ≡ gives d 0 job) (noted : j1 ≡ j ++ entry.Given job.id 0 ∷ [])
    (kept : p1 ≡ with_out p 0 (out_of p 0 ++ pending_of job ∷ [])) where
  out_then : out_of p1 0 ≡ pending_of (question_job number asked) ∷ []
  out_then =
      ap (λ (q : SeenPendingJobs). out_of q 0) kept
      ∙ get_or-set_same p.lanes 0 (out_of p 0 ++ pending_of job ∷ []) [] idle.pending_lanes
      ∙ ap (λ (all : List Pending). all ++ pending_of job ∷ []) idle.none_pending
      ∙ ap (λ (one : SeenJob). pending_of one ∷ []) job_is

  pub asked_one : (carried : SeenCarried) × (d2 ≡ takes d1 0 carried) × (j2 ≡ j1 ++ entry.Came carried.job.id 0 carried.tries ∷ []) × SaysBack (out_of p1 0) carried result
      → HasQuestions number (number + 1) (progress_of d j) (progress_of d2 j2) (λ questions. AsksOnce number asked questions result)
  asked_one (c, taken, came, heard) = record {
    questions = record { asked = asked; carried = c } ∷ [];
    made = record {
      exchanged = λ trace are. subst (λ (lanes : List (Exchange SeenJob SeenCarried)). AreExchangesOf (trace_of number (record { asked = asked; carried = c } ∷ []) ++ trace) lanes) (sym lanes_are)
          (exchanged (question_job number asked) c d.lanes idle.lanes trace are);
      journaled = came ∙ ap (λ (all : List Event). all ++ entry.Came c.job.id 0 c.tries ∷ []) noted
          ∙ ap (λ (one : SeenJob). (j ++ entry.Given one.id 0 ∷ []) ++ entry.Came c.job.id 0 c.tries ∷ []) job_is
          ∙ append_assoc j (entry.Given (question_job number asked).id 0 ∷ []) (entry.Came c.job.id 0 c.tries ∷ []);
    };
    next_is = refl;
    comes_to = (refl, refl, answers number asked c result (subst (λ (out : List Pending). SaysBack out c result) out_then heard));
  }
    where
      lanes_are : d2.lanes ≡ with_both (question_job number asked) c d.lanes
      lanes_are =
          ap (λ (e : DeskState W SeenJob SeenCarried). e.lanes) taken
          ∙ ap (λ (e : DeskState W SeenJob SeenCarried). (takes e 0 c).lanes) gave
          ∙ ap (λ (one : SeenJob). (takes (gives d 0 one) 0 c).lanes) job_is
