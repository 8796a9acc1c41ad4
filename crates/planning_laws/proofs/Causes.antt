-- What is owed of questions: an attempt that is left, and where memory ran out for one. So they are carried.
use Rattle.std.proofs.Common.{◌≡◌, ◌∙◌, ◌<◌, ℕ, true, List, Option, sym, subst, ap, arith, get_or, length}
use Rattle.std.specs.Prelude.{Contains, IsSome}
use Rattle.job_terms.specs.Dispatches.{Dispatched}
use Rattle.lane_jobs.specs.Lanes.{SeenCarrier}
use Rattle.lane_journals.specs.Journals.{AreOfLanes}
use Rattle.lane_laws.proofs.RunLaw.{jobs_are_carried}
use Rattle.lane_laws.specs.Runs.{Giving, HaveCauses, RanOut, dispatched_of}
use Rattle.run_promise.specs.Schedule.{Setting}
use Rattle.run_traces.specs.Traces.{journal_of}
use Rattle.s3_model.specs.Talks.{WireLog}
use Rattle.s3_model.specs.declared.outcomes.JobId.{JobId}
use Rattle.s3_model.specs.declared.outcomes.Reason.{Reason}
use Rattle.shared_lemmas.proofs.Clashes.{false_true}
use Rattle.shared_lemmas.proofs.Members.{contains_of, has_at, index_of}
use Rattle.planning_laws.proofs.Asked.{AreOf, At, of_place}
use Rattle.planning_laws.proofs.Keeping.{course_of, pairs}
use Rattle.planning_laws.specs.Laws.{QuestionsAreCarried, QuestionsHaveCauses, TellsWants}
use Rattle.planning_questions.specs.Questions.{Question, trace_of}

module _ (qs : List Question) (gs : List Giving) (all : AreOf 0 qs gs) where
  giving_at : (g : Giving) → Contains gs g → (k : ℕ) × At 0 k qs g
  giving_at g known = let place = index_of gs g known in (place.0, of_place 0 qs gs all place.0 g place.1)

  pub all_apart : (i j : ℕ) (d : Dispatched) → i < j → j < length (dispatched_of gs) → (get_or (dispatched_of gs) i d).dispatch.job ≡ (get_or (dispatched_of gs) j d).dispatch.job → ⊥
  all_apart = pairs qs gs all (λ (a b : Dispatched). a.dispatch.job ≡ b.dispatch.job → ⊥) (λ m n q r g h less a b same.
      let number = ap (λ (job : JobId). job.number) (sym a.job ∙ same ∙ b.job) in omega arith)

  pub causes : (s : Setting) (carrier : SeenCarrier) (coming : List Dispatched) → 0 < s.config.attempts → TellsWants s qs → HaveCauses carrier.endpoint carrier.keys s gs coming
  causes s carrier coming some wants = record {
    left = λ g known. let at = giving_at g known in subst (λ (n : ℕ). n < s.config.attempts) (sym at.1.is.earlier) some;
    wants = λ g known out.
        let at = giving_at g known in
        subst (λ (task : Option ℕ). s.wanted_memory task ≡ true) (sym (ap (λ (j : JobId). j.task) at.1.is.job))
        (wants at.1.q (contains_of qs at.1.q (has_at qs at.0 at.1.q at.1.at)) (subst RanOut at.1.is.ended out));
    stops = λ g known gave cut. let at = giving_at g known in absurd (false_true (subst (λ (o : Option Reason). IsSome o) at.1.is.unstopped gave));
    given_again = λ i j d less inside same. absurd (all_apart i j d less inside same);
  }

module _ {W : Type 0} (seen : W → Option WireLog) where
  pub have_causes : QuestionsHaveCauses seen
  have_causes carrier s befores afters course is some wants =
      causes course.questions course.givings (course_of seen carrier s befores afters course is) s carrier course.coming some wants

  pub are_carried : QuestionsAreCarried seen
  are_carried carrier s befores afters course is some same wants =
      jobs_are_carried carrier.endpoint carrier.keys s (journal_of (trace_of 0 course.questions)) course.logs course.notes course.givings course.coming is.has_givings.journal
      (subst (λ (n : ℕ). AreOfLanes carrier.endpoint carrier.keys n course.givings course.logs course.notes) same is.has_givings.lanes)
      (have_causes carrier s befores afters course is some wants)
