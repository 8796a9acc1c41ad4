-- The steps of questions are all of the planning.
use Rattle.std.proofs.Common.{◌+◌, ℕ, List, [], ◌∷◌, Option, refl, subst, ap, inl, inr}
use Rattle.run_traces.specs.Plannings.{IsOfPlanning}
use Rattle.run_traces.specs.Traces.{Gave, RunStep, Took}
use Rattle.s3_model.specs.Talks.{WireLog}
use Rattle.s3_model.specs.declared.outcomes.JobId.{JobId}
use Rattle.shared_lemmas.proofs.Members.{Has, has, has-append_cases, in_none}
use Rattle.trace_laws.proofs.Own.{own_names}
use Rattle.planning_laws.proofs.Places.{HaveNames, all_at, names_of}
use Rattle.planning_laws.specs.Laws.{QuestionsArePlannedFirst}
use Rattle.planning_questions.specs.Questions.{Question, question_job, trace_of}

of_planning : (n : ℕ) (qs : List Question) → HaveNames n qs → (step : RunStep) → Has (trace_of n qs) step → IsOfPlanning step
of_planning n [] names step h = absurd h
of_planning n (q ∷ qs) names step h = elim (has-append_cases (trace_of (n + 1) qs) (Took 0 q.carried ∷ Gave 0 (question_job n q.asked) ∷ []) step h) [
  | inl later ↦ of_planning (n + 1) qs names.1 step later
  | inr here ↦ elim here [
    | inl took ↦ subst IsOfPlanning took (ap (λ (id : JobId). id.task) names.0)
    | inr others ↦ elim others [ inl gave ↦ subst IsOfPlanning gave refl | inr none ↦ absurd none ]
  ]
]

pub planned_first : {W : Type 0} (seen : W → Option WireLog) → QuestionsArePlannedFirst seen
planned_first seen carrier questions befores afters joined =
    let names = names_of (trace_of 0 questions) (own_names seen carrier (trace_of 0 questions) befores afters joined) 0 questions (all_at questions) in
    record {
      since = [];
      is = refl;
      of_planning = λ step known. of_planning 0 questions names step (has (trace_of 0 questions) step known);
      of_tasks = λ step known. absurd (in_none step known);
    }
