-- A planning with one thing changed is refused.
use Rattle.std.proofs.Common.{◌≡◌, ◌∙◌, ◌<◌, ℕ, false, List, [], ◌∷◌, Some, refl, ap, arith}
use Rattle.s3_model.specs.declared.requests.Ask.{Ask}
use Rattle.s3_model.specs.declared.answers.Class.{Class}
use Rattle.s3_model.specs.declared.answers.Listed.{Listed}
use Rattle.s3_model.specs.declared.outcomes.JobId.{JobId}
use Rattle.s3_model.specs.declared.settings.Limits.{Limits}
use Rattle.s3_model.specs.declared.tries.Mark.TheVariants as mark
use Rattle.s3_model.specs.Talks.{Talk, Moment, Began}
use Rattle.run_promise.specs.Carried.{IsCarried}
use Rattle.job_terms.specs.Dispatches.{Dispatched}
use Rattle.run_promise.specs.Schedule.{IsBefore, IsSchedule, planning_of}
use Rattle.shared_lemmas.proofs.Lists.{no_cons}
use Rattle.promise_examples.specs.Pages.{list_job, talk_of, token}
use Rattle.promise_examples.specs.Plannings as specs
use Rattle.promise_examples.specs.Plannings.{PlanningsAreRefused, EachPlanningIsRefused, talk_with_body}
use Rattle.promise_examples.specs.Reading.{Reads, signed_body}
use Rattle.promise_examples.specs.Runs.{Example}
use Rattle.promise_examples.proofs.Concrete.{at}
use Rattle.promise_examples.proofs.GivenAgain.{of_pair}
use Rattle.promise_examples.proofs.Refuted.{at_first, refute_with, text_of}
use Rattle.promise_examples.proofs.Shown.{made}

module _ (limits : Limits) (page_of : List ℕ → Listed) where
  abbrev Plans : List Dispatched → Type 0
  Plans planning = Unit {0}

  abbrev Shows : Ask → ℕ → Talk → Class → List ℕ → Type 0
  Shows = Reads page_of

  abbrev Sched : Example → List Dispatched → List Dispatched → Type 0
  Sched e xs coming = IsSchedule Shows e.setting Plans xs coming

  abbrev Carries : Example → List Dispatched → List Dispatched → Type 0
  Carries e xs coming = IsCarried Shows signed_body [] 80 e.setting e.journal e.logs e.notes xs coming

  -- a planning job that was answered at its first attempt
  abbrev page : (number lane given came : ℕ) → Talk → Ask → List ℕ → ℕ → ℕ → Dispatched
  page number lane given came talk asked body limit size = made
      (record { job = list_job number; lane = lane; given_at = given; came_at = Some came; earlier = 0; is_second = false; attempts = record { mark = mark.Success; talk = talk } ∷ [] })
      asked body limit size

  module _ (a1 : Ask) (b1 : List ℕ) (l1 s1 : ℕ) (a2 : Ask) (b2 : List ℕ) (l2 s2 : ℕ) (coming : List Dispatched) where
    on_early_page : Sched (specs.early_page limits) (page 0 0 0 2 (talk_of 5 token) a1 b1 l1 s1 ∷ page 1 0 1 3 (talk_of 6 []) a2 b2 l2 s2 ∷ []) coming → ⊥
    on_early_page schedule =
        let first = page 0 0 0 2 (talk_of 5 token) a1 b1 l1 s1 in
        let last = page 1 0 1 3 (talk_of 6 []) a2 b2 l2 s2 in
        let late : 2 < 1 = of_pair (λ (a b : Dispatched). IsBefore a.dispatch.came_at b.dispatch.given_at) (planning_of (first ∷ last ∷ [])) schedule.one_by_one 0 1 first last (omega arith) refl refl in
        omega arith

    on_skipped_number : Sched (specs.skipped_number limits) (page 0 0 0 1 (talk_of 5 token) a1 b1 l1 s1 ∷ page 2 0 2 3 (talk_of 6 []) a2 b2 l2 s2 ∷ []) coming → ⊥
    on_skipped_number schedule =
        let number : ◌≡◌ {A = ℕ} 2 1 = ap (λ (job : JobId). job.number) (schedule.numbered 1 (page 2 0 2 3 (talk_of 6 []) a2 b2 l2 s2) refl).0 in
        omega arith

    on_second_lane : Sched (specs.second_lane limits) (page 0 0 0 1 (talk_of 5 token) a1 b1 l1 s1 ∷ page 1 1 2 3 (talk_of 6 []) a2 b2 l2 s2 ∷ []) coming → ⊥
    on_second_lane schedule =
        let lane : ◌≡◌ {A = ℕ} 1 0 = (schedule.numbered 1 (page 1 1 2 3 (talk_of 6 []) a2 b2 l2 s2) refl).1 in
        omega arith

    abbrev asked_with_body : List Dispatched
    asked_with_body = page 0 0 0 1 (talk_of 5 token) a1 b1 l1 s1 ∷ page 1 0 2 3 talk_with_body a2 b2 l2 s2 ∷ []

    on_page_with_body : Sched (specs.page_with_body limits) asked_with_body coming → Carries (specs.page_with_body limits) asked_with_body coming → ⊥
    on_page_with_body schedule carried =
        let last = page 1 0 2 3 talk_with_body a2 b2 l2 s2 in
        let n = (carried.noted 0).2 in
        let at_five = at_first 5 (Moment 6 ∷ Began ∷ []) n.0 n.1 n.2 n.4 n.5 in
        let m = n.9 in
        let text = text_of page_of last (record { mark = mark.Success; talk = talk_with_body }) 1 6 m.1 (1 ∷ []) refl refl m.8 in
        no_cons 1 [] (text.1 ∙ (schedule.planned last (at asked_with_body 1 last refl) refl).1)

  pub plannings : PlanningsAreRefused limits page_of
  plannings = record {
    early_page = refute_with page_of Plans (specs.early_page limits) (λ a1 b1 l1 s1 a2 b2 l2 s2 coming schedule carried. on_early_page a1 b1 l1 s1 a2 b2 l2 s2 coming schedule);
    skipped_number = refute_with page_of Plans (specs.skipped_number limits) (λ a1 b1 l1 s1 a2 b2 l2 s2 coming schedule carried. on_skipped_number a1 b1 l1 s1 a2 b2 l2 s2 coming schedule);
    second_lane = refute_with page_of Plans (specs.second_lane limits) (λ a1 b1 l1 s1 a2 b2 l2 s2 coming schedule carried. on_second_lane a1 b1 l1 s1 a2 b2 l2 s2 coming schedule);
    page_with_body = refute_with page_of Plans (specs.page_with_body limits) (λ a1 b1 l1 s1 a2 b2 l2 s2 coming schedule carried. on_page_with_body a1 b1 l1 s1 a2 b2 l2 s2 coming schedule carried);
  }

pub each_planning : EachPlanningIsRefused
each_planning limits page_of = plannings limits page_of
