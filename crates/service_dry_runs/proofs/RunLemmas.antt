-- A planning over the lane of the first wire, which was opened and closed.
use Rattle.std.proofs.Common.{◌≡◌, ◌∙◌, ◌+◌, ◌≤◌, ◌++◌, ℕ, List, [], ◌∷◌, Option, Some, None, refl, sym, ap, subst, arith, drop, length, map, take}
use Rattle.std.specs.Prelude.{Result, Err}
use Rattle.bounded_executor.specs.Desk.{DeskState, SameDesk}
use Rattle.bounded_executor.specs.Runs.{EachRuns}
use Rattle.command_errands.specs.Errands.{TakesPlaces}
use Rattle.job_terms.proofs.GainLemmas.{gains_as}
use Rattle.job_terms.specs.Gains.{Gains}
use Rattle.jobs.specs.Endings.{SeenCarried}
use Rattle.jobs.specs.Jobs.{SeenJob}
use Rattle.lane_jobs.specs.Lanes.{SeenLane}
use Rattle.lane_workers.proofs.Carrying.{lanes_come_back}
use Rattle.lane_workers.specs.LaneWorkers.{AreLater, LaneCarries, lane_over, wires_of}
use Rattle.planning_desks.proofs.JoinLemmas.{desks_are_joined}
use Rattle.planning_desks.specs.PlanningDesks.{ComesBack, fresh}
use Rattle.planning_questions.specs.Questions.{GoesOnBy, HasQuestions, Progress, Question, progress_of, trace_of}
use Rattle.planning_questions.specs.declared.halt.Halt.TheVariants as halt
use Rattle.question_runs.proofs.Own.{all_own}
use Rattle.question_runs.proofs.Shown.{asked_over, asked_unseen}
use Rattle.question_runs.specs.Asked.{AskedOver, log_of}
use Rattle.run_traces.specs.Traces.{journal_of}
use Rattle.s3_model.specs.Talks.{Note, Talk, WireLog}
use Rattle.s3_model.specs.declared.outcomes.Event.{Event}
use Rattle.trace_laws.specs.Joined.{IsJoined}
use Rattle.service_plans.specs.Local.{FilesSeen}
use Rattle.service_plans.specs.Plans.{PlansCommand}
use Rattle.service_plans.specs.declared.halted.Halted.{Halted}
use Rattle.service_plans.specs.declared.halted.Halted.TheVariants as halted
use Rattle.service_plans.specs.declared.planned.Planned.{Planned}
use Rattle.service_dry_runs.specs.Endings.{CanEnd}
use Rattle.service_dry_runs.specs.Plannings.{AsksForPlan, Assignment, OnFirstAlone, PlansOverFirst}
use Rattle.service_dry_runs.proofs.PlanLemmas.{plan_ends, plan_traced, unplanned}

module _ {W : Type 0} (seen : W → Option WireLog) (faults : W → ℕ) (of_plan : Assignment) (files : FilesSeen) where
  -- what is known of a planning that was joined
  pub record Known (before after : List W) (events : List Event) (result : Result Planned Halted) : Type 0 where
    pub planning : PlansOverFirst seen faults of_plan files before after events result
    pub can_end : CanEnd result

  module _ (wire : W) (others after : List W) (questions : List Question) (events : List Event) (result : Result Planned Halted)
      (plans : PlansCommand of_plan.command of_plan.limits files 0 questions result) (jobs : events ≡ journal_of (trace_of 0 questions)) where
    shows : (log : Option WireLog) → AskedOver of_plan.carrier questions log → AsksForPlan of_plan files events result log
    shows log asked = record { questions = questions; asked = asked; jobs = jobs; plans = plans }

    abbrev Asked : List Talk → List Note → Type 0
    Asked talks notes = AskedOver of_plan.carrier questions (Some (log_of talks notes))

    abbrev Shows : List Talk → List Note → Type 0
    Shows talks notes = AsksForPlan of_plan files events result (Some (log_of talks notes))

    abbrev Gained : W → W → Type 0
    Gained was now = Gains (seen was) (seen now) Shows

    -- the lane that was joined, whose wire stands in its place again
    over_lane : (lane : SeenLane W) → IsJoined seen of_plan.carrier (trace_of 0 questions) (lane_over of_plan.carrier wire ∷ []) (lane ∷ []) → faults wire ≤ faults lane.wire → after ≡ lane.wire ∷ others
        → Known (wire ∷ others) after events result
    over_lane lane joined later back = record {
      planning = record {
        gained = subst (λ (all : List W). OnFirstAlone (wire ∷ others) all Gained) (sym back)
            (gains_as Asked Shows (λ talks notes a. shows (Some (log_of talks notes)) a) (seen wire) (seen lane.wire) (asked_over seen of_plan.carrier questions (lane_over of_plan.carrier wire) lane joined), refl);
        unseen = shows None (asked_unseen seen of_plan.carrier questions (lane_over of_plan.carrier wire) lane joined);
        later = subst (λ (all : List W). OnFirstAlone (wire ∷ others) all (λ was now. faults was ≤ faults now)) (sym back) (later, refl);
      };
      can_end = plan_ends of_plan.command of_plan.limits files questions result plans of_plan.carrier
          (all_own seen of_plan.carrier questions (lane_over of_plan.carrier wire ∷ []) (lane ∷ []) joined);
    }

    over_lanes : (afters : List (SeenLane W)) → IsJoined seen of_plan.carrier (trace_of 0 questions) (lane_over of_plan.carrier wire ∷ []) afters → AreLater faults (lane_over of_plan.carrier wire ∷ []) afters
        → after ≡ wires_of afters ++ others → Known (wire ∷ others) after events result
    over_lanes [] joined later back = absurd later
    over_lanes (lane ∷ next ∷ afters) joined later back = absurd later.1
    over_lanes (lane ∷ []) joined later back = over_lane lane joined later.0.1 back

  known_by : (wire : W) (others after : List W) (questions : List Question) (came : Progress) (afters : List (SeenLane W)) (result : Result Planned Halted)
      → PlansCommand of_plan.command of_plan.limits files 0 questions result → GoesOnBy (trace_of 0 questions) (fresh 1) came
      → EachRuns (LaneCarries seen faults) (lane_over of_plan.carrier wire ∷ []) came.lanes afters → after ≡ wires_of afters ++ others → Known (wire ∷ others) after came.journal result
  known_by wire others after questions came afters result plans made ran back =
      over_lanes wire others after questions came.journal result plans made.journaled afters
      (desks_are_joined seen faults of_plan.carrier 1 (trace_of 0 questions) came (wire ∷ []) afters (plan_traced of_plan.command of_plan.limits files questions result plans) made ran)
      (lanes_come_back seen faults (lane_over of_plan.carrier wire ∷ []) afters came.lanes ran).0 back

  -- one lane and the wires behind it are as many as there were wires
  pub as_many : (wires others : List W) (workers : List (SeenLane W)) → 1 ≤ length wires → workers ≡ map (lane_over of_plan.carrier) (take 1 wires) → others ≡ drop 1 wires → length workers + length others ≡ length wires
  as_many [] others workers some are behind = absurd (omega (arith, some))
  as_many (wire ∷ rest) others workers some are behind =
      let one = ap (λ (ws : List (SeenLane W)). length ws) are in
      let more = ap (λ (ws : List W). length ws) behind in
      omega arith

  -- over a desk that was opened and closed
  pub planned_over : (wires : List W) (before desk : DeskState (SeenLane W) SeenJob SeenCarried) (began events journal : List Event) (first next : ℕ) (others after : List W) (result : Result Planned Halted) → 1 ≤ length wires
      → before.workers ≡ map (lane_over of_plan.carrier) (take 1 wires) → progress_of before began ≡ fresh 1 → first ≡ 0 → others ≡ drop 1 wires → journal ≡ events → SameDesk before desk
      → HasQuestions first next (progress_of before began) (progress_of desk events) (λ (questions : List Question). PlansCommand of_plan.command of_plan.limits files first questions result)
      → ComesBack seen faults desk others after → Known wires after journal result
  planned_over [] before desk began events journal first next others after result some workers begun zeroth behind noted same asked back = absurd (omega (arith, some))
  planned_over (wire ∷ rest) before desk began events journal first next others after result some workers begun zeroth behind noted same asked back =
      let h = subst (λ (n : ℕ). HasQuestions n next (progress_of before began) (progress_of desk events) (λ (questions : List Question). PlansCommand of_plan.command of_plan.limits files n questions result)) zeroth asked in
      let made = subst (λ (p : Progress). GoesOnBy (trace_of 0 h.questions) p (progress_of desk events)) begun h.made in
      let ran = subst (λ (ws : List (SeenLane W)). EachRuns (LaneCarries seen faults) ws desk.lanes back.afters) (same.workers ∙ workers) back.carried in
      let wires_are = subst (λ (ws : List W). after ≡ wires_of back.afters ++ ws) behind back.wires in
      subst (λ (es : List Event). Known (wire ∷ rest) after es result) (sym noted)
      (known_by wire rest after h.questions (progress_of desk events) back.afters result h.comes_to made ran wires_are)

  -- no lane was made
  pub not_opened : (wires after : List W) (journal : List Event) → 1 ≤ length wires → TakesPlaces of_plan.command.verb of_plan.command.from of_plan.command.to → after ≡ wires → journal ≡ []
      → Known wires after journal (Err (halted.Asked halt.Memory))
  not_opened [] after journal some takes same noted = absurd (omega (arith, some))
  not_opened (wire ∷ rest) after journal some takes same noted =
      subst (λ (es : List Event). Known (wire ∷ rest) after es (Err (halted.Asked halt.Memory))) (sym noted)
      (known_by wire rest after [] (fresh 1) (lane_over of_plan.carrier wire ∷ []) (Err (halted.Asked halt.Memory)) (unplanned of_plan.command of_plan.limits files takes)
      (record { exchanged = λ trace are. are; journaled = refl }) (refl, tt) same)
