-- What stopped the jobs of a run is told.
use Rattle.std.proofs.Common.{◌≡◌, ◌≢◌, ◌∙◌, ◌++◌, ℕ, true, ◌∷◌, Option, Some, None, Contains, sym, subst, ap, inl, inr}
use Rattle.std.specs.Prelude.{IfSome, IsSome, is_some}
use Rattle.answer_classes.specs.Showing.{Shows}
use Rattle.attempts.specs.Attempts.{text_of}
use Rattle.jobs.specs.Holders.{Holder}
use Rattle.jobs.specs.declared.ending.Ending.TheVariants as ending
use Rattle.lane_jobs.specs.Lanes.{KeepsCell, reason_of}
use Rattle.lane_laws.specs.Runs.{Giving, IsCutShort, RanOut}
use Rattle.run_promise.specs.Carried.{MayStop}
use Rattle.run_traces.specs.Traces.{Gave, RunTrace, Took}
use Rattle.s3_model.specs.declared.outcomes.JobId.{JobId}
use Rattle.s3_model.specs.declared.outcomes.Reason.{Reason}
use Rattle.shared_lemmas.proofs.Clashes.{none_is_some}
use Rattle.shared_lemmas.proofs.Members.{Has, contains_of, found_or_not, has_middle}
use Rattle.task_progress.proofs.Endings.{no}
use Rattle.trace_laws.proofs.Closed.{planned_traces}
use Rattle.trace_laws.specs.Journals.{IsGivingOf}
use Rattle.run_causes.proofs.Again.{given_again, given_in_trace, has_left, of_no_task}
use Rattle.run_causes.proofs.Stops.{task_stops}
use Rattle.run_causes.proofs.Wants.{task_wants}
use Rattle.run_causes.specs.Causes.{IsTracedRun, RunsAreOfLanes, RunsHaveCauses, TellsPlanning, TracedRun}

no_reason : (before after : Option Holder) (reason : Reason) → before ≡ None → KeepsCell before after → reason_of after ≡ Some reason → ⊥
no_reason None None reason none keeps e = none_is_some reason e
no_reason None (Some cell) reason none keeps e = keeps
no_reason (Some cell) after reason none keeps e = none_is_some cell (sym none)

module _ (r : TracedRun) (is : IsTracedRun r) where
  -- a job of the planning has no cell that could give a reason
  no_cell : (g : Giving) → Contains r.givings g → g.of.dispatch.job.task ≡ None → IsSome g.gave → ⊥
  no_cell g known none gave = by g.gave gave of.tells.gave
    where
      of : IsGivingOf r.carrier r.trace g
      of = is.givings.each g known

      by : (why : Option Reason) → is_some why ≡ true → IfSome why (λ reason. (reason_of of.carried.job.cell ≡ Some reason) × (of.carried.ending ≢ ending.Memory)) → ⊥
      by None e h = no e
      by (Some reason) e h = no_reason of.job.cell of.carried.job.cell reason (is.once.plain g.of.dispatch.lane of.job (given_in_trace r is g known) (of_no_task r is g known none)).0 of.tells.same.cell h.0

  planning_wants : TellsPlanning r.setting r.trace → (g : Giving) → Contains r.givings g → g.of.dispatch.job.task ≡ None → RanOut g.ended → r.setting.wanted_memory None ≡ true
  planning_wants planning g known none ran =
      let of = is.givings.each g known in
      let came = Took g.of.dispatch.lane of.carried in
      planning g.of.dispatch.lane of.carried
      (contains_of r.trace came (subst (λ (t : RunTrace). Has t came) (sym of.stands.is) (has_middle of.stands.later came (of.stands.between ++ Gave g.of.dispatch.lane of.job ∷ of.stands.before))))
      (ap (λ (j : JobId). j.task) of.tells.same.id ∙ of_no_task r is g known none) (subst RanOut of.tells.ended ran)

pub runs_have_causes : RunsHaveCauses
runs_have_causes r is tells memory planning = record {
  left = has_left r is tells;
  wants = λ g known ran. wants g known ran;
  stops = λ g known gave short. stops g known gave short;
  given_again = given_again r is tells;
}
  where
    wants : (g : Giving) → Contains r.givings g → RanOut g.ended → r.setting.wanted_memory g.of.dispatch.job.task ≡ true
    wants g known ran = elim (found_or_not g.of.dispatch.job.task) [
      | inl none ↦ subst (λ (t : Option ℕ). r.setting.wanted_memory t ≡ true) (sym none) (planning_wants r is planning g known none ran)
      | inr some ↦ subst (λ (t : Option ℕ). r.setting.wanted_memory t ≡ true) (sym some.1) (task_wants r is tells memory g known some.0 some.1 ran)
    ]

    stops : (g : Giving) → Contains r.givings g → IsSome g.gave → IsCutShort r.setting g
        → MayStop Shows (text_of r.carrier.endpoint r.carrier.keys) r.carrier.endpoint.host r.carrier.endpoint.port r.setting r.coming g.of
    stops g known gave short = elim (found_or_not g.of.dispatch.job.task) [
      | inl none ↦ absurd (no_cell r is g known none gave)
      | inr some ↦ task_stops r is tells g known some.0 some.1 gave short
    ]

pub runs_are_of_lanes : RunsAreOfLanes
runs_are_of_lanes r is tells memory planning =
    planned_traces r.carrier r.setting r.planning r.trace r.logs r.notes r.givings r.coming is.first is.givings is.attempts (runs_have_causes r is tells memory planning)
