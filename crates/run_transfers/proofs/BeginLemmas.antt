-- A run begins behind its planning.
use Rattle.std.proofs.Common.{◌≡◌, ◌∙◌, [], ◌∷◌, ℕ, zero, suc, List, refl, sym, subst, ap, arith, append-nil, length, map, sum_by}
use Rattle.std.proofs.lemmas.List.{length-drop}
use Rattle.std.proofs.lemmas.List.Sums.{sum_by-cons}
use Rattle.std.specs.Prelude.{replicate}
use Rattle.bounded_executor.specs.Desk.{DeskState, all_out}
use Rattle.bounded_executor.specs.Exchange.{Exchange, jobs_out}
use Rattle.jobs.specs.Endings.{SeenCarried}
use Rattle.jobs.specs.Jobs.{SeenJob}
use Rattle.lane_givings.proofs.Holding.{none_is_out}
use Rattle.lane_givings.specs.Givings.{HoldJobs}
use Rattle.manager_core.specs.Kept.{SeenManager}
use Rattle.manager_core.specs.Running.{IsRunning, IsSharedOf, Start, lane_depth}
use Rattle.manager_moves.specs.Runs.{Events, Shared}
use Rattle.pending_jobs.specs.Pending.{SeenPendingJobs}
use Rattle.pending_jobs.specs.declared.pending.Pending.{Pending}
use Rattle.run_needs.specs.Needs.{most_bytes}
use Rattle.run_traces.proofs.Pending.{taken_behind}
use Rattle.run_traces.specs.Exchanges.{AreExchangesOf}
use Rattle.run_traces.specs.Traces.{RunTrace}
use Rattle.s3_model.specs.declared.settings.Config.{Config}
use Rattle.s3_model.specs.declared.settings.Limits.{Limits}
use Rattle.s3_model.specs.declared.tasks.Task.{Task}
use Rattle.run_transfers.proofs.LaneLemmas.{outs_of, pendings}
use Rattle.run_transfers.specs.Conducting.{IsConducting, IsPlanned, IsTakenBehind, conductor, pending_of_lane}

none_of : {X : Type 0} (xs : List X) → length xs ≡ 0 → xs ≡ []
none_of [] e = refl
none_of (x ∷ xs) e = absurd (omega (arith, e))

none_pending : (lanes : List (Exchange SeenJob SeenCarried)) → sum_by jobs_out lanes ≡ 0
    → outs_of lanes ≡ replicate (length lanes) []
none_pending [] e = refl
none_pending (x ∷ lanes) e =
    let one = sum_by-cons (jobs_out {J = SeenJob} {D = SeenCarried}) x lanes in
    let long = length-drop (length x.taken) x.given in
    let here = none_of (pending_of_lane x) (omega (arith, one, e, long)) in
    let there = none_pending lanes (omega (arith, one, e)) in
    ap (λ (js : List SeenJob). js ∷ outs_of lanes) here ∙ ap (λ (outs : List (List SeenJob)). [] ∷ outs) there

no_rows : (n : ℕ) → map pendings (replicate n []) ≡ replicate n []
no_rows zero = refl
no_rows (suc n) = ap (λ (rows : List (List Pending)). [] ∷ rows) (no_rows n)

module _ {W : Type 0} {config : Config} {limits : Limits} {tasks : List Task} {start : Start} {s : Shared}
    {m : SeenManager} {p : SeenPendingJobs} {d : DeskState W SeenJob SeenCarried} {lanes depth : ℕ}
    (shared : IsSharedOf config limits lanes tasks s) (lanes_are : lanes ≡ length d.lanes)
    (deep : d.depth ≡ lane_depth config.queue (length d.lanes)) (idle : all_out d ≡ 0)
    (depth_is : depth ≡ lane_depth config.queue lanes)
    (known : p ≡ record { depth = depth; lanes = replicate lanes [] }) (running : IsRunning start s [] m) where
  pub begins : (trace : RunTrace) → IsPlanned start.planning trace → AreExchangesOf trace d.lanes
      → IsConducting (record { start = start; shared = s; trace = trace }) (conductor m p) d
  begins trace planned exchanged = record {
    running = subst (λ (es : Events). IsRunning start s es m) (sym planned.silent) running;
    journal = running.journal.items ∙ append-nil start.planning ∙ planned.journal;
    exchanged = exchanged;
    lanes = record {
      lanes = sym lanes_are ∙ sym shared.lanes_are;
      depth = deep ∙ ap (λ (n : ℕ). lane_depth config.queue n) (sym lanes_are) ∙ sym shared.depth_is;
      behind = λ lane. subst IsTakenBehind (sym (exchanged lane)) (taken_behind trace planned.run lane);
      jobs = subst (λ (es : Events). HoldJobs (most_bytes s.works) s es (outs_of d.lanes)) (sym planned.silent)
          (subst (λ (outs : List (List SeenJob)). HoldJobs (most_bytes s.works) s [] outs) (sym outs_are)
          (none_is_out (most_bytes s.works) s (length d.lanes)));
      known = known
          ∙ ap (λ (n : ℕ). record { depth = n; lanes = replicate lanes [] }) (depth_is ∙ sym shared.depth_is)
          ∙ ap (λ (n : ℕ). record { depth = s.depth; lanes = replicate n [] }) lanes_are
          ∙ ap (λ (rows : List (List Pending)). record { depth = s.depth; lanes = rows })
          (sym (ap (λ (outs : List (List SeenJob)). map pendings outs) outs_are ∙ no_rows (length d.lanes)));
    };
  }
    where
      outs_are : outs_of d.lanes ≡ replicate (length d.lanes) []
      outs_are = none_pending d.lanes idle
