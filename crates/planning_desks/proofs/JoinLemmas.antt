-- From the lanes of a desk that was closed to a trace whose lanes are joined.
use Rattle.std.proofs.Common.{◌≡◌, ℕ, List, [], ◌∷◌, Option, inl, inr, refl, subst, append-nil, map}
use Rattle.lane_jobs.specs.Lanes.{SeenCarrier, SeenLane}
use Rattle.lane_workers.specs.LaneWorkers.{LaneCarries, lane_over}
use Rattle.planning_questions.specs.Traced.{IsBetween}
use Rattle.run_traces.proofs.Exchanging.{exchanges_begin}
use Rattle.run_traces.specs.Exchanges.{AreExchangesOf}
use Rattle.run_traces.specs.Traces.{RunTrace}
use Rattle.s3_model.specs.Talks.{WireLog}
use Rattle.shared_lemmas.proofs.Members.{Has, has}
use Rattle.trace_laws.proofs.Own.{each_runs_by}
use Rattle.trace_laws.specs.Joined.{CarriesJob}
use Rattle.planning_desks.specs.PlanningDesks.{DesksAreJoined}

pub begins : IsBetween 0 []
begins = record { trace_is = tt; none_pending = λ lane. refl; numbers_left = λ id planning later. refl }

same_carrier : {W : Type 0} (carrier : SeenCarrier) (wires : List W) (lane : SeenLane W) → Has (map (lane_over carrier) wires) lane → lane.carrier ≡ carrier
same_carrier carrier [] lane there = absurd there
same_carrier carrier (wire ∷ wires) lane (inl is) = subst (λ (l : SeenLane _). l.carrier ≡ carrier) is refl
same_carrier carrier (wire ∷ wires) lane (inr there) = same_carrier carrier wires lane there

module _ {W : Type 0} (seen : W → Option WireLog) (faults : W → ℕ) where
  pub desks_are_joined : DesksAreJoined seen faults
  desks_are_joined carrier count steps came wires afters trace_is made ran = record {
    trace_is = trace_is;
    carriers = λ lane there. same_carrier carrier wires lane (has (map (lane_over carrier) wires) lane there);
    lanes = came.lanes;
    exchanged = subst (λ (trace : RunTrace). AreExchangesOf trace came.lanes) (append-nil steps) (made.exchanged [] (exchanges_begin count));
    carried = each_runs_by (LaneCarries seen faults) (CarriesJob seen) (λ before job done after one. record {
      carried = one.carried;
      same = one.same;
      carrier = one.carrier;
    }) (map (lane_over carrier) wires) came.lanes afters ran;
  }
