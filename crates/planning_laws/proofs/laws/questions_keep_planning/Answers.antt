use Rattle.planning_laws.proofs.Keeping.{are_shown, keeps_planning}
use Rattle.planning_laws.proofs.Witness.{listing_is_met, none_asks_behind}
use Rattle.planning_laws.proofs.laws.questions_keep_planning.Goals as goal

pub returns : goal.returns
returns g c = record {
  planning = keeps_planning g.W.Wire.seen;
  shown = are_shown g.W.Wire.seen;
  met = listing_is_met;
  refused = none_asks_behind;
}
