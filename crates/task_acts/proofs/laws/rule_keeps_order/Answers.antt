use Rattle.task_acts.proofs.RuleLaws as law
use Rattle.task_acts.proofs.laws.rule_keeps_order.Goals as goal

pub returns : goal.returns
returns c = record {
  stops = law.stops_begin;
  aborts = law.aborts_are_last;
  completes = law.completes_are_whole;
  sources = law.sources_go_last;
}
