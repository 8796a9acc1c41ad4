use Rattle.run_rows.proofs.RunLemmas.{can_go_on, stays}
use Rattle.run_rows.proofs.runs.conductor.Conductor.next.Goals as goal

pub next-requires : goal.next-requires
next-requires c = can_go_on c.requires

pub returns : goal.returns
returns c =
    let k = c.requires.kept in record {
      kept = stays k (c.next.ensures.running k.start k.s k.events k.running);
      is = c.next.ensures.due;
    }
