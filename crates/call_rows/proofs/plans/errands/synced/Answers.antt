use Rattle.std.proofs.Common.{true}
use Rattle.shared_lemmas.proofs.Clashes.{true_is_false}
use Rattle.call_rows.proofs.ListedLemmas.{entries_at, entries_at_dest}
use Rattle.call_rows.proofs.plans.errands.synced.Goals as goal

pub plan_sync-requires-clause-source : goal.plan_sync-requires-clause-source
plan_sync-requires-clause-source c =
    entries_at c.args.errand.now.from c.args.source.now.prefix true c.entries.result.now.items c.requires.source c.entries.ensures.ascending c.entries.ensures.within
    (λ no. absurd (true_is_false no))

pub plan_sync-requires-clause-dest : goal.plan_sync-requires-clause-dest
plan_sync-requires-clause-dest c =
    entries_at_dest c.args.errand.now.to c.args.dest.now.prefix c.entries-2.result.now.items c.requires.dest c.entries-2.ensures.ascending c.entries-2.ensures.within
