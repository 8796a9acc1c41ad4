use Rattle.dry_runs.proofs.EntryLemmas.{removal_entries}
use Rattle.dry_runs.proofs.plans.plan_removal.Goals as goal

pub plan_removals-plan-requires-clause-entries : goal.plan_removals-plan-requires-clause-entries
plan_removals-plan-requires-clause-entries c =
    removal_entries c.args.command c.args.limits c.removal_errand-errand.result c.in_ok-entry.entry c.in_ok-entries.entries.items c.requires c.removal_errand-errand.ensures c.in_ok-entry.ensures c.in_ok-entries.ensures
