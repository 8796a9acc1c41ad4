use Rattle.std.proofs.Common.{rules}
use Rattle.dry_runs.proofs.EntryLemmas.{of_file}
use Rattle.dry_runs.proofs.plans.plan_errand.Goals as goal

pub plan_found-requires-clause-entries : goal.plan_found-requires-clause-entries
plan_found-requires-clause-entries g c =
    of_file _ c.args.errand.now.from c.args.errand.now.many _ c.in_ok-found.found.entries.items c.in_ok-found.found.looked.items (search rules) c.in_ok-found.ensures.found
