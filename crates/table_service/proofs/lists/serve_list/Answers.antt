use Rattle.std.proofs.Common.{rules}
use Rattle.table_service.proofs.lists.serve_list.Goals as goal

pub returns-in_ok-entries-in-Buckets-clause-willing :
    goal.returns-in_ok-entries-in-Buckets-clause-willing
returns-in_ok-entries-in-Buckets-clause-willing c = search rules
