use Rattle.part_tables.proofs.Following.{calling_puts_part, others_move_no_part, returning_brings_part}
use Rattle.part_tables.proofs.Following.{sending_takes_part}
use Rattle.part_tables.proofs.Freeing.{freeing_settles_task, kept_jobs_wait}
use Rattle.part_tables.proofs.Tables.{alike_unfreed, empty_tables_begin, last_put_counts}
use Rattle.part_tables.proofs.Unmade.{cancel_leaves_parts}
use Rattle.part_tables.proofs.laws.tables_follow_runs.Goals as goal

pub returns : goal.returns
returns c = record {
  begins = empty_tables_begin;
  last = last_put_counts;
  others = others_move_no_part;
  sending = sending_takes_part;
  back = returning_brings_part;
  call = calling_puts_part;
  cancel = cancel_leaves_parts;
  kept = kept_jobs_wait;
  freeing = freeing_settles_task;
  alike = alike_unfreed;
}
