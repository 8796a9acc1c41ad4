use Rattle.manager_moves.proofs.BufferLaws as buffers
use Rattle.manager_moves.proofs.JournalLaws as journals
use Rattle.manager_moves.proofs.MoveLaws as moves
use Rattle.manager_moves.proofs.PartLaws as parts
use Rattle.manager_moves.proofs.QueueLaws as queue
use Rattle.manager_moves.proofs.laws.rule_keeps_limits.Goals as goal

pub returns : goal.returns
returns c = record {
  freest = moves.jobs_go_to_the_freest;
  depth = moves.lanes_keep_their_depth;
  parts = parts.parts_are_enough;
  buffers = buffers.buffers_are_kept;
  journal = journals.journals_keep_buffers;
  queue = queue.queue_is_kept;
}
