use Rattle.part_changes.proofs.Calling.{call_changes_part, call_moves_no_part}
use Rattle.part_changes.proofs.Changing.{cancel_frees_parts, giving_sends_part, giving_takes_part}
use Rattle.part_changes.proofs.Returning.{return_brings_part, return_changes_part}
use Rattle.part_changes.proofs.laws.parts_change.Goals as goal

pub returns : goal.returns
returns c = record {
  cancel = cancel_frees_parts;
  giving = giving_takes_part;
  sending = giving_sends_part;
  call = call_changes_part;
  call_moves = call_moves_no_part;
  back = return_changes_part;
  brings = return_brings_part;
}
