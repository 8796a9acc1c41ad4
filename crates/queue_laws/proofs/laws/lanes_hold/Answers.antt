use Rattle.queue_laws.proofs.LaneLaws.{back_leaves, freest_is_freest, lanes_begin, others_stay, out_is_out, sent_joins}
use Rattle.queue_laws.proofs.laws.lanes_hold.Goals as goal

pub returns : goal.returns
returns c = record {
  begin = lanes_begin;
  sent = sent_joins;
  back = back_leaves;
  others = others_stay;
  freest = freest_is_freest;
  out = out_is_out;
}
