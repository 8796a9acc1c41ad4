use Rattle.alike_histories.proofs.Alike.{alike_says_the_same, cancel_stays_alike, giving_stays_alike, starts_alike}
use Rattle.alike_histories.proofs.Alike.{stays_alike, taking_stays_alike}
use Rattle.alike_histories.proofs.laws.alike_histories_say_the_same.Goals as goal

pub returns : goal.returns
returns c = record {
  says = alike_says_the_same;
  starts = starts_alike;
  stays = stays_alike;
  giving = giving_stays_alike;
  taking = taking_stays_alike;
  cancel = cancel_stays_alike;
}
