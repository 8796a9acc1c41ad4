use Rattle.step_laws.proofs.ShareLemmas.{giving_takes_share, shares_begin, shares_stay}
use Rattle.step_laws.proofs.laws.shares_follow_histories.Goals as goal

pub returns : goal.returns
returns c = record { begin = shares_begin; stay = shares_stay; giving = giving_takes_share }
