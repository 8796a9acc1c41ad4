use Rattle.manager_moves.proofs.ShareLaws as shares
use Rattle.manager_moves.proofs.laws.shares_are_histories.Goals as goal

pub returns : goal.returns
returns c = shares.shares_are_histories
