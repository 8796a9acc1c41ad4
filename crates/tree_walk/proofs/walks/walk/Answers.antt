use Rattle.std.proofs.lemmas.Result.{err_from_is_err_and}
use Rattle.tree_walk.proofs.WalkLemmas.{says_nothing, unsaid, walked, walked_ascends, walked_few, walked_found}
use Rattle.tree_walk.proofs.walks.walk.Goals as goal

pub returns-clause-tree : goal.returns-clause-tree
returns-clause-tree g c =
    walked c.in_ok-found.found _ c.args.root.now c.gather-walked.result c.in_ok-found.ensures.found c.in_ok-found.ensures.few c.gather-walked.ensures.entries c.gather-walked.ensures.others c.gather-walked.ensures.unnamed

pub returns-clause-ascending : goal.returns-clause-ascending
returns-clause-ascending g c = walked_ascends c.in_ok-found.found c.gather-walked.result c.gather-walked.ensures.entries

pub returns-clause-few : goal.returns-clause-few
returns-clause-few g c = walked_few c.in_ok-found.found c.gather-walked.result c.in_ok-found.ensures.few c.gather-walked.ensures.entries

pub returns-clause-found : goal.returns-clause-found
returns-clause-found g c = walked_found c.in_ok-found.found _ c.args.root.now c.gather-walked.result c.in_ok-found.ensures.found c.gather-walked.ensures.entries

pub returns-in_err-found-clause-found : goal.returns-in_err-found-clause-found
returns-in_err-found-clause-found g c =
    let why = err_from_is_err_and c.from_residual.result c.from_residual.ensures.1 in
    rw why.1 (says_nothing _)

pub returns-in_err-found-clause-tree : goal.returns-in_err-found-clause-tree
returns-in_err-found-clause-tree g c =
    let why = err_from_is_err_and c.from_residual.result c.from_residual.ensures.1 in
    rw why.1 (unsaid _ _)

pub returns-in_err-found-clause-kept : goal.returns-in_err-found-clause-kept
returns-in_err-found-clause-kept g c = c.in_err-found.ensures.kept

pub returns-in_err-found-clause-alone : goal.returns-in_err-found-clause-alone
returns-in_err-found-clause-alone g c = c.in_err-found.ensures.alone

pub returns-clause-kept : goal.returns-clause-kept
returns-clause-kept g c = c.in_ok-found.ensures.kept

pub returns-clause-alone : goal.returns-clause-alone
returns-clause-alone g c = c.in_ok-found.ensures.alone
