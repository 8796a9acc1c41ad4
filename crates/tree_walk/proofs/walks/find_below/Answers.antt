use Rattle.s3_model.specs.Files.{FileStore}
use Rattle.tree_walk.specs.Finding.{IsComplete}
use Rattle.tree_walk.specs.Trees.{IsRefused}
use Rattle.tree_walk.proofs.WalkLemmas.{few_first, from_begun, keeps_all, says_nothing}
use Rattle.std.proofs.lemmas.Result.{err_from_is_err_and}
use Rattle.tree_walk.proofs.walks.find_below.Goals as goal

pub returns-in_err-found-clause-found : goal.returns-in_err-found-clause-found
returns-in_err-found-clause-found g c =
    let why = err_from_is_err_and c.from_residual.result c.from_residual.ensures.1 in
    rw why.1 (says_nothing _)

pub returns-in_err-found-clause-kept : goal.returns-in_err-found-clause-kept
returns-in_err-found-clause-kept g c = keeps_all _ _

pub returns-in-Ok-clause-found : goal.returns-in-Ok-clause-found
returns-in-Ok-clause-found g c =
    from_begun (λ (store : FileStore). IsComplete store c.args.root.now c.visit_all.new.found) _ c.args.root.now
    c.in_ok-found.found c.in_ok-found.ensures.files c.in_ok-found.ensures.others c.in_ok-found.ensures.unnamed c.in_ok-found.ensures.folders
    c.in-Ok.ensures.visited

pub returns-in-Ok-clause-few : goal.returns-in-Ok-clause-few
returns-in-Ok-clause-few g c = c.in-Ok.ensures.few (few_first c.in_ok-found.found c.in_ok-found.ensures.files)

pub returns-in-Ok-clause-refused : goal.returns-in-Ok-clause-refused
returns-in-Ok-clause-refused g c = says_nothing _

pub returns-in-Ok-clause-kept : goal.returns-in-Ok-clause-kept
returns-in-Ok-clause-kept g c = c.in-Ok.ensures.kept

pub returns-in-Err-clause-refused : goal.returns-in-Err-clause-refused
returns-in-Err-clause-refused g c =
    from_begun (λ (store : FileStore). IsRefused store c.args.root.now c.in-Err.fault) _ c.args.root.now
    c.in_ok-found.found c.in_ok-found.ensures.files c.in_ok-found.ensures.others c.in_ok-found.ensures.unnamed c.in_ok-found.ensures.folders
    c.in-Err.ensures.refused

pub returns-in-Err-clause-found : goal.returns-in-Err-clause-found
returns-in-Err-clause-found g c = says_nothing _

pub returns-in-Err-clause-kept : goal.returns-in-Err-clause-kept
returns-in-Err-clause-kept g c = c.in-Err.ensures.kept
