use Rattle.tree_walk.proofs.WalkLemmas.{keeps_kind}
use Rattle.dry_runs.proofs.found.find_source.Goals as goal

pub returns-in_default-clause-kept : goal.returns-in_default-clause-kept
returns-in_default-clause-kept g c = keeps_kind c.args.path.now c.kind.result _ _ _ _ c.kind.ensures.calls

pub returns-in_err-find_one-in-Ok-None-2-clause-kept :
    goal.returns-in_err-find_one-in-Ok-None-2-clause-kept
returns-in_err-find_one-in-Ok-None-2-clause-kept g c = keeps_kind c.args.path.now c.kind.result _ _ _ _ c.kind.ensures.calls

pub returns-in-Ok-Some-clause-kept : goal.returns-in-Ok-Some-clause-kept
returns-in-Ok-Some-clause-kept g c = keeps_kind c.args.path.now c.kind.result _ _ _ _ c.kind.ensures.calls

pub returns-in_ok-find_one-in-Ok-None-2-clause-kept :
    goal.returns-in_ok-find_one-in-Ok-None-2-clause-kept
returns-in_ok-find_one-in-Ok-None-2-clause-kept g c = keeps_kind c.args.path.now c.kind.result _ _ _ _ c.kind.ensures.calls

pub returns-in-Err-clause-kept : goal.returns-in-Err-clause-kept
returns-in-Err-clause-kept g c = keeps_kind c.args.path.now c.kind.result _ _ _ _ c.kind.ensures.calls
