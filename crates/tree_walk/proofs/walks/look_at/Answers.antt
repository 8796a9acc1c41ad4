use Rattle.tree_walk.proofs.WalkLemmas.{keeps_all, unsaid_of_both}
use Rattle.std.proofs.Common.{◌∙◌, List, ℕ, sym, ap}
use Rattle.tree_walk.specs.Trees.{path_at}
use Rattle.tree_walk.proofs.StepLemmas.{looked_seen, over_seen}
use Rattle.std.proofs.lemmas.Result.{err_from_is_err_and}
use Rattle.tree_walk.proofs.walks.look_at.Goals as goal

pub returns-in-Ok-clause-found : goal.returns-in-Ok-clause-found
returns-in-Ok-clause-found g c =
    looked_seen _ c.args.root.now c.args.folder.now c.args.name.now c.as_str-in-Ok.result.now c.as_str-2.result.now c.in-Ok.shape c.add.result _ _
    (c.as_str-in-Ok.ensures ∙ c.in_ok-path.ensures) (c.as_str-2.ensures ∙ c.in_ok-full.ensures.folder ∙ ap (λ (p : List ℕ). path_at c.args.root.now p) (c.as_str.ensures ∙ sym c.as_str-in-Ok.ensures))
    c.in-Ok.ensures.shape c.add.ensures.added

pub returns-in-Ok-clause-refused : goal.returns-in-Ok-clause-refused
returns-in-Ok-clause-refused g c =
    over_seen _ c.args.root.now c.args.folder.now c.args.name.now c.as_str-in-Ok.result.now c.as_str-2.result.now c.in-Ok.shape c.add.result _ _
    (c.as_str-in-Ok.ensures ∙ c.in_ok-path.ensures) (c.as_str-2.ensures ∙ c.in_ok-full.ensures.folder ∙ ap (λ (p : List ℕ). path_at c.args.root.now p) (c.as_str.ensures ∙ sym c.as_str-in-Ok.ensures))
    c.in-Ok.ensures.shape c.add.ensures.over

pub returns-in_err-path-clause-found : goal.returns-in_err-path-clause-found
returns-in_err-path-clause-found g c =
    let why = err_from_is_err_and c.from_residual.result c.from_residual.ensures.1 in
    rw why.1 (unsaid_of_both _ _ _)

pub returns-in_err-path-clause-kept : goal.returns-in_err-path-clause-kept
returns-in_err-path-clause-kept g c = keeps_all _ _

pub returns-in_err-path-clause-refused : goal.returns-in_err-path-clause-refused
returns-in_err-path-clause-refused g c =
    let why = err_from_is_err_and c.from_residual.result c.from_residual.ensures.1 in
    rw (why.1, why.2) (unsaid_of_both _ _ _)

pub returns-in_err-full-clause-found : goal.returns-in_err-full-clause-found
returns-in_err-full-clause-found g c =
    let why = err_from_is_err_and c.from_residual-in_err-full.result c.from_residual-in_err-full.ensures.1 in
    rw why.1 (unsaid_of_both _ _ _)

pub returns-in_err-full-clause-kept : goal.returns-in_err-full-clause-kept
returns-in_err-full-clause-kept g c = keeps_all _ _

pub returns-in_err-full-clause-refused : goal.returns-in_err-full-clause-refused
returns-in_err-full-clause-refused g c =
    let why = err_from_is_err_and c.from_residual-in_err-full.result c.from_residual-in_err-full.ensures.1 in
    rw (why.1, why.2) (unsaid_of_both _ _ _)

pub returns-clause-kept : goal.returns-clause-kept
returns-clause-kept g c = c.in-Err.ensures.kept

pub returns-in-Ok-clause-kept : goal.returns-in-Ok-clause-kept
returns-in-Ok-clause-kept g c = c.in-Ok.ensures.kept

pub returns-clause-found : goal.returns-clause-found
returns-clause-found g c = unsaid_of_both _ _ _

pub returns-clause-refused : goal.returns-clause-refused
returns-clause-refused g c = unsaid_of_both _ _ _
