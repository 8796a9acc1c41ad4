use Rattle.s3_outside.specs.declared.files.Names.{Names}
use Rattle.tree_walk.proofs.WalkLemmas.{anyway, keeps_then, unsaid_of_both, untold_seen}
use Rattle.std.proofs.Common.{List, ℕ, IfSome, Err, refl, sym, subst}
use Rattle.local_files.specs.Names.{AreNames}
use Rattle.tree_walk.specs.Trees.{place_of}
use Rattle.tree_walk.proofs.StepLemmas.{folder_refused, folder_seen}
use Rattle.std.proofs.lemmas.Result.{err_from_is_err_and}
use Rattle.tree_walk.proofs.walks.visit.Goals as goal

pub returns-in_err-look_at_all-clause-refused : goal.returns-in_err-look_at_all-clause-refused
returns-in_err-look_at_all-clause-refused g c =
    let why = err_from_is_err_and c.from_residual-in_err-look_at_all.result c.from_residual-in_err-look_at_all.ensures.1 in
    rw (why.1, why.2) (folder_refused _ _ _ _ c.look_at_all.ensures.kept c.args.root.now c.args.folder.now (place_of c.args.root.now c.args.folder.now) c.as_slice.result.now c.args.found.now
    (subst (λ (names : List (List ℕ)). IfSome (g.F.Files.seen c.names_of.new.files) (λ now. AreNames now.store (place_of c.args.root.now c.args.folder.now) names)) (sym c.as_slice.ensures) c.in_ok-names.ensures.names) (Err c.in_err-look_at_all.field-0.0)
    c.in_err-look_at_all.ensures.refused)

pub returns-clause-visited : goal.returns-clause-visited
returns-clause-visited g c =
    folder_seen _ _ _ _ c.look_at_all.ensures.kept c.args.root.now c.args.folder.now (place_of c.args.root.now c.args.folder.now) c.as_slice.result.now c.args.found.now
    (subst (λ (names : List (List ℕ)). IfSome (g.F.Files.seen c.names_of.new.files) (λ now. AreNames now.store (place_of c.args.root.now c.args.folder.now) names)) (sym c.as_slice.ensures) c.in_ok-names.ensures.names)
    c.count.result c.in_ok-names.names.unnamed c.look_at_all.new.found c.count.new.self refl c.in_ok-names.ensures.folder c.in_ok-names.ensures.unnamed c.in_ok-look_at_all.ensures.found
    c.count.ensures.files c.count.ensures.others c.count.ensures.folders c.count.ensures.counted

pub returns-in_err-names-clause-visited : goal.returns-in_err-names-clause-visited
returns-in_err-names-clause-visited g c =
    let why = err_from_is_err_and c.from_residual.result c.from_residual.ensures.1 in
    rw why.1 (unsaid_of_both _ _ _)

pub returns-in_err-names-clause-kept : goal.returns-in_err-names-clause-kept
returns-in_err-names-clause-kept g c = c.in_err-names.ensures.kept

pub returns-in_err-names-clause-refused : goal.returns-in_err-names-clause-refused
returns-in_err-names-clause-refused g c =
    let why = err_from_is_err_and c.from_residual.result c.from_residual.ensures.1 in
    rw (why.1, why.2) (anyway _ _ _ (untold_seen {A = Names} _ c.args.root.now (Err c.in_err-names.field-0.0) c.in_err-names.ensures.faults))

pub returns-in_err-look_at_all-clause-visited : goal.returns-in_err-look_at_all-clause-visited
returns-in_err-look_at_all-clause-visited g c =
    let why = err_from_is_err_and c.from_residual-in_err-look_at_all.result c.from_residual-in_err-look_at_all.ensures.1 in
    rw why.1 (unsaid_of_both _ _ _)

pub returns-in_err-look_at_all-clause-kept : goal.returns-in_err-look_at_all-clause-kept
returns-in_err-look_at_all-clause-kept g c = keeps_then _ _ _ _ _ _ c.in_ok-names.ensures.later c.look_at_all.ensures.later c.in_ok-names.ensures.kept c.look_at_all.ensures.kept

pub returns-clause-kept : goal.returns-clause-kept
returns-clause-kept g c = keeps_then _ _ _ _ _ _ c.in_ok-names.ensures.later c.look_at_all.ensures.later c.in_ok-names.ensures.kept c.look_at_all.ensures.kept
