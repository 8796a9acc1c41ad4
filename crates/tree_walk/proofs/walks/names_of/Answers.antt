use Rattle.s3_outside.specs.declared.files.Shape.TheVariants as shape
use Rattle.tree_walk.proofs.WalkLemmas.{in_the_end, keeps_all, keeps_names, says_nothing}
use Rattle.std.proofs.Common.{◌≡◌, ◌∙◌, List, ℕ, IfSome, subst}
use Rattle.local_files.specs.Names.{AreNames}
use Rattle.s3_outside.specs.FileCalls.{unnamed_in}
use Rattle.s3_outside.specs.Files.{shape_at}
use Rattle.s3_model.specs.Files.{FileStore}
use Rattle.std.proofs.lemmas.Result.{err_from_is_err_and}
use Rattle.tree_walk.proofs.walks.names_of.Goals as goal

pub returns-in-Ok-clause-folder : goal.returns-in-Ok-clause-folder
returns-in-Ok-clause-folder g c =
    subst (λ (place : List ℕ). IfSome (g.F.Files.seen c.names.new.self) (λ now. shape_at now.store place ≡ shape.Folder)) (c.as_str.ensures ∙ c.in_ok-place.ensures)
    (in_the_end (λ (store : FileStore). shape_at store c.as_str.result.now ≡ shape.Folder) _ _ _ _ (keeps_names _ c.names.result _ _ _ _ c.names.ensures.calls) c.in-Ok.ensures.folder)

pub returns-in-Ok-clause-names : goal.returns-in-Ok-clause-names
returns-in-Ok-clause-names g c =
    subst (λ (place : List ℕ). IfSome (g.F.Files.seen c.names.new.self) (λ now. AreNames now.store place c.in-Ok.names.names.items)) (c.as_str.ensures ∙ c.in_ok-place.ensures)
    (in_the_end (λ (store : FileStore). AreNames store c.as_str.result.now c.in-Ok.names.names.items) _ _ _ _ (keeps_names _ c.names.result _ _ _ _ c.names.ensures.calls) c.in-Ok.ensures.names)

pub returns-in-Ok-clause-unnamed : goal.returns-in-Ok-clause-unnamed
returns-in-Ok-clause-unnamed g c =
    subst (λ (place : List ℕ). IfSome (g.F.Files.seen c.names.new.self) (λ now. c.in-Ok.names.unnamed ≡ unnamed_in now.store place)) (c.as_str.ensures ∙ c.in_ok-place.ensures)
    (in_the_end (λ (store : FileStore). c.in-Ok.names.unnamed ≡ unnamed_in store c.as_str.result.now) _ _ _ _ (keeps_names _ c.names.result _ _ _ _ c.names.ensures.calls) c.in-Ok.ensures.unnamed)

pub returns-in-Ok-clause-kept : goal.returns-in-Ok-clause-kept
returns-in-Ok-clause-kept g c = keeps_names _ c.names.result _ _ _ _ c.names.ensures.calls

pub returns-in_err-place-clause-folder : goal.returns-in_err-place-clause-folder
returns-in_err-place-clause-folder g c =
    let why = err_from_is_err_and c.from_residual.result c.from_residual.ensures.1 in
    rw why.1 (says_nothing _)

pub returns-in_err-place-clause-names : goal.returns-in_err-place-clause-names
returns-in_err-place-clause-names g c =
    let why = err_from_is_err_and c.from_residual.result c.from_residual.ensures.1 in
    rw why.1 (says_nothing _)

pub returns-in_err-place-clause-unnamed : goal.returns-in_err-place-clause-unnamed
returns-in_err-place-clause-unnamed g c =
    let why = err_from_is_err_and c.from_residual.result c.from_residual.ensures.1 in
    rw why.1 (says_nothing _)

pub returns-in_err-place-clause-kept : goal.returns-in_err-place-clause-kept
returns-in_err-place-clause-kept g c = keeps_all _ _

pub returns-in-Err-Memory-clause-folder : goal.returns-in-Err-Memory-clause-folder
returns-in-Err-Memory-clause-folder g c = says_nothing _

pub returns-in-Err-Memory-clause-names : goal.returns-in-Err-Memory-clause-names
returns-in-Err-Memory-clause-names g c = says_nothing _

pub returns-in-Err-Memory-clause-unnamed : goal.returns-in-Err-Memory-clause-unnamed
returns-in-Err-Memory-clause-unnamed g c = says_nothing _

pub returns-in-Err-Memory-clause-kept : goal.returns-in-Err-Memory-clause-kept
returns-in-Err-Memory-clause-kept g c = keeps_names _ c.names.result _ _ _ _ c.names.ensures.calls

pub returns-clause-folder : goal.returns-clause-folder
returns-clause-folder g c = says_nothing _

pub returns-clause-names : goal.returns-clause-names
returns-clause-names g c = says_nothing _

pub returns-clause-unnamed : goal.returns-clause-unnamed
returns-clause-unnamed g c = says_nothing _

pub returns-clause-kept : goal.returns-clause-kept
returns-clause-kept g c = keeps_names _ c.names.result _ _ _ _ c.names.ensures.calls
