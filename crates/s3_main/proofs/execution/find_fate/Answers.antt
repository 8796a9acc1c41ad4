use Rattle.std.proofs.Common.{◌≡◌, ℕ, List, Option, Some, None, subst, sym}
use Rattle.std.specs.Prelude.{IfSome}
use Rattle.s3_outside.specs.Files.{SeenFiles, shape_at}
use Rattle.s3_outside.specs.declared.files.Shape.{Shape}
use Rattle.upload_promise.specs.Sources.{LooksAt}
use Rattle.upload_promise.proofs.SourceLemmas.{looked_kind}
use Rattle.s3_main.proofs.execution.find_fate.Goals as goal

-- what stands at a path stands at the same one
stands : (seen : Option SeenFiles) (path source : List ℕ) (shape : Shape) → path ≡ source → IfSome seen (λ files. shape ≡ shape_at files.store path) → IfSome seen (λ files. shape_at files.store source ≡ shape)
stands None path source shape same is = tt
stands (Some files) path source shape same is = subst (λ (p : List ℕ). shape_at files.store p ≡ shape) same (sym is)

pub returns-in_default-clause-files : goal.returns-in_default-clause-files
returns-in_default-clause-files g c =
    subst (λ (path : List ℕ). LooksAt path (g.F.Files.seen c.args.files.now) (g.F.Files.seen c.kind.new.self)) c.places_of.ensures.path
    (looked_kind c.places_of.result.path.now c.kind.result _ _ _ _ c.kind.ensures.calls)

pub returns-in_default-clause-fate : goal.returns-in_default-clause-fate
returns-in_default-clause-fate g c = tt

pub returns-in-Ok-plan_upload-clause-fate : goal.returns-in-Ok-plan_upload-clause-fate
returns-in-Ok-plan_upload-clause-fate g c = record {
  stands = c.in-Ok.shape;
  seen = stands (g.F.Files.seen c.args.files.now) c.places_of.result.path.now _ c.in-Ok.shape c.places_of.ensures.path c.in-Ok.ensures.shape;
  is = c.in-Ok-plan_upload.ensures.fate;
}

pub returns-in-Ok-plan_upload-clause-files : goal.returns-in-Ok-plan_upload-clause-files
returns-in-Ok-plan_upload-clause-files g c =
    subst (λ (path : List ℕ). LooksAt path (g.F.Files.seen c.args.files.now) (g.F.Files.seen c.kind.new.self)) c.places_of.ensures.path
    (looked_kind c.places_of.result.path.now c.kind.result _ _ _ _ c.kind.ensures.calls)

pub returns-in-Err-clause-files : goal.returns-in-Err-clause-files
returns-in-Err-clause-files g c =
    subst (λ (path : List ℕ). LooksAt path (g.F.Files.seen c.args.files.now) (g.F.Files.seen c.kind.new.self)) c.places_of.ensures.path
    (looked_kind c.places_of.result.path.now c.kind.result _ _ _ _ c.kind.ensures.calls)
