use Rattle.std.proofs.Common.{◌≡◌}
use Rattle.std.specs.Prelude.{IfOk}
use Rattle.s3_model.specs.Files.{FileStore}
use Rattle.s3_outside.specs.Files.{shape_at}
use Rattle.tree_walk.proofs.WalkLemmas.{in_the_end, keeps_kind}
use Rattle.tree_walk.proofs.walks.shape_of.Goals as goal

pub returns-clause-shape : goal.returns-clause-shape
returns-clause-shape g c = in_the_end (λ (store : FileStore). IfOk c.kind.result (λ shape. shape ≡ shape_at store c.args.path.now)) _ _ _ _ (keeps_kind _ c.kind.result _ _ _ _ c.kind.ensures.calls) c.kind.ensures.shape

pub returns-clause-kept : goal.returns-clause-kept
returns-clause-kept g c = keeps_kind _ c.kind.result _ _ _ _ c.kind.ensures.calls

pub returns-clause-asked : goal.returns-clause-asked
returns-clause-asked g c = (c.kind.result, c.kind.ensures.calls)
