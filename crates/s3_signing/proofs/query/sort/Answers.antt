use Rattle.std.proofs.Common.{String, Global, string_bytes, refl}
use Rattle.std.proofs.lemmas.Result.{on_ok_weaker}
use Rattle.std.proofs.lemmas.List.Sorted.{IsPermutation-map}
use Rattle.s3_signing.specs.Pairs.{Pair}
use Rattle.s3_signing.proofs.SortLemmas.{sorted_is, sorted_views}
use Rattle.s3_signing.proofs.query.sort.Goals as goal

abbrev view : String Global × String Global → Pair
view p = (string_bytes p.0, string_bytes p.1)

pub returns : goal.returns
returns c = on_ok_weaker c.sort.result (λ up. sorted_is _ _ (IsPermutation-map view _ _ c.sort.ensures.permutation) (sorted_views view _ (λ a b. refl) _ up)) c.sort.ensures.sorted
