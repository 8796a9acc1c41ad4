use Rattle.std.proofs.Common.{◌∙◌, ℕ, List, ap, arith, length, subst, sym}
use Rattle.std.specs.Prelude.{IfSome}
use Rattle.std.proofs.lemmas.List.{take_at}
use Rattle.upload_promise.specs.Sources.{AreFirstBytes}
use Rattle.small_uploads.proofs.source.read_whole.Goals as goal

pub returns-clause-length : goal.returns-clause-length
returns-clause-length g c =
    let same = c.fill_from.ensures.length ∙ ap length c.as_mut_slice.ensures.value in
    ap length (take_at c.fill_from.new.place _ _ same) ∙ omega (arith, same, c.grow.ensures.count, ap length c.in-Ok.ensures.empty)

pub returns-clause-bytes : goal.returns-clause-bytes
returns-clause-bytes g c =
    let same = c.fill_from.ensures.length ∙ ap length c.as_mut_slice.ensures.value in
    let is_first = λ (bytes : List ℕ). IfSome (g.F.Files.seen c.fill_from.new.files) (λ seen. AreFirstBytes seen.store c.args.path.now bytes) in
    subst is_first (sym (take_at c.fill_from.new.place _ _ same)) c.in_ok-fill_from.ensures.bytes
