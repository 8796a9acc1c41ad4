use Rattle.std.proofs.Common.{arith, ◌≡◌, ◌∙◌, ◌+◌, ◌≤◌, ◌<◌, ℕ, List, Some, get_or, sym, subst}
use Rattle.std.specs.FinMap.{get}
use Rattle.shared_lemmas.proofs.Clashes.{false_true}
use Rattle.object_table.specs.Assembly.{last_length}
use Rattle.object_table.proofs.Assembled.{joined_step, last_enough, piece_at}
use Rattle.object_table.proofs.uploads.assembled.Goals as goal

pub loop-place-preserved : goal.loop-place-preserved
loop-place-preserved c =
    joined_step c.args.upload.now c.args.least c.args.etags.now c.loop-place.place c.loop-place.bytes.items c.extend_from_slice.new.self.items c.loop-place.last c.index-etags-place.result c.as_str.result.now c.in_ok-piece.piece.now (omega arith) c.index-etags-place.is
    c.as_str.ensures c.loop-place.invariant (omega arith) c.in_ok-piece.ensures.found c.in_ok-extend_from_slice.ensures.items

pub returns-in_err-piece-clause-willing : goal.returns-in_err-piece-clause-willing
returns-in_err-piece-clause-willing c = λ pieces all enough.
    let etag : List ℕ = c.index-etags-place.result in
    let found = piece_at c.args.upload.now 1 c.args.etags.now pieces all c.loop-place.place (omega arith) etag in
    let same : 1 + c.loop-place.place ≡ c.loop-place.place + 1 = omega arith in
    absurd (false_true (c.in_err-piece.ensures.willing (record { bytes = found.0; etag = get_or c.args.etags.now c.loop-place.place etag })
    (subst (λ (n : ℕ). get c.args.upload.now.parts n ≡ Some (record { bytes = found.0; etag = get_or c.args.etags.now c.loop-place.place etag })) same found.1)
    (sym c.index-etags-place.is ∙ sym c.as_str.ensures)))

pub returns-then-last-least-clause-willing : goal.returns-then-last-least-clause-willing
returns-then-last-least-clause-willing c = λ pieces all enough.
    let known : c.args.least ≤ last_length c.args.least c.loop-place.invariant.pieces =
    last_enough c.args.upload.now c.args.least 1 c.args.etags.now pieces c.loop-place.invariant.pieces c.loop-place.place all enough c.loop-place.invariant.parts (omega arith) in
    let same : last_length c.args.least c.loop-place.invariant.pieces ≡ c.loop-place.last = c.loop-place.invariant.last_is in
    let less : c.loop-place.last < c.args.least = c.if-last-least.true in
    omega arith
