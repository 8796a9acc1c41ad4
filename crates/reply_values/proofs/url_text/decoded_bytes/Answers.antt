use Rattle.std.proofs.Common.{◌∙◌, ◌∷◌, [], sym}
use Rattle.reply_values.proofs.CutLemmas.{long_is}
use Rattle.reply_values.proofs.UrlPieces.{all_plain, piece_more, stuck_behind}
use Rattle.reply_values.proofs.url_text.decoded_bytes.Goals as goal
use Rattle.shared_lemmas.proofs.Lists.{none_from_test}

pub returns-then-is_empty-clause-value : goal.returns-then-is_empty-clause-value
returns-then-is_empty-clause-value c =
    let inv = c.pieces.invariant in
    let items = rw c.if-is_err.ensures.negation at c.extend_from_slice.ensures.items in
    rw items (all_plain c.args.text.now inv.0 c.pieces.rest.now _ _ c.pieces.bytes.items inv.1
    c.split_plain.ensures.split inv.2 c.split_plain.ensures.plain
    (none_from_test _ (sym c.is_empty.ensures ∙ c.if-is_empty.true)))

pub returns-in_default-first_byte-clause-refused :
    goal.returns-in_default-first_byte-clause-refused
returns-in_default-first_byte-clause-refused c = λ _ bytes h.
    let inv = c.pieces.invariant in
    stuck_behind c.args.text.now inv.0 c.pieces.rest.now _ _ c.pieces.bytes.items inv.1 c.split_plain.ensures.split
    inv.2 c.split_plain.ensures.plain (long_is _ (sym c.is_empty.ensures ∙ c.if-is_empty.false))
    c.in_default-first_byte.ensures.refused bytes h

pub pieces-preserved : goal.pieces-preserved
pieces-preserved c =
    let inv = c.pieces.invariant in
    let before = rw c.if-is_err.ensures.negation at c.extend_from_slice.ensures.items in
    let items = rw c.if-is_err-2.ensures.negation at c.push.ensures.items in
    let step = piece_more c.args.text.now inv.0 c.pieces.rest.now _ _ c.pieces.bytes.items (c.in-Some.byte ∷ [])
    c.in-Some.next.now inv.1 c.split_plain.ensures.split inv.2 c.split_plain.ensures.plain c.in-Some.ensures.value in
    (step.0, step.1, rw (items, before) step.2)
