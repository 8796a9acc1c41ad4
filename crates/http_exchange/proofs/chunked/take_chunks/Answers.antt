use Rattle.std.proofs.Common.{◌≡◌, ℕ, ◌+◌, ◌≤◌, List, [], ◌∷◌, ◌++◌, length, ◌<◌, sym, refl, ap, subst, ◌∙◌, arith, inl, Ok, Err, length-append}
use Rattle.std.proofs.lemmas.List.{append-nil}
use Rattle.std.proofs.lemmas.Result.{err_from_is_err_and}
use Rattle.s3_model.specs.Talks.{Ending, Finished}
use Rattle.answer_grammar.specs.declared.framing.Framing.TheVariants as framing
use Rattle.answer_grammar.specs.Chunks.{HasSize, contents}
use Rattle.http_exchange.specs.Exchange.{InPieces}
use Rattle.http_exchange.specs.Steps.{IsOpenBody}
use Rattle.http_exchange.proofs.ChunkedLemmas.{chunks_more, size_read, size_failed, size_above, content_pieces, content_failed, chunk_added, contents_added, trailers_taken}
use Rattle.http_exchange.proofs.TalkLemmas.{heard_nothing, heard_after, ending_is}
use Rattle.http_exchange.proofs.chunked.take_chunks.Goals as goal

pub loop-size-init : goal.loop-size-init
loop-size-init g c = record {
  heard = (
    [],
    [],
    heard_nothing _,
    record { all = λ k d below. absurd (omega (arith, below)); split = append-nil c.args.room.now.incoming },
    c.requires.empty,
    inl refl,
  );
  sum = omega (arith, ap length c.requires.empty);
  room = refl;
  later = omega arith;
}

pub returns-in_err-size-clause-heard : goal.returns-in_err-size-clause-heard
returns-in_err-size-clause-heard g c =
    let p = err_from_is_err_and c.from_residual.result c.from_residual.ensures.1 in
    let so = c.loop-size.invariant.heard in
    let now = c.in_err-size.ensures.heard in
    let within : length (contents so.1) ≤ c.args.limit = omega (arith, ap length so.4, c.loop-size.invariant.sum) in
    rw p.1 (
      so.0 ++ now.0,
      now.1,
      heard_after so.0 now.0 Finished now.1 _ _ _ refl so.2 now.2,
      size_failed c.args.limit _ so.0 _ now.0 _ _ _ so.1 now.1 c.in_err-size.field-0.0 p.0 p.2 so.3 within so.5 now.3,
    )

pub returns-then-size-left-clause-heard : goal.returns-then-size-left-clause-heard
returns-then-size-left-clause-heard g c =
    let so = c.loop-size.invariant.heard in
    let now = c.in_ok-size.ensures.heard in
    let within : length (contents so.1) ≤ c.args.limit = omega (arith, ap length so.4, c.loop-size.invariant.sum) in (
      so.0 ++ now.0,
      now.1,
      heard_after so.0 now.0 Finished now.1 _ _ _ refl so.2 now.2,
      size_above c.args.limit c.in_ok-size.size _ so.0 _ now.0 _ _ _ so.1 now.1 so.3 within (omega (arith, ap length so.4, c.loop-size.invariant.sum, c.if-size-left.true)) so.5 now.3,
    )

pub returns-in_err-take_chunk-clause-heard : goal.returns-in_err-take_chunk-clause-heard
returns-in_err-take_chunk-clause-heard g c =
    let p = err_from_is_err_and c.from_residual-in_err-take_chunk.result c.from_residual-in_err-take_chunk.ensures.1 in
    let so = c.loop-size.invariant.heard in
    let size = c.in_ok-size.ensures.heard in
    let now = c.in_err-take_chunk.ensures.heard in
    let within : length (contents so.1) ≤ c.args.limit = omega (arith, ap length so.4, c.loop-size.invariant.sum) in
    let got = so.0 ++ size.0 in
    let heard = heard_after so.0 size.0 Finished size.1 _ _ _ refl so.2 size.2 in
    let pieces = size_read c.args.limit c.in_ok-size.size _ so.0 _ size.0 _ so.1 size.1 so.3 within so.5 size.3 in
    rw p.1 (
      got ++ now.0,
      now.1,
      heard_after got now.0 size.1 now.1 _ _ _ size.3.comes.1 heard now.2,
      content_failed c.args.limit c.in_ok-size.size _ got _ _ now.0 _ _ _ _ _ so.1 now.1 c.in_err-take_chunk.field-0.0 p.0 p.2 (chunks_more _ so.0 _ size.0 so.1 so.3) within size.3.comes.0 (omega (arith, c.if-size-eq0.false))
          (omega (arith, ap length so.4, c.loop-size.invariant.sum, c.if-size-left.false)) pieces now.3,
    )

pub loop-size-preserved : goal.loop-size-preserved
loop-size-preserved g c =
    let so = c.loop-size.invariant.heard in
    let size = c.in_ok-size.ensures.heard in
    let now = c.in_ok-take_chunk.ensures.heard in
    let within : length (contents so.1) ≤ c.args.limit = omega (arith, ap length so.4, c.loop-size.invariant.sum) in
    let got = so.0 ++ size.0 in
    let heard = heard_after so.0 size.0 Finished size.1 _ _ _ refl so.2 size.2 in
    let pieces = size_read c.args.limit c.in_ok-size.size _ so.0 _ size.0 _ so.1 size.1 so.3 within so.5 size.3 in
    let has = chunks_more _ so.0 _ size.0 so.1 so.3 in
    let some : 0 < c.in_ok-size.size = omega (arith, c.if-size-eq0.false) in
    let fits : length (contents so.1) + c.in_ok-size.size ≤ c.args.limit = omega (arith, ap length so.4, c.loop-size.invariant.sum, c.if-size-left.false) in
    let content = now.3.comes in
    let E : Ending → Type 0 = λ e. InPieces (IsOpenBody framing.Chunked c.args.limit) c.args.room.now.incoming (got ++ now.0) e in
    let body = content.3 ∙ ap (λ (b : List ℕ). b ++ content.0) so.4 in
    record {
      heard = (
        got ++ now.0,
        so.1 ++ record { line = size.3.comes.0.line; content = content.0 } ∷ [],
        ending_is (got ++ now.0) now.1 Finished _ _ content.4 (heard_after got now.0 size.1 now.1 _ _ _ size.3.comes.1 heard now.2),
        chunk_added c.in_ok-size.size _ got _ _ now.0 _ content.0 so.1 has size.3.comes.0 some content.1 content.2,
        body ∙ sym (contents_added so.1 (record { line = size.3.comes.0.line; content = content.0 })),
        subst E content.4 (content_pieces c.args.limit c.in_ok-size.size _ got _ _ now.0 so.1 now.1 has within size.3.comes.0 some fits pieces now.3.pieces),
      );
      sum = omega (arith, ap length content.3, length-append c.loop-size.body.bytes content.0, content.1, c.loop-size.invariant.sum, c.if-size-left.false);
      room = c.take_chunk.ensures.room_kept ∙ c.loop-size.invariant.room;
      later = omega (arith, c.take_form.ensures.cause.later, c.take_chunk.ensures.cause.later);
    }

pub returns-in_err-take_form-clause-heard : goal.returns-in_err-take_form-clause-heard
returns-in_err-take_form-clause-heard g c =
    let p = err_from_is_err_and c.from_residual-in_err-take_form.result c.from_residual-in_err-take_form.ensures.1 in
    let so = c.loop-size.invariant.heard in
    let size = c.in_ok-size.ensures.heard in
    let now = c.in_err-take_form.ensures.heard in
    let within : length (contents so.1) ≤ c.args.limit = omega (arith, ap length so.4, c.loop-size.invariant.sum) in
    let got = so.0 ++ size.0 in
    let heard = heard_after so.0 size.0 Finished size.1 _ _ _ refl so.2 size.2 in
    let pieces = size_read c.args.limit c.in_ok-size.size _ so.0 _ size.0 _ so.1 size.1 so.3 within so.5 size.3 in
    let none : c.in_ok-size.size ≡ 0 = omega (arith, c.if-size-eq0.true) in
    let H : ℕ → Type 0 = λ n. HasSize (c.loop-size.room.incoming ++ size.0) n c.take_form.new.room.incoming in
    rw (p.1, p.2) (
      got ++ now.0,
      now.1,
      heard_after got now.0 size.1 now.1 _ _ _ size.3.comes.1 heard now.2,
      trailers_taken c.args.limit _ got _ _ now.0 _ c.loop-size.body.bytes so.1 now.1 (Err c.in_err-take_form.field-0.0) (chunks_more _ so.0 _ size.0 so.1 so.3) within so.4 (subst H none size.3.comes.0) pieces now.3,
    )

pub returns-clause-heard : goal.returns-clause-heard
returns-clause-heard g c =
    let so = c.loop-size.invariant.heard in
    let size = c.in_ok-size.ensures.heard in
    let now = c.in_ok-take_form.ensures.heard in
    let within : length (contents so.1) ≤ c.args.limit = omega (arith, ap length so.4, c.loop-size.invariant.sum) in
    let got = so.0 ++ size.0 in
    let heard = heard_after so.0 size.0 Finished size.1 _ _ _ refl so.2 size.2 in
    let pieces = size_read c.args.limit c.in_ok-size.size _ so.0 _ size.0 _ so.1 size.1 so.3 within so.5 size.3 in
    let none : c.in_ok-size.size ≡ 0 = omega (arith, c.if-size-eq0.true) in
    let H : ℕ → Type 0 = λ n. HasSize (c.loop-size.room.incoming ++ size.0) n c.take_form.new.room.incoming in (
      got ++ now.0,
      now.1,
      heard_after got now.0 size.1 now.1 _ _ _ size.3.comes.1 heard now.2,
      trailers_taken c.args.limit _ got _ _ now.0 _ c.loop-size.body.bytes so.1 now.1 (Ok c.in_ok-take_form.field-0) (chunks_more _ so.0 _ size.0 so.1 so.3) within so.4 (subst H none size.3.comes.0) pieces now.3,
    )
