-- Chunks that come in pieces.
use Rattle.std.proofs.Common.{◌≡◌, ◌≢◌, ◌⊎◌, ℕ, ◌+◌, ◌<◌, ◌≤◌, List, [], ◌∷◌, ◌++◌, length, sym, refl, ap, subst, ◌∙◌, arith, append_assoc, inl, inr, Result, Ok, Err}
use Rattle.std.specs.Prelude.{All, flat_map}
use Rattle.std.proofs.lemmas.Grind.{flat_map-append}
use Rattle.std.proofs.lemmas.List.{append-nil}
use Rattle.std.proofs.lemmas.List.Elements.{All-append, All-cons}
use Rattle.httparse.specs.Ascii.{crlf_bytes}
use Rattle.httparse.specs.Grammar.{print_chunk_line}
use Rattle.s3_model.specs.Talks.{Ending, Failed, Closed, Finished}
use Rattle.s3_model.specs.declared.answers.Why.{Why}
use Rattle.s3_model.specs.declared.answers.Why.TheVariants as why
use Rattle.answer_grammar.specs.declared.framing.Framing.TheVariants as framing
use Rattle.answer_grammar.specs.Chunks.{Chunk, IsChunk, IsSizeLine, HasChunks, HasSize, HasTrailers, CannotBeSize, BeginsSize, CannotBeTrailers, BeginsTrailers, BeginsContent, BreaksBehind, BreaksChunks, in_size, too_long, in_content, in_trailers, contents, print_chunk}
use Rattle.answer_grammar.proofs.ChunkLemmas.{chunk_front}
use Rattle.http_exchange.specs.Exchange.{InPieces}
use Rattle.http_exchange.specs.Steps.{IsOpenBody, FormComes, ChunkComes, TakesBody, TakesForm, TakesChunk}
use Rattle.http_exchange.proofs.BodyLemmas.{done_of}
use Rattle.http_exchange.proofs.PieceLemmas.{pieces_after, joined, finished_fine}

pub chunks_more : (before got inc more : List ℕ) (chunks : List Chunk) → HasChunks (before ++ got) chunks inc → HasChunks (before ++ (got ++ more)) chunks (inc ++ more)
chunks_more before got inc more chunks has = record { all = has.all; split = joined before got (flat_map print_chunk chunks) inc more has.split }

size_more : (bytes behind more : List ℕ) (size : ℕ) → HasSize bytes size behind → HasSize (bytes ++ more) size (behind ++ more)
size_more bytes behind more size has =
    record { line = has.line; is_line = has.is_line; split = ap (λ (b : List ℕ). b ++ more) has.split ∙ append_assoc (print_chunk_line has.line) behind more }

-- what breaks off behind whole chunks
behind : (limit : ℕ) (before got inc more : List ℕ) (chunks : List Chunk) (ending : Ending) (reason : Why) → HasChunks (before ++ got) chunks inc → length (contents chunks) ≤ limit
    → BreaksBehind limit (length (contents chunks)) (inc ++ more) ending reason → BreaksChunks limit (before ++ (got ++ more)) ending reason
behind limit before got inc more chunks ending reason has within breaks =
    record { chunks = chunks; after = inc ++ more; whole = chunks_more before got inc more chunks has; within = within; breaks = breaks }

size_open : (limit : ℕ) (before got inc : List ℕ) (chunks : List Chunk) → HasChunks (before ++ got) chunks inc → length (contents chunks) ≤ limit
    → (more : List ℕ) → BeginsSize (inc ++ more) → IsOpenBody framing.Chunked limit (before ++ (got ++ more))
size_open limit before got inc chunks has within more begins = inl (behind limit before got inc more chunks Closed why.EndedEarly has within (in_size (inr (begins, refl, refl))))

-- the pieces up to the end of a size
pub size_pieces : (limit : ℕ) (before got inc more : List ℕ) (chunks : List Chunk) (ending : Ending) → HasChunks (before ++ got) chunks inc → length (contents chunks) ≤ limit
    → InPieces (IsOpenBody framing.Chunked limit) before got Finished → InPieces BeginsSize inc more ending → InPieces (IsOpenBody framing.Chunked limit) before (got ++ more) ending
size_pieces limit before got inc more chunks ending has within pieces form =
    pieces_after (IsOpenBody framing.Chunked limit) BeginsSize (IsOpenBody framing.Chunked limit) before got inc more ending (λ bytes holds. holds) (size_open limit before got inc chunks has within) pieces form

-- a size was read
pub size_read : (limit size : ℕ) (before got inc more last : List ℕ) (chunks : List Chunk) (ending : Ending) → HasChunks (before ++ got) chunks inc → length (contents chunks) ≤ limit
    → InPieces (IsOpenBody framing.Chunked limit) before got Finished → TakesForm HasSize CannotBeSize BeginsSize inc last (Ok size) more ending
    → InPieces (IsOpenBody framing.Chunked limit) before (got ++ more) Finished
size_read limit size before got inc more last chunks ending has within pieces form =
    let E : Ending → Type 0 = λ e. InPieces (IsOpenBody framing.Chunked limit) before (got ++ more) e in
    subst E form.comes.1 (size_pieces limit before got inc more chunks ending has within pieces form.pieces)

pub size_failed : (limit : ℕ) (before got inc more last after body : List ℕ) (chunks : List Chunk) (ending : Ending) (reason other : Why) → other ≡ reason → HasChunks (before ++ got) chunks inc
    → length (contents chunks) ≤ limit → InPieces (IsOpenBody framing.Chunked limit) before got Finished → TakesForm HasSize CannotBeSize BeginsSize inc last (Err reason) more ending
    → TakesBody framing.Chunked limit before after body (Err other) (got ++ more) ending
size_failed limit before got inc more last after body chunks ending reason other same has within pieces form =
    record { pieces = size_pieces limit before got inc more chunks ending has within pieces form.pieces; comes = by form.comes }
  where
    by : FormComes HasSize CannotBeSize BeginsSize inc last (Err reason) more ending
        → ((other ≡ why.WireFailed) × (ending ≡ Failed)) ⊎ ((ending ≢ Failed) × BreaksChunks limit (before ++ (got ++ more)) ending other)
    by (inl failed) = inl (same ∙ failed.0, failed.1)
    by (inr off) = inr (off.0, subst (BreaksChunks limit (before ++ (got ++ more)) ending) (sym same) (behind limit before got inc more chunks ending reason has within (in_size off.1)))

pub size_above : (limit size : ℕ) (before got inc more last after body : List ℕ) (chunks : List Chunk) (ending : Ending) → HasChunks (before ++ got) chunks inc
    → length (contents chunks) ≤ limit → limit < length (contents chunks) + size → InPieces (IsOpenBody framing.Chunked limit) before got Finished
    → TakesForm HasSize CannotBeSize BeginsSize inc last (Ok size) more ending → TakesBody framing.Chunked limit before after body (Err (why.BodyTooLong limit)) (got ++ more) ending
size_above limit size before got inc more last after body chunks ending has within above pieces form = record {
  pieces = size_pieces limit before got inc more chunks ending has within pieces form.pieces;
  comes = inr (finished_fine ending form.comes.1, behind limit before got inc more chunks ending (why.BodyTooLong limit) has within (too_long size last form.comes.0 above refl));
}

-- ---- behind a size, where the bytes up to it are `got`, and `bytes` begin with it

content_open : (limit size : ℕ) (before got bytes middle : List ℕ) (chunks : List Chunk) → HasChunks (before ++ got) chunks bytes → length (contents chunks) ≤ limit → HasSize bytes size middle
    → 0 < size → length (contents chunks) + size ≤ limit → (more : List ℕ) → BeginsContent size (middle ++ more) → IsOpenBody framing.Chunked limit (before ++ (got ++ more))
content_open limit size before got bytes middle chunks has within sized some fits more begins =
    inl (behind limit before got bytes more chunks Closed why.EndedEarly has within (in_content size (middle ++ more) (size_more bytes middle more size sized) some fits (inr (begins, refl, refl))))

pub content_pieces : (limit size : ℕ) (before got bytes middle more : List ℕ) (chunks : List Chunk) (ending : Ending) → HasChunks (before ++ got) chunks bytes → length (contents chunks) ≤ limit
    → HasSize bytes size middle → 0 < size → length (contents chunks) + size ≤ limit → InPieces (IsOpenBody framing.Chunked limit) before got Finished → InPieces (BeginsContent size) middle more ending
    → InPieces (IsOpenBody framing.Chunked limit) before (got ++ more) ending
content_pieces limit size before got bytes middle more chunks ending has within sized some fits pieces chunk =
    pieces_after (IsOpenBody framing.Chunked limit) (BeginsContent size) (IsOpenBody framing.Chunked limit) before got middle more ending (λ bytes holds. holds)
    (content_open limit size before got bytes middle chunks has within sized some fits) pieces chunk

pub content_failed : (limit size : ℕ) (before got bytes middle more last after old new body : List ℕ) (chunks : List Chunk) (ending : Ending) (reason other : Why) → other ≡ reason → HasChunks (before ++ got) chunks bytes
    → length (contents chunks) ≤ limit → HasSize bytes size middle → 0 < size → length (contents chunks) + size ≤ limit → InPieces (IsOpenBody framing.Chunked limit) before got Finished
    → TakesChunk size middle last old new (Err reason) more ending → TakesBody framing.Chunked limit before after body (Err other) (got ++ more) ending
content_failed limit size before got bytes middle more last after old new body chunks ending reason other same has within sized some fits pieces chunk =
    record { pieces = content_pieces limit size before got bytes middle more chunks ending has within sized some fits pieces chunk.pieces; comes = by chunk.comes }
  where
    by : ChunkComes size middle last old new (Err reason) more ending
        → ((other ≡ why.WireFailed) × (ending ≡ Failed)) ⊎ ((ending ≢ Failed) × BreaksChunks limit (before ++ (got ++ more)) ending other)
    by (inl failed) = inl (same ∙ failed.0, failed.1)
    by (inr off) = inr (off.0, subst (BreaksChunks limit (before ++ (got ++ more)) ending) (sym same) (behind limit before got bytes more chunks ending reason has within (in_content size (middle ++ more) (size_more bytes middle more size sized) some fits off.1)))

pub chunk_added : (size : ℕ) (before got bytes middle more last content : List ℕ) (chunks : List Chunk) → HasChunks (before ++ got) chunks bytes → (sized : HasSize bytes size middle) → 0 < size
    → length content ≡ size → middle ++ more ≡ content ++ (crlf_bytes ++ last) → HasChunks (before ++ (got ++ more)) (chunks ++ record { line = sized.line; content = content } ∷ []) last
chunk_added size before got bytes middle more last content chunks has sized some long split =
    let c : Chunk = record { line = sized.line; content = content } in
    let is : IsChunk (record { line = sized.line; content = content }) = record { line = subst (IsSizeLine sized.line) (sym long) sized.is_line; has_content = omega (arith, long, some) } in
    let none : All IsChunk [] = λ k d below. absurd (omega (arith, below)) in
    let more_bytes = ap (λ (b : List ℕ). b ++ more) sized.split ∙ append_assoc (print_chunk_line sized.line) middle more ∙ ap (λ (b : List ℕ). print_chunk_line sized.line ++ b) split ∙ sym (chunk_front (record { line = sized.line; content = content }) last) in
    let texts : flat_map print_chunk (chunks ++ record { line = sized.line; content = content } ∷ []) ≡ flat_map print_chunk chunks ++ print_chunk (record { line = sized.line; content = content }) =
    flat_map-append print_chunk chunks (record { line = sized.line; content = content } ∷ []) ∙ ap (λ (b : List ℕ). flat_map print_chunk chunks ++ b) (append-nil (print_chunk (record { line = sized.line; content = content }))) in
    record {
      all = All-append IsChunk chunks (record { line = sized.line; content = content } ∷ []) has.all (All-cons IsChunk (record { line = sized.line; content = content }) [] is none);
      split = joined before got (flat_map print_chunk chunks) bytes more has.split ∙ ap (λ (b : List ℕ). flat_map print_chunk chunks ++ b) more_bytes
          ∙ sym (append_assoc (flat_map print_chunk chunks) (print_chunk (record { line = sized.line; content = content })) last) ∙ ap (λ (b : List ℕ). b ++ last) (sym texts);
    }

pub contents_added : (chunks : List Chunk) (c : Chunk) → contents (chunks ++ c ∷ []) ≡ contents chunks ++ c.content
contents_added chunks c = flat_map-append (λ (chunk : Chunk). chunk.content) chunks (c ∷ []) ∙ ap (λ (b : List ℕ). contents chunks ++ b) (append-nil c.content)

-- the trailers behind the last chunk
pub trailers_taken : (limit : ℕ) (before got bytes middle more after body : List ℕ) (chunks : List Chunk) (ending : Ending) (result : Result ℕ Why) → HasChunks (before ++ got) chunks bytes
    → length (contents chunks) ≤ limit → body ≡ contents chunks → HasSize bytes 0 middle → InPieces (IsOpenBody framing.Chunked limit) before got Finished
    → TakesForm (λ after value behind. HasTrailers after behind) CannotBeTrailers BeginsTrailers middle after result more ending → TakesBody framing.Chunked limit before after body (done_of result) (got ++ more) ending
trailers_taken limit before got bytes middle more after body chunks ending result has within body_is sized pieces form = by result form
  where
    last : HasSize (bytes ++ more) 0 (middle ++ more)
    last = size_more bytes middle more 0 sized

    open_ : (more : List ℕ) → BeginsTrailers (middle ++ more) → IsOpenBody framing.Chunked limit (before ++ (got ++ more))
    open_ more begins = inl (behind limit before got bytes more chunks Closed why.EndedEarly has within (in_trailers (middle ++ more) (size_more bytes middle more 0 sized) (inr (begins, refl, refl))))

    by : (result : Result ℕ Why) → TakesForm (λ after value behind. HasTrailers after behind) CannotBeTrailers BeginsTrailers middle after result more ending
        → TakesBody framing.Chunked limit before after body (done_of result) (got ++ more) ending
    by (Ok value) form = record {
      pieces = pieces_after (IsOpenBody framing.Chunked limit) BeginsTrailers (IsOpenBody framing.Chunked limit) before got middle more ending (λ bytes holds. holds) open_ pieces form.pieces;
      comes = (
        record { chunks = chunks; after = bytes ++ more; trailing = middle ++ more; whole = chunks_more before got bytes more chunks has; last = size_more bytes middle more 0 sized; trailers = form.comes.0; body_is = body_is },
        omega (arith, within, ap length body_is),
        finished_fine ending form.comes.1,
      );
    }
    by (Err reason) form = record {
      pieces = pieces_after (IsOpenBody framing.Chunked limit) BeginsTrailers (IsOpenBody framing.Chunked limit) before got middle more ending (λ bytes holds. holds) open_ pieces form.pieces;
      comes = elim form.comes [
        | inl failed ↦ inl failed
        | inr off ↦ inr (off.0, behind limit before got bytes more chunks ending reason has within (in_trailers (middle ++ more) (size_more bytes middle more 0 sized) off.1))
      ];
    }
