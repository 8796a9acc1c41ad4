-- Content that comes in pieces, and the CRLF behind it.
use Rattle.std.proofs.Common.{◌≡◌, ◌≢◌, ◌⊎◌, ℕ, ◌-◌, ◌<◌, ◌≤◌, List, [], ◌∷◌, ◌++◌, length, replicate, get_or, sym, refl, ap, subst, ◌∙◌, arith, append_assoc, inl, inr, length-append, Result, Ok, Err}
use Rattle.std.proofs.lemmas.List.{length-replicate}
use Rattle.httparse.specs.Ascii.{crlf_bytes}
use Rattle.s3_model.specs.Talks.{Ending, Failed, Finished}
use Rattle.s3_model.specs.declared.answers.Why.{Why}
use Rattle.s3_model.specs.declared.answers.Why.TheVariants as why
use Rattle.answer_grammar.specs.declared.framing.Framing.TheVariants as framing
use Rattle.answer_grammar.specs.Chunks.{BreaksOff, CannotBeContent, BeginsContent}
use Rattle.answer_grammar.proofs.ChunkLemmas.{same_front}
use Rattle.http_exchange.specs.Forms.{HasLineEnd, CannotBeLineEnd, BeginsLineEnd}
use Rattle.http_exchange.specs.Exchange.{InPieces}
use Rattle.http_exchange.specs.Steps.{ContentComes, IsOpenBody, TakesBody, TakesContent, TakesChunk, TakesForm}
use Rattle.http_exchange.proofs.PieceLemmas.{pieces_as, pieces_after, joined, finished_fine}

-- some bytes more, of which the first ones were moved
pub grown : (before got more content kept added after : List ℕ) → before ++ got ≡ content ++ kept → kept ≡ [] → more ≡ added ++ after → before ++ (got ++ more) ≡ (content ++ added) ++ after
grown before got more content kept added after split empty came =
    joined before got content kept more split ∙ ap (λ (b : List ℕ). content ++ (b ++ more)) empty ∙ ap (λ (b : List ℕ). content ++ b) came ∙ sym (append_assoc content added after)

no_bytes : (bytes : List ℕ) → length bytes < 1 → bytes ≡ []
no_bytes [] none = refl
no_bytes (x ∷ xs) none = absurd (omega (arith, none))

one_byte : (bytes : List ℕ) → length bytes ≡ 1 → bytes ≡ get_or bytes 0 0 ∷ []
one_byte [] one = absurd (omega (arith, one))
one_byte (x ∷ []) one = refl
one_byte (x ∷ y ∷ ys) one = absurd (omega (arith, one))

pub no_line_end : (bytes : List ℕ) → length bytes < 1 → BeginsLineEnd bytes
no_line_end bytes none = record { missing = crlf_bytes; some = omega arith; split = ap (λ (b : List ℕ). b ++ crlf_bytes) (no_bytes bytes none) }

pub half_line_end : (bytes : List ℕ) → length bytes ≡ 1 → get_or bytes 0 0 ≡ 13 → BeginsLineEnd bytes
half_line_end bytes one is = record { missing = 10 ∷ []; some = omega arith; split = ap (λ (b : List ℕ). b ++ 10 ∷ []) (one_byte bytes one ∙ ap (λ (b : ℕ). b ∷ []) is) }

-- fewer bytes than the content has begin it
pub short_begins : (size : ℕ) (bytes : List ℕ) → length bytes < size → BeginsContent size bytes
short_begins size bytes short =
    let long : length (replicate {A = ℕ} (size - length bytes) 0) ≡ size - length bytes = length-replicate {A = ℕ} (size - length bytes) 0 in
    record {
      content = bytes ++ replicate {A = ℕ} (size - length bytes) 0;
      missing = replicate {A = ℕ} (size - length bytes) 0 ++ crlf_bytes;
      long = omega (arith, length-append bytes (replicate {A = ℕ} (size - length bytes) 0), long, short);
      some = omega (arith, length-append (replicate {A = ℕ} (size - length bytes) 0) crlf_bytes, long, short);
      split = sym (append_assoc bytes (replicate {A = ℕ} (size - length bytes) 0) crlf_bytes);
    }

whole_begins : (size : ℕ) (content rest : List ℕ) → length content ≡ size → BeginsLineEnd rest → BeginsContent size (content ++ rest)
whole_begins size content rest long begins = record {
  content = content;
  missing = begins.missing;
  long = long;
  some = begins.some;
  split = append_assoc content rest begins.missing ∙ ap (λ (b : List ℕ). content ++ b) begins.split;
}

whole_cannot : (size : ℕ) (content rest : List ℕ) → length content ≡ size → CannotBeLineEnd rest → CannotBeContent size (content ++ rest)
whole_cannot size content rest long cannot other more behind same split =
    cannot more behind (same_front content other (rest ++ more) (crlf_bytes ++ behind) (sym (append_assoc content rest more) ∙ split) (long ∙ sym same)).1

-- content that was cut
pub chunk_cut : (size : ℕ) (before after later body_before body_after : List ℕ) (got : List ℕ) (ending : Ending) (reason other : Why) → other ≡ reason
    → TakesContent size before after body_before body_after (Err reason) got ending → TakesChunk size before later body_before body_after (Err other) got ending
chunk_cut size before after later body_before body_after got ending reason other same takes = record { pieces = pieces_as (λ bytes. length bytes < size) (BeginsContent size) before got ending (short_begins size) takes.pieces; comes = by takes.comes }
  where
    by : ContentComes size before after body_before body_after (Err reason) got ending → ((other ≡ why.WireFailed) × (ending ≡ Failed)) ⊎ ((ending ≢ Failed) × BreaksOff (CannotBeContent size (before ++ got)) (BeginsContent size (before ++ got)) ending other)
    by (inl failed) = inl (same ∙ failed.0, failed.1)
    by (inr cut) = inr (cut.0, inr (short_begins size (before ++ got) cut.1.0, cut.1.1, same ∙ cut.1.2))

abbrev pub done_of : Result ℕ Why → Result Unit Why
done_of (Ok value) = Ok tt
done_of (Err reason) = Err reason

-- content, and then what stands behind it
pub chunk_after : (size : ℕ) (before middle after body_before body_after : List ℕ) (first second : List ℕ) (early ending : Ending) (done : Unit {0}) (result : Result ℕ Why)
    → TakesContent size before middle body_before body_after (Ok done) first early → TakesForm HasLineEnd CannotBeLineEnd BeginsLineEnd middle after result second ending
    → TakesChunk size before after body_before body_after (done_of result) (first ++ second) ending
chunk_after size before middle after body_before body_after first second early ending done result content form = by result form
  where
    over : (more : List ℕ) → before ++ (first ++ more) ≡ content.comes.0 ++ (middle ++ more)
    over more = joined before first content.comes.0 middle more content.comes.2

    begins : (more : List ℕ) → BeginsLineEnd (middle ++ more) → BeginsContent size (before ++ (first ++ more))
    begins more is = subst (BeginsContent size) (sym (over more)) (whole_begins size content.comes.0 (middle ++ more) content.comes.1 is)

    cannot : (more : List ℕ) → CannotBeLineEnd (middle ++ more) → CannotBeContent size (before ++ (first ++ more))
    cannot more is = subst (CannotBeContent size) (sym (over more)) (whole_cannot size content.comes.0 (middle ++ more) content.comes.1 is)

    first_pieces : InPieces (λ bytes. length bytes < size) before first Finished
    first_pieces =
        let E : Ending → Type 0 = λ e. InPieces (λ bytes. length bytes < size) before first e in
        subst E content.comes.4 content.pieces

    by : (result : Result ℕ Why) → TakesForm HasLineEnd CannotBeLineEnd BeginsLineEnd middle after result second ending → TakesChunk size before after body_before body_after (done_of result) (first ++ second) ending
    by (Ok value) form = record {
      pieces = pieces_after (λ bytes. length bytes < size) BeginsLineEnd (BeginsContent size) before first middle second ending (short_begins size) begins first_pieces form.pieces;
      comes = (content.comes.0, content.comes.1, over second ∙ ap (λ (b : List ℕ). content.comes.0 ++ b) form.comes.0, content.comes.3, form.comes.1);
    }
    by (Err reason) form = record {
      pieces = pieces_after (λ bytes. length bytes < size) BeginsLineEnd (BeginsContent size) before first middle second ending (short_begins size) begins first_pieces form.pieces;
      comes = elim form.comes [
        | inl failed ↦ inl failed
        | inr off ↦ inr (off.0, elim off.1 [ inl is ↦ inl (cannot second is.0, is.1) | inr is ↦ inr (begins second is.0, is.1, is.2) ])
      ];
    }

-- content that is the whole body
pub content_body : (n limit : ℕ) (before after old new : List ℕ) (result : Result Unit Why) (got : List ℕ) (ending : Ending) → n ≤ limit → old ≡ [] → TakesContent n before after old new result got ending
    → TakesBody (framing.Length n) limit before after new result got ending
content_body n limit before after old new (Ok done) got ending fits empty takes =
    let body : new ≡ takes.comes.0 = takes.comes.3 ∙ ap (λ (b : List ℕ). b ++ takes.comes.0) empty in
    record {
      pieces = pieces_as (λ bytes. length bytes < n) (IsOpenBody (framing.Length n) limit) before got ending (λ bytes short. inl (inr (fits, short, refl, refl))) takes.pieces;
      comes = (
        (ap length body ∙ takes.comes.1, takes.comes.2 ∙ ap (λ (b : List ℕ). b ++ after) (sym body)),
        omega (arith, ap length body, takes.comes.1, fits),
        finished_fine ending takes.comes.4,
      );
    }
content_body n limit before after old new (Err reason) got ending fits empty takes = record {
  pieces = pieces_as (λ bytes. length bytes < n) (IsOpenBody (framing.Length n) limit) before got ending (λ bytes short. inl (inr (fits, short, refl, refl))) takes.pieces;
  comes = elim takes.comes [
    | inl failed ↦ inl failed
    | inr off ↦ inr (off.0, inr (fits, off.1.0, off.1.1, off.1.2))
  ];
}
