-- What stands at the front of a chunked body is one thing, and not the beginning of another.
use Rattle.std.proofs.Common.{◌≡◌, ℕ, ◌+◌, ◌*◌, ◌-◌, ◌≤◌, min, List, [], ◌∷◌, ◌++◌, length, take, drop, sym, refl, ap, subst, ◌∙◌, arith, append_assoc, inl, inr, length-append}
use Rattle.std.specs.Prelude.{All, flat_map}
use Rattle.std.proofs.Math.Seq.{take-append-add}
use Rattle.std.proofs.lemmas.Bool.{cases_lt}
use Rattle.std.proofs.lemmas.List.{take_at, drop_at, take_all, append-nil, take-append-drop, length-take}
use Rattle.std.proofs.lemmas.List.Elements.{All-head, All-tail}
use Rattle.httparse.specs.Ascii.{crlf_bytes}
use Rattle.httparse.specs.Grammar.{LineEnd, crlf, lf, print_end, Field, IsField, print_field, print_section, ReadsSection, ChunkLine, print_chunk_line, chunk_size, ReadsChunkLine}
use Rattle.httparse.specs.Spans.{IsChunkLineAt}
use Rattle.httparse.proofs.ChunkLemmas.{chunk_line_unique}
use Rattle.httparse.proofs.GrammarLemmas.{section_unique}
use Rattle.s3_model.specs.Talks.{Ending}
use Rattle.s3_model.specs.declared.answers.Why.{Why}
use Rattle.answer_grammar.specs.Chunks.{Chunk, HasSize, HasTrailers, BreaksOff, CannotBeSize, BeginsSize, CannotBeContent, BeginsContent, CannotBeTrailers, BeginsTrailers, print_chunk}

-- two fronts of one length, and what stands behind them
pub same_front : (x y a b : List ℕ) → x ++ a ≡ y ++ b → length x ≡ length y → (x ≡ y) × (a ≡ b)
same_front x y a b same long = (
  sym (take_at x a (length x) refl) ∙ ap (take (length x)) same ∙ take_at y b (length x) (sym long),
  sym (drop_at x a (length x) refl) ∙ ap (drop (length x)) same ∙ drop_at y b (length x) (sym long),
)

-- a front that stands within the first n bytes stands there
pub front_within : (n : ℕ) (whole front behind : List ℕ) → length front ≤ n → whole ≡ front ++ behind → take n whole ≡ front ++ take (n - length front) behind
front_within n whole front behind small split =
    let sum : n ≡ length front + (n - length front) = omega arith in
    ap (take n) split ∙ ap (λ (m : ℕ). take m (front ++ behind)) sum ∙ take-append-add front behind (n - length front)

-- a chunk in front of other bytes
pub chunk_front : (c : Chunk) (rest : List ℕ) → print_chunk c ++ rest ≡ print_chunk_line c.line ++ (c.content ++ (crlf_bytes ++ rest))
chunk_front c rest =
    append_assoc (print_chunk_line c.line ++ c.content) crlf_bytes rest ∙ append_assoc (print_chunk_line c.line) c.content (crlf_bytes ++ rest)

-- one reason for what breaks off
pub one_reason : (cannot_be begins : Type 0) (ending : Ending) (r s : Why) → (cannot_be → begins → ⊥) → BreaksOff cannot_be begins ending r → BreaksOff cannot_be begins ending s → r ≡ s
one_reason cannot_be begins ending r s apart (inl here) (inl there) = here.1 ∙ sym there.1
one_reason cannot_be begins ending r s apart (inl here) (inr there) = absurd (apart here.0 there.0)
one_reason cannot_be begins ending r s apart (inr here) (inl there) = absurd (apart there.0 here.0)
one_reason cannot_be begins ending r s apart (inr here) (inr there) = here.2 ∙ sym there.2

-- nothing breaks off
pub none_off : (cannot_be begins : Type 0) (ending : Ending) (r : Why) → (cannot_be → ⊥) → (begins → ⊥) → BreaksOff cannot_be begins ending r → ⊥
none_off cannot_be begins ending r can none (inl here) = can here.0
none_off cannot_be begins ending r can none (inr here) = none here.0

-- ---- the line with a size

pub size_once : (after : List ℕ) (s t : ℕ) (a b : List ℕ) → HasSize after s a → HasSize after t b → (s ≡ t) × (a ≡ b)
size_once after s t a b here there =
    let same = chunk_line_unique after here.line there.line a b (here.is_line.form, here.split) (there.is_line.form, there.split) in
    (sym here.is_line.size_is ∙ ap chunk_size same.0 ∙ there.is_line.size_is, same.1)

pub size_can_be : (after : List ℕ) (size : ℕ) (behind : List ℕ) → HasSize after size behind → CannotBeSize after → ⊥
size_can_be after size behind has cannot_be = by cannot_be
  where
    within : take 1024 after ≡ print_chunk_line has.line ++ take (1024 - length (print_chunk_line has.line)) behind
    within = front_within 1024 after (print_chunk_line has.line) behind has.is_line.small has.split

    by : CannotBeSize after → ⊥
    by (inl never) = never [] has.line (take (1024 - length (print_chunk_line has.line)) behind) (has.is_line.form, append-nil (take 1024 after) ∙ within)
    by (inr none) = none.1 has.line (take (1024 - length (print_chunk_line has.line)) behind) (has.is_line.form, within)

pub size_begun : (after : List ℕ) (size : ℕ) (behind : List ℕ) → HasSize after size behind → BeginsSize after → ⊥
size_begun after size behind has begins = begins.none has.line behind (has.is_line.form, has.split)

pub size_apart : (after : List ℕ) → CannotBeSize after → BeginsSize after → ⊥
size_apart after (inl never) begins =
    let (more, line, reads) = begins.may_come in
    let whole : take 1024 after ≡ after = take_all 1024 after (omega (arith, begins.short)) in
    let P : List ℕ → Type 0 = λ bytes. ReadsChunkLine (bytes ++ more) line [] in
    never more line [] (subst P (sym whole) reads)
size_apart after (inr none) begins = omega (arith, none.0, begins.short)

-- ---- content

pub content_can_be : (size : ℕ) (after content behind : List ℕ) → length content ≡ size → after ≡ content ++ (crlf_bytes ++ behind) → CannotBeContent size after → ⊥
content_can_be size after content behind long split cannot_be = cannot_be content [] behind long (append-nil after ∙ split)

pub content_begun : (size : ℕ) (after content behind : List ℕ) → length content ≡ size → after ≡ content ++ (crlf_bytes ++ behind) → BeginsContent size after → ⊥
content_begun size after content behind long split begins =
    omega (arith, ap length begins.split, ap length split, begins.long, begins.some, length-append after begins.missing, length-append begins.content crlf_bytes, length-append content (crlf_bytes ++ behind), length-append crlf_bytes behind)

pub content_apart : (size : ℕ) (after : List ℕ) → CannotBeContent size after → BeginsContent size after → ⊥
content_apart size after cannot_be begins =
    cannot_be begins.content begins.missing [] begins.long (begins.split ∙ ap (λ (bytes : List ℕ). begins.content ++ bytes) (sym (append-nil crlf_bytes)))

-- ---- trailers

pub trailers_once : (after a b : List ℕ) → HasTrailers after a → HasTrailers after b → a ≡ b
trailers_once after a b here there = (section_unique after here.trailers there.trailers here.end there.end a b here.section there.section).2

pub trailers_can_be : (after behind : List ℕ) → HasTrailers after behind → CannotBeTrailers after → ⊥
trailers_can_be after behind has cannot_be = by cannot_be
  where
    text : List ℕ
    text = print_section has.trailers has.end

    within : take 1024 after ≡ print_section has.trailers has.end ++ take (1024 - length (print_section has.trailers has.end)) behind
    within = front_within 1024 after (print_section has.trailers has.end) behind has.small has.section.1

    by : CannotBeTrailers after → ⊥
    by (inl never) = never [] has.trailers has.end (take (1024 - length (print_section has.trailers has.end)) behind) (has.section.0, append-nil (take 1024 after) ∙ within)
    by (inr none) = none.1 has.trailers has.end (take (1024 - length (print_section has.trailers has.end)) behind) (has.section.0, within)

pub trailers_begun : (after behind : List ℕ) → HasTrailers after behind → BeginsTrailers after → ⊥
trailers_begun after behind has begins = begins.none has.trailers has.end behind has.section

pub trailers_apart : (after : List ℕ) → CannotBeTrailers after → BeginsTrailers after → ⊥
trailers_apart after (inl never) begins =
    let (more, trailers, end, reads) = begins.may_come in
    let whole : take 1024 after ≡ after = take_all 1024 after (omega (arith, begins.short)) in
    let P : List ℕ → Type 0 = λ bytes. ReadsSection (bytes ++ more) trailers end [] in
    never more trailers end [] (subst P (sym whole) reads)
trailers_apart after (inr none) begins = omega (arith, none.0, begins.short)

-- ---- how long a section is

pub end_long : (end : LineEnd) → 1 ≤ length (print_end end)
end_long crlf = omega arith
end_long lf = omega arith

field_long : (f : Field) → IsField f → 3 ≤ length (print_field f)
field_long f is =
    let end = end_long f.end in
    let name = is.name.0 in
    simp length-append (omega arith)

pub fields_long : (fields : List Field) → All IsField fields → 3 * length fields ≤ length (flat_map print_field fields)
fields_long [] all = omega arith
fields_long (f ∷ fs) all =
    omega (arith, field_long f (All-head IsField f fs all), fields_long fs (All-tail IsField f fs all), length-append (print_field f) (flat_map print_field fs))

pub section_long : (fields : List Field) (end : LineEnd) → All IsField fields → 3 * length fields + 1 ≤ length (print_section fields end)
section_long fields end all = omega (arith, fields_long fields all, end_long end, length-append (flat_map print_field fields) (print_end end))

-- ---- what stands in a window of the bytes

pub window_is : (n : ℕ) (bytes : List ℕ) → take (min (length bytes) n) bytes ≡ take n bytes
window_is n bytes = elim (cases_lt (length bytes) n) [
  | inl short ↦ take_all (min (length bytes) n) bytes (omega (arith, short)) ∙ sym (take_all n bytes (omega (arith, short)))
  | inr long ↦ ap (λ (m : ℕ). take m bytes) (omega (arith, long))
]

-- what stands in front of the bytes in the window, stands in front of all
pub behind_window : (n len : ℕ) (bytes front : List ℕ) → take n bytes ≡ front ++ drop len (take n bytes) → len ≡ length front → bytes ≡ front ++ drop len bytes
behind_window n len bytes front split long =
    let rest = drop len (take n bytes) ++ drop n bytes in
    let whole : bytes ≡ front ++ (drop len (take n bytes) ++ drop n bytes) =
    sym (take-append-drop n bytes) ∙ ap (λ (first : List ℕ). first ++ drop n bytes) split ∙ append_assoc front (drop len (take n bytes)) (drop n bytes) in
    whole ∙ ap (λ (left : List ℕ). front ++ left) (sym (ap (drop len) whole ∙ drop_at front (drop len (take n bytes) ++ drop n bytes) len (sym long)))

pub size_found : (n len size : ℕ) (after : List ℕ) (line : ChunkLine) → n ≤ 1_024 → IsChunkLineAt (take n after) len size line → (len ≤ length after) × HasSize after size (drop len after)
size_found n len size after line small at =
    let split = behind_window n len after (print_chunk_line line) at.reads.1 at.len_is in
    let within : len ≤ length (take n after) = omega (arith, at.len_is, ap length at.reads.1, length-append (print_chunk_line line) (drop len (take n after))) in (
      omega (arith, within, length-take n after),
      record { line = line; is_line = record { form = at.reads.0; small = omega (arith, at.len_is, within, length-take n after, small); size_is = sym at.size_is }; split = split },
    )
