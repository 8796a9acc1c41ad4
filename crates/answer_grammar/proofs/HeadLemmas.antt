-- The head at the front of the bytes.
use Rattle.std.proofs.Common.{◌≡◌, ◌⊎◌, ℕ, ◌+◌, ◌*◌, ◌<◌, ◌≤◌, Bool, List, [], ◌∷◌, ◌++◌, length, take, drop, sym, ap, subst, ◌∙◌, arith, inl, inr, Ok, Err, MatchResult, Result, length-append}
use Rattle.std.proofs.lemmas.List.{length-map, length-take-le}
use Rattle.httparse.specs.Grammar.{ResponseHead, print_response, print_section, lf, IsResponseHead, status_code}
use Rattle.httparse.specs.Spans.{IsResponseAt, IsResponseWithin, ResponseExceeds, SectionExceeds, header_bytes, name_and_value}
use Rattle.httparse.specs.Outcome.{OnInvalid}
use Rattle.httparse.specs.declared.Error.{Error}
use Rattle.httparse.specs.declared.Error.TheVariants as error
use Rattle.httparse.specs.declared.spans.HeaderSpan.{HeaderSpan}
use Rattle.httparse.specs.declared.spans.ResponseSpans.{ResponseSpans}
use Rattle.httparse.proofs.GrammarLemmas.{ReadsResponse-append}
use Rattle.s3_model.specs.declared.answers.Why.{Why}
use Rattle.answer_grammar.specs.declared.head.Head.{Head}
use Rattle.answer_grammar.specs.Breaks.{HasUnfitHead}
use Rattle.answer_grammar.specs.Parts.{SaysOf, IsHeadAt, RefusesHead, memory, bad_length}
use Rattle.answer_grammar.specs.Head.{ReadsHead}
use Rattle.answer_grammar.proofs.ChunkLemmas.{end_long, fields_long, section_long}

-- how many lines a head has that was found
pub count_of : (got : List ℕ) (spans : List HeaderSpan) (found : ResponseSpans) (head : ResponseHead) → IsResponseWithin got spans found → IsResponseAt got spans found head
    → length head.fields ≡ found.headers
count_of got spans found head within at =
    sym (length-map head.fields name_and_value) ∙ sym (ap length at.fields) ∙ length-map (take found.headers spans) (header_bytes got)
    ∙ length-take-le found.headers spans within.section.count_fits

pub reads_more : (got more : List ℕ) (head : ResponseHead) (rest : List ℕ) → ReadsHead got head rest → ReadsHead (got ++ more) head (rest ++ more)
reads_more got more head rest reads =
    record { reads = ReadsResponse-append got head rest more reads.reads; small = reads.small; few = reads.few; final = reads.final }

response_long : (h : ResponseHead) → IsResponseHead h → 3 * length h.fields + 1 ≤ length (print_response h)
unfolding print_response
response_long h is =
    let long = fields_long h.fields is.fields in
    let last = end_long h.last in
    simp length-append (omega arith)

-- a head of 65,536 bytes has fewer lines than a room holds
pub no_excess : (got : List ℕ) → length got ≤ 65_536 → ResponseExceeds 21_846 got → ⊥
no_excess got small (front, rest, split, h, reads, many) =
    omega (arith, response_long h reads.0, ap length reads.1, ap length split, length-append front rest, length-append front (10 ∷ []), length-append (print_response h) [], many)

pub no_section_excess : (got : List ℕ) → length got ≤ 65_536 → SectionExceeds 21_846 got → ⊥
no_section_excess got small (front, rest, split, fields, reads, many) =
    omega (arith, section_long fields lf reads.0, ap length reads.1, ap length split, length-append front rest, length-append front (10 ∷ []), length-append (print_section fields lf) [], many)

-- what was said of the lines of a head that was found holds where that head stands
pub said_at : (head_only : Bool) (got : List ℕ) (spans : List HeaderSpan) (found : ResponseSpans) (head : ResponseHead) (result : Result Head Why)
    → length got ≤ 65_536 → IsResponseWithin got spans found → IsResponseAt got spans found head → found.headers ≤ 100 → 200 ≤ found.code
    → SaysOf head_only head found.len result → MatchResult result (IsHeadAt head_only got) (RefusesHead head_only got)
said_at head_only got spans found head result small within at few final says = by result says
  where
    reads : ReadsHead got head (drop found.len got)
    reads = record {
      reads = at.reads;
      small = omega (arith, at.len, within.section.len_fits);
      few = omega (arith, count_of got spans found head within at);
      final = omega (arith, at.code);
    }

    by : (result : Result Head Why) → SaysOf head_only head found.len result → MatchResult result (IsHeadAt head_only got) (RefusesHead head_only got)
    by (Ok here) says =
        let same : found.len ≡ here.len = sym says.0 in
        record { head = head; reads = subst (λ (n : ℕ). ReadsHead got head (drop n got)) same reads; within = omega (arith, within.section.len_fits, same); says = says.1; empty = says.2 }
    by (Err reason) (inl is_memory) = memory is_memory
    by (Err reason) (inr (is_length, none)) = bad_length head (drop found.len got) reads none is_length

-- a whole head with too many lines, or an early status
pub unfit_at : (got : List ℕ) (spans : List HeaderSpan) (found : ResponseSpans) (head : ResponseHead) → length got ≤ 65_536 → IsResponseWithin got spans found → IsResponseAt got spans found head
    → (100 < length head.fields) ⊎ (status_code head < 200) → HasUnfitHead got
unfit_at got spans found head small within at unfit =
    record { head = head; rest = drop found.len got; reads = at.reads; small = omega (arith, at.len, within.section.len_fits); unfit = unfit }

-- an error of the parser is about the bytes where its room can't be too small
pub about_bytes : {A : Type 0} (P : Type 0) (r : Result A Error) (e : Error) → r ≡ Err e → OnInvalid r P → (r ≡ Err error.TooManyHeaders → ⊥) → P
about_bytes {A} P r e is invalid fits = by e is
  where
    at : (e : Error) → r ≡ Err e → (e ≡ error.TooManyHeaders → ⊥) → P
    at e is other = let Q : Result A Error → Type 0 = λ r. OnInvalid r P in subst Q is invalid other

    by : (e : Error) → r ≡ Err e → P
    by error.HeaderName is = at error.HeaderName is (λ same. cc)
    by error.HeaderValue is = at error.HeaderValue is (λ same. cc)
    by error.NewLine is = at error.NewLine is (λ same. cc)
    by error.Status is = at error.Status is (λ same. cc)
    by error.Token is = at error.Token is (λ same. cc)
    by error.TooManyHeaders is = absurd (fits is)
    by error.Version is = at error.Version is (λ same. cc)
