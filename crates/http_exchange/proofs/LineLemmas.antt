-- A head that is tried when a line ends.
use Rattle.std.proofs.Common.{◌≡◌, ℕ, ◌+◌, ◌<◌, Bool, not, eqb, List, [], ◌∷◌, ◌++◌, length, take, drop, sym, refl, ap, subst, ◌∙◌, arith, append_assoc, inl, inr, length-append, Option, Some, None, Ok}
use Rattle.std.specs.List.{flat_map}
use Rattle.std.proofs.lemmas.Bool.{and_from, cases_lt}
use Rattle.std.proofs.lemmas.List.{take_all, take_at, drop_at, take-append-le, drop-append-le, take-append-drop}
use Rattle.std.proofs.lemmas.List.Folds.{list_all-append}
use Rattle.httparse.specs.Grammar.{ResponseHead, ReadsResponse, HasNoResponse, LineEnd, crlf, lf, print_end, print_field, print_blank, print_version, print_reason, print_response}
use Rattle.s3_model.specs.Talks.{Ending, Closed}
use Rattle.s3_model.specs.declared.answers.Why.{Why}
use Rattle.answer_grammar.proofs.RangeLemmas.{has_byte}
use Rattle.answer_grammar.specs.Breaks.{BeginsHead}
use Rattle.answer_grammar.specs.Parts.{IsHeadAt, ReadsStep}
use Rattle.answer_grammar.specs.declared.head.Head.{Head}
use Rattle.http_exchange.specs.Exchange.{BeginsByLine, LacksLineEnd}
use Rattle.http_exchange.specs.Steps.{IsBegun, IsWhyNoHead, NoHead}

pub lacks_both : (first second : List ℕ) → LacksLineEnd first → LacksLineEnd second → LacksLineEnd (first ++ second)
lacks_both first second one two = list_all-append (λ b. not (eqb b 10)) first second ∙ and_from _ _ one two

pub by_line : (before bytes : List ℕ) → BeginsHead before → IsBegun before bytes → BeginsByLine bytes
by_line before bytes begins (part, split, lacks, short) = (before, part, split, lacks, short, begins)

end_ends : (end : LineEnd) → (front : List ℕ) × (print_end end ≡ front ++ 10 ∷ [])
end_ends crlf = (13 ∷ [], refl)
end_ends lf = ([], refl)

-- the text of a head ends in a line feed
head_ends : (h : ResponseHead) → (front : List ℕ) × (print_response h ≡ front ++ 10 ∷ [])
unfolding print_response
head_ends h = let (front, split) = end_ends h.last in
    (print_blank h.blank ++ (print_version h.minor ++ (32 ∷ (h.digits ++ (print_reason h.reason ++ (print_end h.line_end ++ (flat_map print_field h.fields ++ front)))))), rw split (simp append_assoc))

-- no head becomes whole by bytes that end no line
pub no_head_yet : (before part : List ℕ) → HasNoResponse before → LacksLineEnd part → HasNoResponse (before ++ part)
no_head_yet before part none lacks head rest reads =
    let text = print_response head in
    let (front, ends) = head_ends head in
    elim (cases_lt (length before) (length (print_response head))) [
      | inl short ↦
          let long : length (print_response head) ≡ length front + 1 = ap length ends ∙ length-append front (10 ∷ []) in
          let split : before ++ part ≡ front ++ (10 ∷ rest) = reads.1 ∙ ap (λ (b : List ℕ). b ++ rest) ends ∙ append_assoc front (10 ∷ []) rest in
          let behind : part ≡ drop (length before) front ++ (10 ∷ rest) =
          sym (drop_at before part (length before) refl) ∙ ap (drop (length before)) split ∙ drop-append-le (length before) front (10 ∷ rest) (omega (arith, long, short)) in
          has_byte 10 (drop (length before) front) rest (subst LacksLineEnd behind lacks)
      | inr fits ↦
          let first : take (length (print_response head)) before ≡ print_response head =
          sym (take-append-le (length (print_response head)) before part fits) ∙ ap (take (length (print_response head))) reads.1 ∙ take_at (print_response head) rest (length (print_response head)) refl in
          none head (drop (length (print_response head)) before)
          (reads.0, sym (take-append-drop (length (print_response head)) before) ∙ ap (λ (b : List ℕ). b ++ drop (length (print_response head)) before) first)
    ]

-- of fewer bytes than a head may have, all are looked at
pub begins_all : (got : List ℕ) → length got < 65_536 → BeginsHead (take 65_536 got) → BeginsHead got
begins_all got short begins = subst BeginsHead (take_all 65_536 got (omega (arith, short))) begins

-- no head is found behind bytes that begin one and then end no line
pub head_at_lines : (head_only : Bool) (before part : List ℕ) (found : Head) → length (before ++ part) < 65_536 → BeginsHead before → LacksLineEnd part
    → IsHeadAt head_only (take 65_536 (before ++ part)) found → ⊥
head_at_lines head_only before part found short begins lacks at =
    let R : List ℕ → Type 0 = λ bytes. ReadsResponse bytes at.head (drop found.len (take 65_536 (before ++ part))) in
    no_head_yet before part begins.none lacks at.head (drop found.len (take 65_536 (before ++ part))) (subst R (take_all 65_536 (before ++ part) (omega (arith, short))) at.reads.reads)

-- why no head came before the connection closed
pub no_head : (head_only : Bool) (got : List ℕ) (ending : Ending) (reason : Why) → length got < 65_536 → ending ≡ Closed
    → IsWhyNoHead head_only (take 65_536 got) reason → NoHead head_only got ending reason
no_head head_only got ending reason short closed (inl refused) = inl refused
no_head head_only got ending reason short closed (inr (begins, is)) = inr (inr (short, begins_all got short begins, closed, is))

-- bytes that have no head begin one, where none was refused
pub lacks_head : (head_only : Bool) (bytes : List ℕ) (found : Option Head) → ((head : Head) → IsHeadAt head_only bytes head → ⊥)
    → ReadsStep head_only bytes (Ok found) → BeginsHead bytes
lacks_head head_only bytes (Some head) none at = absurd (none head at)
lacks_head head_only bytes None none begins = begins
