-- How far a text that is not UTF-8 is the front of one that is.
use Rattle.std.proofs.Common.{◌≡◌, ◌∙◌, ◌+◌, ◌<◌, ◌==◌, ℕ, Bool, true, false, cond, List, Option, Some, None}
use Rattle.std.proofs.Common.{refl, sym, ap, subst, length, drop, slice_index, length-drop, arith}
use Rattle.std.specs.Prelude.{unwrap_or}
use Rattle.std.specs.Int.{is_in_range}
use Rattle.std.specs.Str.Lossy.{error_len_after_one, utf8_error_len, utf8_valid_len}
use Rattle.std.proofs.lemmas.Bool.{false≢true}
use Rattle.std.proofs.lemmas.Bool.Decides.{nat_tests}
use Rattle.std.proofs.lemmas.List.{get_or-drop}
use Rattle.reply_xml.specs.Leaves.{IsAtFault, begun_len}
use Rattle.shared_lemmas.proofs.Clashes.{some_is_none}

-- where the bytes end in a character, its first byte stands
error_none : (empty lead : Bool) (after : Option ℕ) → cond empty None (cond lead after (Some 1)) ≡ None → empty ≡ false
    → lead ≡ true
error_none true lead after e some = absurd (false≢true (sym some))
error_none false true after e some = refl
error_none false false after e some = absurd (some_is_none 1 e)

lead_there : (bytes : List ℕ) → 0 < length bytes → utf8_error_len bytes ≡ None
    → is_in_range 0xC2 0xF4 (slice_index bytes 0) ≡ true
unfolding utf8_error_len
lead_there bytes some none =
    error_none (length bytes == 0) (is_in_range 0xC2 0xF4 (slice_index bytes 0)) (error_len_after_one bytes) none
    (not_empty bytes some)
  where
    not_empty : (bs : List ℕ) → 0 < length bs → (length bs == 0) ≡ false
    not_empty bs less = grind (arith, nat_tests)

begun_lead : (bytes : List ℕ) (len : Option ℕ) → len ≡ utf8_error_len bytes
    → is_in_range 0xC2 0xF4 (slice_index bytes 0) ≡ true → begun_len bytes ≡ unwrap_or len (length bytes)
begun_lead bytes len e lead =
    ap (λ b. cond b (unwrap_or (utf8_error_len bytes) (length bytes)) 0) lead
    ∙ ap (λ (o : Option ℕ). unwrap_or o (length bytes)) (sym e)

begun_none : (bytes : List ℕ) → is_in_range 0xC2 0xF4 (slice_index bytes 0) ≡ false → begun_len bytes ≡ 0
begun_none bytes lead = ap (λ b. cond b (unwrap_or (utf8_error_len bytes) (length bytes)) 0) lead

first_there : (bytes : List ℕ) (valid : ℕ) → slice_index (drop valid bytes) 0 ≡ slice_index bytes valid
first_there bytes valid =
    let same : valid + 0 ≡ valid = omega arith in
    get_or-drop valid bytes 0 0 ∙ ap (λ n. slice_index bytes n) same

at_valid : (bytes : List ℕ) (valid size : ℕ) → valid ≡ utf8_valid_len bytes
    → size ≡ valid + begun_len (drop valid bytes) → IsAtFault bytes size
at_valid bytes valid size e h = subst (λ n. size ≡ n + begun_len (drop n bytes)) e h

-- the bytes end within a character
pub fault_at_end : (bytes : List ℕ) (valid : ℕ) (len : Option ℕ) → valid < length bytes → valid ≡ utf8_valid_len bytes
    → len ≡ utf8_error_len (drop valid bytes) → len ≡ None → IsAtFault bytes (length bytes)
fault_at_end bytes valid len short e f none =
    let size = length-drop valid bytes in
    let lead = lead_there (drop valid bytes) (omega (arith, size)) (sym f ∙ none) in
    let begun : begun_len (drop valid bytes) ≡ length (drop valid bytes) = begun_lead (drop valid bytes) len f lead
    ∙ ap (λ (o : Option ℕ). unwrap_or o (length (drop valid bytes))) none in
    at_valid bytes valid (length bytes) e (omega (arith, size, begun))

-- some bytes of a character are at fault behind its first
pub fault_in_char : (bytes : List ℕ) (valid count : ℕ) (len : Option ℕ) → valid ≡ utf8_valid_len bytes
    → len ≡ utf8_error_len (drop valid bytes) → len ≡ Some count
    → is_in_range 0xC2 0xF4 (slice_index bytes valid) ≡ true → IsAtFault bytes (valid + count)
fault_in_char bytes valid count len e f some lead =
    let begun : begun_len (drop valid bytes) ≡ count = begun_lead (drop valid bytes) len f
    (ap (λ n. is_in_range 0xC2 0xF4 n) (first_there bytes valid) ∙ lead)
    ∙ ap (λ (o : Option ℕ). unwrap_or o (length (drop valid bytes))) some in
    at_valid bytes valid (valid + count) e (omega (arith, begun))

-- no character begins with the byte
pub fault_at_first : (bytes : List ℕ) (valid : ℕ) → valid ≡ utf8_valid_len bytes
    → is_in_range 0xC2 0xF4 (slice_index bytes valid) ≡ false → IsAtFault bytes valid
fault_at_first bytes valid e lead =
    let begun = begun_none (drop valid bytes)
    (ap (λ n. is_in_range 0xC2 0xF4 n) (first_there bytes valid) ∙ lead) in
    at_valid bytes valid valid e (omega (arith, begun))
