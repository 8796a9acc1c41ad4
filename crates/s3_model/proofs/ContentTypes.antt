-- The tail of a path, and the extensions that have a type.
use Rattle.std.proofs.Common.{◌≡◌, ◌<◌, ◌≤◌, ◌==◌, ◌-◌, ℕ, zero, suc, List, [], ◌∷◌, None, ap, refl, not, false, true, length, get_or, arith, drop, nat_lt, Bool}
use Rattle.std.specs.List.{after_last, suffix_len, list_all}
use Rattle.std.specs.Map.{lookup}
use Rattle.std.specs.Str.{IsAscii, IsUtf8, bytes_eq}
use Rattle.std.proofs.lemmas.Bool.{and_parts, ltb-true, false_from_ne_true, le-ltb}
use Rattle.std.proofs.lemmas.List.Sums.{suffix_len_is}
use Rattle.std.proofs.lemmas.Str.{IsUtf8-from_ascii}
use Rattle.s3_model.specs.ContentTypes.{content_types}
use Rattle.s3_model.proofs.Rows.{lookup_fails}

-- the bytes after the last that is `stop`, by where they start
pub after_last_is : (bytes : List ℕ) (stop start : ℕ) → start ≤ length bytes → ((k : ℕ) → start ≤ k → k < length bytes → (get_or bytes k 0 == stop) ≡ false)
    → (0 < start → (get_or bytes (start - 1) 0 == stop) ≡ true) → drop start bytes ≡ after_last (λ byte. byte == stop) bytes
after_last_is bytes stop start inside others here =
    let tail = suffix_len_is (λ byte. not (byte == stop)) bytes start 0 inside (λ k from to. ap not (others k from to)) (λ some. ap not (here some)) in
    let start_is : start ≡ length bytes - suffix_len (λ byte. not (byte == stop)) bytes = omega arith in
    ap (λ n. drop n bytes) start_is

-- a test that each byte is ASCII
abbrev all_ascii : List ℕ → Bool
all_ascii bytes = list_all (λ byte. nat_lt byte 128) bytes

ascii_from_test : (bytes : List ℕ) → all_ascii bytes ≡ true → IsAscii bytes
ascii_from_test [] h i = omega arith
ascii_from_test (b ∷ bytes) h zero = ltb-true b 128 (and_parts (nat_lt b 128) (all_ascii bytes) h).0
ascii_from_test (b ∷ bytes) h (suc i) = ascii_from_test bytes (and_parts (nat_lt b 128) (all_ascii bytes) h).1 i

-- no extension of more than four bytes has a type
pub no_long_extension : (name : List ℕ) → 4 < length name → lookup (bytes_eq name) content_types ≡ None
unfolding content_types
no_long_extension name long = lookup_fails (λ each. nat_lt (length each) 5) content_types name refl (le-ltb (length name) 5 (omega arith))

-- nor has one that is no text
pub no_other_extension : (name : List ℕ) → ¬ (IsUtf8 name) → lookup (bytes_eq name) content_types ≡ None
unfolding content_types
no_other_extension name other =
    lookup_fails all_ascii content_types name refl (false_from_ne_true (all_ascii name) (λ h. other (IsUtf8-from_ascii name (ascii_from_test name h))))
