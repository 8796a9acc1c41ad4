use Rattle.std.proofs.Common.{◌≡◌, ◌≢◌, ◌<◌, ◌^◌, ℕ, true, ◌&&◌, ltb, List, length, get_or, Result, Ok, Err, Some, None, refl, arith, lit<}
use Rattle.std.specs.Result.{OkIff}
use Rattle.std.specs.Str.{all_ascii_digits}
use Rattle.std.specs.Str.Parse.{digits_value}
use Rattle.std.proofs.lemmas.Bool.{cond_both, and_parts, ltb-true, both_ways}
use Rattle.std.proofs.lemmas.Bool.Decides.{nat_tests}
use Rattle.std.proofs.lemmas.Str.Parse.{parse_plain}
use Rattle.std.proofs.lemmas.Str.Pattern.{starts_char}
use Rattle.s3_words.specs.Values.{seconds}
use Rattle.s3_words.proofs.values.seconds.Goals as goal
use Rattle.s3_paths.proofs.Numerals.{by_digits, some_digit}

abbrev Fitting : List ℕ → Type 0
Fitting bs = (all_ascii_digits bs ≡ true) × (0 < length bs) × (digits_value 10 bs < 2 ^ 64)

fitting : (bs : List ℕ) → (all_ascii_digits bs && ltb 0 (digits_value 10 bs) && ltb (digits_value 10 bs) 604801) ≡ true → Fitting bs
fitting bs t =
    let outer = and_parts _ _ t in
    let inner = and_parts _ _ outer.0 in
    (inner.0, some_digit bs (ltb-true _ _ inner.1), omega (arith, ltb-true _ _ outer.1))

unread : (bs : List ℕ) → ¬ (Fitting bs) → None ≡ seconds bs
unread bs h = cond_both (all_ascii_digits bs && ltb 0 (digits_value 10 bs) && ltb (digits_value 10 bs) 604801) (Some (digits_value 10 bs)) None (λ o. None ≡ o) (λ t. absurd (h (fitting bs t))) (λ _. refl)

refused : {E : Type 0} (bs : List ℕ) (r : Result ℕ E) (e : E) → r ≡ Err e → OkIff r (Fitting bs) (digits_value 10 bs) → ¬ (Fitting bs)
refused bs (Ok x) e is h = absurd cc
refused bs (Err d) e is h = h

value : {E : Type 0} (bs : List ℕ) (r : Result ℕ E) (x : ℕ) → r ≡ Ok x → OkIff r (Fitting bs) (digits_value 10 bs) → (all_ascii_digits bs ≡ true) × (x ≡ digits_value 10 bs)
value bs (Ok y) x is h = let value = h.1 in (h.0.0, cc)
value bs (Err d) x is h = absurd cc

pub returns-in_default : goal.returns-in_default
returns-in_default c =
    let bs = c.args.text.now in
    let plus = starts_char 43 bs _ c.starts_with.ensures.cases (lit< tt) (lit< tt) in
    let unsigned : get_or bs 0 0 ≢ 43 = λ e. both_ways _ c.if-starts_with.false (plus.1 e) in
    unread bs (refused bs c.parse.result _ c.in_default.is (parse_plain by_digits 64 bs c.parse.result c.parse.ensures.value.0 unsigned))

pub returns : goal.returns
returns c =
    let bs = c.args.text.now in
    let plus = starts_char 43 bs _ c.starts_with.ensures.cases (lit< tt) (lit< tt) in
    let unsigned : get_or bs 0 0 ≢ 43 = λ e. both_ways _ c.if-starts_with.false (plus.1 e) in
    let read = value bs c.parse.result _ c.in-Ok.is (parse_plain by_digits 64 bs c.parse.result c.parse.ensures.value.0 unsigned) in
    grind (arith, nat_tests, read.0, read.1)
