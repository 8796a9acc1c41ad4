use Rattle.std.proofs.Common.{◌≡◌, ◌≢◌, ◌<◌, ◌^◌, ℕ, Bool, true, ◌&&◌, ltb, List, length, get_or, Result, Ok, Err, Some, None, refl, sym, ap, ◌∙◌, inl, inr, arith, lit<}
use Rattle.std.specs.Bool.{then_some}
use Rattle.std.specs.Result.{OkIff}
use Rattle.std.specs.Str.{all_ascii_digits}
use Rattle.std.specs.Str.Parse.{digits_value}
use Rattle.std.proofs.lemmas.Bool.{cases_lt, cond_both, cond-true, cond-false, and_parts, and_from, ltb-true, lt-ltb, le-ltb, false_from_ne_true, both_ways}
use Rattle.std.proofs.lemmas.Str.Parse.{parse_plain}
use Rattle.std.proofs.lemmas.Str.Pattern.{starts_char}
use Rattle.s3_paths.specs.Endpoints.{port_number}
use Rattle.s3_paths.proofs.endpoints.port_number.Goals as goal
use Rattle.s3_paths.proofs.Numerals.{by_digits, some_digit}

abbrev IsShortNumber : List ℕ → Type 0
IsShortNumber bs = (all_ascii_digits bs ≡ true) × (0 < length bs) × (digits_value 10 bs < 2 ^ 16)

abbrev is_port : List ℕ → Bool
is_port bs = all_ascii_digits bs && ltb 0 (digits_value 10 bs) && ltb (digits_value 10 bs) 65536

port_parts : (bs : List ℕ) → is_port bs ≡ true → (0 < digits_value 10 bs) × IsShortNumber bs
port_parts bs t =
    let outer = and_parts _ _ t in
    let inner = and_parts _ _ outer.0 in
    let some : 0 < digits_value 10 bs = ltb-true _ _ inner.1 in
    (some, (inner.0, some_digit bs some, omega (arith, ltb-true _ _ outer.1)))

port_number-unread : (bs : List ℕ) → ¬ (IsShortNumber bs) → None ≡ port_number bs
port_number-unread bs h = cond_both (is_port bs) (Some (digits_value 10 bs)) None (λ o. None ≡ o) (λ t. absurd (h (port_parts bs t).1)) (λ _. refl)

port_number-read : (bs : List ℕ) (port : ℕ) → IsShortNumber bs → port ≡ digits_value 10 bs → then_some (ltb 0 port) port ≡ port_number bs
port_number-read bs port short e =
    elim (cases_lt 0 port) [
      | inl some ↦
          let is : is_port bs ≡ true = and_from _ _ (and_from _ _ short.0 (lt-ltb _ _ (omega arith))) (lt-ltb _ _ (omega (arith, short.2))) in
          ap (λ b. then_some b port) (lt-ltb _ _ some) ∙ ap Some e ∙ sym (cond-true (is_port bs) (Some (digits_value 10 bs)) None is)
      | inr none ↦
          let apart = false_from_ne_true (is_port bs) (λ t. let some = (port_parts bs t).0 in omega arith) in
          ap (λ b. then_some b port) (le-ltb _ _ none) ∙ sym (cond-false (is_port bs) (Some (digits_value 10 bs)) None apart)
    ]

refused : {E : Type 0} (bs : List ℕ) (r : Result ℕ E) (e : E) → r ≡ Err e → OkIff r (IsShortNumber bs) (digits_value 10 bs) → ¬ (IsShortNumber bs)
refused bs (Ok x) e is h = absurd cc
refused bs (Err d) e is h = h

taken : {E : Type 0} (bs : List ℕ) (r : Result ℕ E) (x : ℕ) → r ≡ Ok x → OkIff r (IsShortNumber bs) (digits_value 10 bs) → IsShortNumber bs × (x ≡ digits_value 10 bs)
taken bs (Ok y) x is h = let value = h.1 in (h.0, cc)
taken bs (Err d) x is h = absurd cc

pub returns-in_default : goal.returns-in_default
returns-in_default c =
    let bs = c.args.digits.now in
    let plus = starts_char 43 bs _ c.starts_with.ensures.cases (lit< tt) (lit< tt) in
    let unsigned : get_or bs 0 0 ≢ 43 = λ e. both_ways _ c.if-starts_with.false (plus.1 e) in
    port_number-unread bs (refused bs c.parse.result _ c.in_default.is (parse_plain by_digits 16 bs c.parse.result c.parse.ensures.value.0 unsigned))

pub returns : goal.returns
returns c =
    let bs = c.args.digits.now in
    let plus = starts_char 43 bs _ c.starts_with.ensures.cases (lit< tt) (lit< tt) in
    let unsigned : get_or bs 0 0 ≢ 43 = λ e. both_ways _ c.if-starts_with.false (plus.1 e) in
    let read = taken bs c.parse.result _ c.in-Ok.is (parse_plain by_digits 16 bs c.parse.result c.parse.ensures.value.0 unsigned) in
    c.then_some.ensures ∙ port_number-read bs c.in-Ok.port read.0 read.1
