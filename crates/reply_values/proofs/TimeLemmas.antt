-- Digits, dates and fractions of times.
use Rattle.std.proofs.Common.{◌≡◌, ◌≢◌, ◌+◌, ◌-◌, ◌*◌, ◌/◌, ◌^◌, ◌<◌, ◌≤◌, ◌++◌, ◌∷◌, ◌∙◌, ℕ, ℤ, pos, negsuc, ◌≤ℤ◌}
use Rattle.std.proofs.Common.{List, [], length, get_or, take, Option, Some, None, Result, Ok, Err, IfSome, IfOk, inl}
use Rattle.std.proofs.Common.{inr, Bool, true, false, not, ◌&&◌, eqb, drop, sym, ap, refl, add-one, arith, lit<}
use Rattle.std.proofs.Common.{FitsSigned, to_z, of_z, w8, w16, w32, subst}
use Rattle.std.specs.Char.{digit_value}
use Rattle.std.specs.Int.{FitsUnsignedBits}
use Rattle.std.specs.Prelude.{unsigned_abs, codes, IfNone}
use Rattle.std.specs.Result.{OkIff, result_ok}
use Rattle.std.specs.Str.Parse.{AllDigits, digits_value}
use Rattle.std.proofs.Math.Nat.{pow-le-pow_right, pow-suc, one-le-pow, mul_assoc, mul_comm, mul-div-mul_right}
use Rattle.std.proofs.Math.Nat.{div-lt_iff_lt-mul}
use Rattle.std.proofs.lemmas.Nat.{pow-add}
use Rattle.std.proofs.lemmas.List.{length-drop, length-take, length-append, append_cancel_left, append_cancel_right}
use Rattle.std.proofs.lemmas.Bool.{false≢true}
use Rattle.std.proofs.lemmas.Bool.Decides.{nat_tests}
use Rattle.std.proofs.lemmas.Int.{to_z_pos, to_z-of_z}
use Rattle.std.proofs.lemmas.Int.Digits.{digits_value_more, digits_more}
use Rattle.jiff_core.specs.declared.civil.date.Date.{Date}
use Rattle.jiff_core.specs.Calendar.{IsCivilDate, IsDate}
use Rattle.jiff_core.specs.Date.{IsYmd}
use Rattle.jiff_core.proofs.SignedLemmas.{signed_arith}
use Rattle.reply_values.specs.Times.{WritesMicros, EndsTime, SpellsTime}

-- the first digits, their number and its bound
pub record ReadsTo (text : List ℕ) (i number : ℕ) : Type 0 where
  pub value : number ≡ digits_value 10 (take i text)
  pub digits : AllDigits 10 (take i text)
  pub small : number < 10 ^ i

pub reads_more : (text : List ℕ) (i number digit : ℕ) → i < length text → ReadsTo text i number
    → digit_value (get_or text i 0) ≡ digit → digit < 10 → ReadsTo text (i + 1) (number * 10 + digit)
reads_more text i number digit inside h value small = record {
  value = omega (arith, digits_value_more 10 text i inside, h.value);
  digits = digits_more 10 text i inside h.digits (omega arith);
  small = rw (add-one, pow-suc) (omega (arith, h.small));
}

pub nine_digits : (i number : ℕ) → i < 9 → number < 10 ^ i → number < 100_000_000
nine_digits i number few small =
    let within : i ≤ 8 = omega arith in
    let bound : 10 ^ i ≤ 10 ^ 8 = pow-le-pow_right (lit< tt) within in
    omega arith

-- so many bytes of a text
pub part_length : (text : List ℕ) (start end : ℕ) → end ≤ length text → length (take (end - start) (drop start text))
    ≡ end - start
part_length text start end within = omega (arith, length-take (end - start) (drop start text), length-drop start text)

-- the numbers of a date, as the calendar library takes them
pub record IsSmallDate (y m d : ℕ) : Type 0 where
  pub year : y < 10 ^ 4
  pub month : m < 10 ^ 2
  pub day : d < 10 ^ 2

signed_date : (y m d : ℕ) → IsCivilDate (pos y) m d → IsDate (pos y) (pos m) (pos d)
signed_date y m d h = (
  h.0,
  (omega (arith, signed_arith, h.1), omega (arith, signed_arith, h.1)),
  (omega (arith, signed_arith, h.2), omega (arith, signed_arith, h.2)),
)

pub read_ok : {T E : Type 0} (r : Result T E) (x : T) (P : T → Type 0) → Some x ≡ result_ok r → IfOk r P → P x
read_ok (Ok y) x P e h = let same : y ≡ x = cc in subst P same h
read_ok (Err y) x P e h = absurd (differ e)
  where
    differ : Some x ≡ None → ⊥
    differ k = cc

pub date_is : (y m d : ℕ) → IsSmallDate y m d → IsCivilDate (pos y) m d → IsDate (to_z w16 y) (to_z w8 m) (to_z w8 d)
date_is y m d small h =
    let ly : y < 2 ^ 15 = omega (arith, small.year) in
    let lm : m < 2 ^ 7 = omega (arith, small.month) in
    let ld : d < 2 ^ 7 = omega (arith, small.day) in
    rw (to_z_pos w16 y ly, to_z_pos w8 m lm, to_z_pos w8 d ld) (signed_date y m d h)

pub date_parts : (y m d : ℕ) (date : Date) → IsSmallDate y m d → IsYmd (to_z w16 y) (to_z w8 m) (to_z w8 d) date
    → (date.year ≡ pos y) × (date.month ≡ m) × (date.day ≡ d)
date_parts y m d date small h =
    let ly : y < 2 ^ 15 = omega (arith, small.year) in
    let lm : m < 2 ^ 7 = omega (arith, small.month) in
    let ld : d < 2 ^ 7 = omega (arith, small.day) in
    (h.0 ∙ to_z_pos w16 y ly, ap unsigned_abs (h.1 ∙ to_z_pos w8 m lm), ap unsigned_abs (h.2 ∙ to_z_pos w8 d ld))

-- a day number that is not negative, and none where it is
not_negative : (z : ℤ) (n : ℕ) → FitsUnsignedBits 64 z → n ≡ unsigned_abs z → z ≡ pos n
not_negative (pos m) n h e = ap pos (sym e)
not_negative (negsuc m) n h e = absurd h

pub counted : {E : Type 0} (r : Result ℕ E) (z : ℤ) (P : ℕ → Type 0) → FitsSigned w32 z
    → OkIff r (FitsUnsignedBits 64 (to_z w32 (of_z w32 z))) (unsigned_abs (to_z w32 (of_z w32 z)))
    → ((n : ℕ) → z ≡ pos n → P n) → IfSome (result_ok r) P
counted (Err e) z P fits h value = tt
counted (Ok n) z P fits h value = let k = rw (to_z-of_z w32 z fits) at h in value n (not_negative z n k.0 k.1)

not_counted : {E : Type 0} (r : Result ℕ E) (z : ℤ) → z ≤ℤ pos 2_932_896 → FitsSigned w32 z
    → OkIff r (FitsUnsignedBits 64 (to_z w32 (of_z w32 z))) (unsigned_abs (to_z w32 (of_z w32 z)))
    → IfNone (result_ok r) ((n : ℕ) → z ≢ pos n)
not_counted (Err e) z most fits h = λ n is. let k = rw (to_z-of_z w32 z fits, is) at h in let small : n < 2 ^ 64 =
    omega (arith, signed_arith, rw is at most) in k small
not_counted (Ok n) z most fits h = tt

pub counted_small : {E : Type 0} (r : Result ℕ E) (z : ℤ) → z ≤ℤ pos 2_932_896 → FitsSigned w32 z
    → OkIff r (FitsUnsignedBits 64 (to_z w32 (of_z w32 z))) (unsigned_abs (to_z w32 (of_z w32 z)))
    → IfSome (result_ok r) (λ n. n ≤ 2_932_896)
counted_small r z most fits h =
    counted r z (λ n. n ≤ 2_932_896) fits h (λ n is. omega (arith, signed_arith, rw is at most))

pub none_counted : {E : Type 0} (r : Result ℕ E) (z : ℤ) (P : ℕ → Type 0) → z ≤ℤ pos 2_932_896 → FitsSigned w32 z
    → OkIff r (FitsUnsignedBits 64 (to_z w32 (of_z w32 z))) (unsigned_abs (to_z w32 (of_z w32 z)))
    → ((n : ℕ) → P n → z ≡ pos n) → IfNone (result_ok r) ((n : ℕ) → ¬ (P n))
none_counted (Ok n) z P most fits h is = tt
none_counted (Err e) z P most fits h is = λ n p. not_counted {E = _} (Err e) z most fits h n (is n p)

-- the separators
pub separators_are : (a b c d e : ℕ) (differ : Bool) → differ ≡ not
    (eqb a 45 && (eqb b 45 && (eqb c 84 && (eqb d 58 && (eqb e 58 && true))))) → differ ≡ false
    → a ∷ b ∷ c ∷ d ∷ e ∷ [] ≡ codes "--T::"
separators_are a b c d e differ is same =
    let a_is : a ≡ 45 = grind (arith, nat_tests) in
    let b_is : b ≡ 45 = grind (arith, nat_tests) in
    let c_is : c ≡ 84 = grind (arith, nat_tests) in
    let d_is : d ≡ 58 = grind (arith, nat_tests) in
    let e_is : e ≡ 58 = grind (arith, nat_tests) in
    rw (a_is, b_is, c_is, d_is, e_is)

abbrev has_separators : List ℕ → Bool
has_separators bytes =
    eqb (get_or bytes 0 0) 45 && (eqb (get_or bytes 1 0) 45 && (eqb (get_or bytes 2 0) 84
    && (eqb (get_or bytes 3 0) 58 && (eqb (get_or bytes 4 0) 58 && true))))

pub other_separators : (a b c d e : ℕ) (differ : Bool) → differ ≡ not
    (eqb a 45 && (eqb b 45 && (eqb c 84 && (eqb d 58 && (eqb e 58 && true))))) → differ ≡ true
    → a ∷ b ∷ c ∷ d ∷ e ∷ [] ≡ codes "--T::" → ⊥
other_separators a b c d e differ is other same =
    false≢true (sym (ap (λ (bytes : List ℕ). not (has_separators bytes)) same) ∙ sym is ∙ other)

-- a fraction of a second as whole microseconds
ten_pow : (k : ℕ) → 0 < 10 ^ k
ten_pow k = let least = one-le-pow k 10 (lit< tt) in omega arith

nine_places : (places : ℕ) → places ≤ 9 → 10 ^ (9 - places) * 10 ^ places ≡ 10 ^ 9
nine_places places few =
    let whole : 9 - places + places ≡ 9 = omega arith in
    sym (pow-add 10 (9 - places) places) ∙ ap (λ k. 10 ^ k) whole

pub micros_by : (places number : ℕ) → places ≤ 9 → number * 10 ^ (9 - places) / 1000 ≡ number * 10 ^ 6 / 10 ^ places
micros_by places number few =
    let scaled : number * 10 ^ (9 - places) * 10 ^ places ≡ number * 10 ^ 6 * 1000 =
    mul_assoc number (10 ^ (9 - places)) (10 ^ places) ∙ ap (λ n. number * n) (nine_places places few) ∙ omega arith in
    sym (mul-div-mul_right (number * 10 ^ (9 - places)) 1000 (ten_pow places))
    ∙ ap (λ n. n / (1000 * 10 ^ places)) scaled
    ∙ ap (λ n. number * 10 ^ 6 * 1000 / n) (mul_comm 1000 (10 ^ places))
    ∙ mul-div-mul_right (number * 10 ^ 6) (10 ^ places) (lit< tt)

pub micros_small : (places number : ℕ) → number < 10 ^ places → number * 10 ^ 6 / 10 ^ places < 10 ^ 6
micros_small places number small =
    let below : number * 10 ^ 6 < 10 ^ 6 * 10 ^ places = omega arith in
    (div-lt_iff_lt-mul (ten_pow places)).1 below

-- what follows the seconds
pub no_zone : (end zone : List ℕ) → zone ≡ codes "Z" → ((front : List ℕ) → end ≢ front ++ zone) → (micros : ℕ)
    → EndsTime end micros → ⊥
no_zone end zone e none micros (inl h) = none [] (h.0 ∙ sym e)
no_zone end zone e none micros (inr h) = none (codes "." ++ h.0) (rw e h.1)

-- a point and a fraction stand before the zone
abbrev pub HasFraction : List ℕ → List ℕ → Type 0
HasFraction end fraction = end ≡ codes "." ++ fraction ++ codes "Z"

pub has_fraction : (end before zone point fraction : List ℕ) → zone ≡ codes "Z" → point ≡ codes "."
    → end ≡ before ++ zone → before ≡ point ++ fraction → HasFraction end fraction
has_fraction end before zone point fraction e f h k = h ∙ rw (k, e, f) refl

pub end_value : (result : Option ℕ) (end fraction : List ℕ) → HasFraction end fraction
    → IfSome result (WritesMicros fraction) → IfSome result (EndsTime end)
end_value None end fraction e h = tt
end_value (Some micros) end fraction e h = inr (fraction, e, h)

pub end_refused : (result : Option ℕ) (end fraction : List ℕ) → HasFraction end fraction
    → IfNone result ((micros : ℕ) → ¬ (WritesMicros fraction micros))
    → IfNone result ((micros : ℕ) → ¬ (EndsTime end micros))
end_refused (Some micros) end fraction e h = tt
end_refused None end fraction e h = λ micros ends. refute micros ends
  where
    refute : (micros : ℕ) → EndsTime end micros → ⊥
    refute micros (inl alone) = let long = ap length (sym e ∙ alone.0) in
        absurd (omega (arith, length-append fraction (codes "Z"), long))
    refute micros (inr parts) =
        let same = append_cancel_left (codes ".") _ _ (append_cancel_right _ _ (codes "Z") (sym e ∙ parts.1)) in
        h micros (rw (sym same) at parts.2)

-- a time has at least twenty bytes
ends_long : (end : List ℕ) (micros : ℕ) → EndsTime end micros → 1 ≤ length end
ends_long end micros (inl h) = omega (arith, ap length h.0)
ends_long end micros (inr h) = omega (arith, ap length h.1)

pub too_short : (text : List ℕ) (moment : ℕ) → length text < 20 → SpellsTime text moment → ⊥
too_short text moment short h = omega (arith, ends_long (drop 19 text) h.micros h.end, length-drop 19 text)
