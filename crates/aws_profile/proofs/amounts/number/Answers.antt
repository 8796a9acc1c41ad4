use Rattle.std.proofs.Common.{◌≡◌, ◌∙◌, ℕ, ◌+◌, ◌*◌, ◌^◌, ◌<◌, ◌≤◌, List, length, get_or, take, Some, None, refl, sym, arith}
use Rattle.std.specs.Char.{is_ascii_digit, digit_value}
use Rattle.std.specs.Str.Parse.{digits_value}
use Rattle.std.proofs.lemmas.Bool.{and_from, cond_both, cond-false, le-ltb}
use Rattle.std.proofs.lemmas.Bool.Decides.{nat_tests}
use Rattle.std.proofs.lemmas.Int.Digits.{digits_value_more}
use Rattle.std.proofs.lemmas.List.Folds.{list_all_more}
use Rattle.std.proofs.lemmas.Str.Parse.{digits_value-take-le}
use Rattle.aws_profile.specs.Values.{fitting, number, is_digits}
use Rattle.aws_profile.proofs.amounts.number.Goals as goal

-- where the first digits do not fit, the whole does not
too_large : (ds : List ℕ) (i : ℕ) → i < length ds → 2 ^ 64 ≤ digits_value 10 (take i ds) * 10 + digit_value (get_or ds i 0) → None ≡ fitting (number ds)
too_large ds i inside large =
    let whole : 2 ^ 64 ≤ digits_value 10 ds = omega (arith, digits_value_more 10 ds i inside, digits_value-take-le 10 ds (i + 1) (omega arith)) in
    cond_both (is_digits ds) (Some (digits_value 10 ds)) None (λ n. None ≡ fitting n) (λ _. sym (cond-false _ _ _ (le-ltb _ _ whole))) (λ _. refl)

pub returns-in_err-checked_mul : goal.returns-in_err-checked_mul
returns-in_err-checked_mul c =
    c.from_residual.ensures ∙ too_large c.args.digits.now _ c.loop-b-test.true (omega (arith, c.in_err-checked_mul.ensures, c.loop-b.invariant.value))

pub returns-in_err-n : goal.returns-in_err-n
returns-in_err-n c =
    let digit : digit_value (get_or c.args.digits.now c.loop-b.b-index 0) ≡ c.from.result = grind (arith, nat_tests) in
    c.from_residual-in_err-n.ensures
    ∙ too_large c.args.digits.now _ c.loop-b-test.true (omega (arith, c.in_err-n.ensures, c.in_ok-checked_mul.ensures.1, c.loop-b.invariant.value))

pub loop-b-preserved : goal.loop-b-preserved
loop-b-preserved c =
    let ds = c.args.digits.now in
    let digit : digit_value (get_or ds c.loop-b.b-index 0) ≡ c.from.result = grind (arith, nat_tests) in
    record {
      value = omega (arith, digits_value_more 10 ds _ c.loop-b-test.true, c.in_ok-n.ensures.1, c.in_ok-checked_mul.ensures.1, c.loop-b.invariant.value);
      digits = list_all_more is_ascii_digit ds _ 0 c.loop-b-test.true ∙ and_from _ _ c.loop-b.invariant.digits (sym c.if-not-is_ascii_digit.ensures.value);
      fits = omega (arith, c.in_ok-n.ensures.0, c.in_ok-n.ensures.1);
    }
