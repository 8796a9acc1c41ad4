-- What is behind the last of a character.
use Rattle.std.proofs.Common.{◌≡◌, ◌==◌, ◌<◌, ◌≤◌, ◌-◌, ◌+◌, ◌∙◌, ℕ, not, List, None, ap, arith, length, drop, get_or}
use Rattle.shared_lemmas.proofs.Tests.{is_other, not_other}
use Rattle.std.specs.Char.{len_utf8}
use Rattle.std.specs.Str.Pattern.{RFindsChar, SplitsAroundMatch}
use Rattle.std.specs.List.{after_last, suffix_len}
use Rattle.std.proofs.lemmas.List.{length-drop, get_or-drop}
use Rattle.std.proofs.lemmas.List.Sums.{suffix_len_is}
use Rattle.std.proofs.lemmas.Str.{len_utf8_ascii}
use Rattle.std.proofs.lemmas.Str.Pattern.{NoCharPasses-char}

module _ (c : ℕ) (low : c < 128) (bs : List ℕ) where
  pub none_in : RFindsChar c bs None → bs ≡ after_last (λ b. b == c) bs
  none_in none =
      let all = suffix_len_is (λ b. not (b == c)) bs 0 0 (omega arith) (λ k from inside. is_other (get_or bs k 0) c (NoCharPasses-char c bs k none low inside)) (λ some. absurd (omega arith)) in
      let start : 0 ≡ length bs - suffix_len (λ b. not (b == c)) bs = omega (arith, all) in
      ap (λ (n : ℕ). drop n bs) start

  pub last_in : (front back : List ℕ) → SplitsAroundMatch (RFindsChar c) bs front back → back ≡ after_last (λ b. b == c) bs
  last_in front back (i, j, found, is_front, is_back, le, at, rest) =
      let after = suffix_len_is (λ b. not (b == c)) bs j 0 (omega arith)
      (λ k from inside. is_other (get_or bs k 0) c (λ same.
      NoCharPasses-char c (drop j bs) (k - j) found.0 low (omega (arith, length-drop j bs))
      (get_or-drop j bs (k - j) 0 ∙ (ap (λ (n : ℕ). get_or bs n 0) (back_at j k from) ∙ same))))
      (λ some. not_other (get_or bs (j - 1) 0) c (ap (λ (n : ℕ). get_or bs n 0) (before i j found.1.ends) ∙ found.1.byte low)) in
      let start : j ≡ length bs - suffix_len (λ b. not (b == c)) bs = omega (arith, after) in
      is_back ∙ ap (λ (n : ℕ). drop n bs) start
    where
      back_at : (from at : ℕ) → from ≤ at → from + (at - from) ≡ at
      back_at from at le = omega arith

      before : (start end : ℕ) → end ≡ start + len_utf8 c → end - 1 ≡ start
      before start end is = omega (arith, len_utf8_ascii c low)
