use Rattle.std.proofs.Common.{◌≡◌, ◌∙◌, true, ℕ, zero, suc, List, [], ◌∷◌, Some, Result, Ok, Err, Bor, ap, sym, arith}
use Rattle.std.specs.List.{list_all}
use Rattle.std.specs.Option.{option_copied}
use Rattle.std.specs.Result.{MatchResult, result_ok}
use Rattle.std.specs.Str.{IsAscii, IsUtf8}
use Rattle.std.proofs.lemmas.Bool.{and_parts, cond-true, leb-true}
use Rattle.std.proofs.lemmas.Str.{IsUtf8-from_ascii}
use Rattle.aws_profile.specs.Values.{is_visible, is_visible_byte}
use Rattle.aws_profile.proofs.keys.usable.Goals as goal

visible_ascii : (text : List ℕ) → list_all is_visible_byte text ≡ true → IsAscii text
visible_ascii [] h i = omega arith
visible_ascii (b ∷ text) h zero =
    let here = and_parts _ _ (and_parts (is_visible_byte b) (list_all is_visible_byte text) h).0 in
    omega (arith, leb-true b 126 here.1)
visible_ascii (b ∷ text) h (suc i) = visible_ascii text (and_parts (is_visible_byte b) (list_all is_visible_byte text) h).1 i

-- visible ASCII characters are text
told : {E : Type 0} (text : List ℕ) (r : Result (Bor (List ℕ)) E) (P : Bor (List ℕ) → Type 0) (Q : E → Type 0) → is_visible text ≡ true
    → MatchResult r (λ s. (s.now ≡ text) × P s) (λ e. (¬ (IsUtf8 text)) × Q e) → option_copied (result_ok r) ≡ Some text
told text (Ok s) P Q visible h = ap Some h.0
told text (Err e) P Q visible h = absurd (h.0 (IsUtf8-from_ascii text (visible_ascii text (and_parts _ _ visible).1)))

pub returns : goal.returns
returns c =
    let visible = sym c.if-not-is_visible.ensures in
    ap option_copied c.ok.ensures.value ∙ told c.args.text.now c.from_utf8.result _ _ visible c.from_utf8.ensures.cases ∙ sym (cond-true _ _ _ visible)
