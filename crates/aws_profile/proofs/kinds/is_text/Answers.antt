use Rattle.std.proofs.Common.{◌≡◌, ℕ, List, Bor, Result, Ok, Err, sym, ◌∙◌}
use Rattle.std.specs.Result.{MatchResult, is_ok}
use Rattle.std.specs.Str.{IsUtf8, is_utf8}
use Rattle.std.proofs.lemmas.Bool.{false_from_ne_true}
use Rattle.std.proofs.lemmas.Str.{is_utf8-from_IsUtf8, IsUtf8-from_is_utf8}
use Rattle.aws_profile.proofs.kinds.is_text.Goals as goal

told : {E : Type 0} (line : List ℕ) (r : Result (Bor (List ℕ)) E) (P : Bor (List ℕ) → Type 0) (Q : E → Type 0) → MatchResult r (λ s. P s × IsUtf8 line) (λ e. (¬ (IsUtf8 line)) × Q e) → is_ok r ≡ is_utf8 line
told line (Ok s) P Q h = sym (is_utf8-from_IsUtf8 line h.1)
told line (Err e) P Q h = sym (false_from_ne_true (is_utf8 line) (λ t. h.0 (IsUtf8-from_is_utf8 line t)))

pub returns : goal.returns
returns c = c.is_ok.ensures.value ∙ told c.args.line.now c.from_utf8.result _ _ c.from_utf8.ensures.cases
