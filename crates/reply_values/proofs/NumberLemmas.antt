-- A text spells at most one number, and at most one truth value.
use Rattle.std.proofs.Common.{◌≡◌, ◌∙◌, ℕ, Bool, true, false, List, sym, refl}
use Rattle.std.specs.Prelude.{codes}
use Rattle.reply_values.specs.Numbers.{Writes, SpellsNumber, SpellsTruth}

-- digits write one number
pub Writes-same : {radix : ℕ} {text : List ℕ} {m n : ℕ} → Writes radix text m → Writes radix text n → m ≡ n
Writes-same h k = sym h.value ∙ k.value

pub SpellsNumber-same : (text : List ℕ) (a b : ℕ) → SpellsNumber text a → SpellsNumber text b → a ≡ b
SpellsNumber-same text a b h k = Writes-same h.written k.written

no_both : codes "true" ≡ codes "false" → ⊥
no_both e = cc

pub SpellsTruth-same : (text : List ℕ) (a b : Bool) → SpellsTruth text a → SpellsTruth text b → a ≡ b
SpellsTruth-same text true true h k = refl
SpellsTruth-same text true false h k = absurd (no_both (sym h ∙ k))
SpellsTruth-same text false true h k = absurd (no_both (sym k ∙ h))
SpellsTruth-same text false false h k = refl
