-- Bytes that stand for themselves in URL text.
use Rattle.std.proofs.Common.{◌≢◌, ◌<◌, ◌≤◌, ◌∷◌, ◌∙◌, ◌==◌, ℕ, suc, List, []}
use Rattle.std.proofs.Common.{length, get_or, take, inr, sym, refl, arith}
use Rattle.std.proofs.lemmas.Bool.{eq-eqb, or_left, or_right}
use Rattle.std.proofs.lemmas.List.{get_or-take, length-take-le}
use Rattle.memchr.specs.Find.{Nowhere, Passes, is_byte2}
use Rattle.reply_values.specs.Spelling.{Spells}
use Rattle.reply_values.specs.UrlText.{StandsForByte}
use Rattle.reply_values.proofs.SpellingLemmas.{spells_more, spells_nothing, spells_piece}

plain_bytes : (text : List ℕ) → ((i : ℕ) → i < length text → get_or text i 0 ≢ 37)
    → ((i : ℕ) → i < length text → get_or text i 0 ≢ 43) → Spells StandsForByte text text
plain_bytes [] p q = spells_nothing StandsForByte
plain_bytes (b ∷ text) p q =
    let piece : StandsForByte (b ∷ []) (b ∷ []) =
    inr (inr (record {
      own = b;
      written = refl;
      meant = refl;
      no_percent = p 0 (omega arith);
      no_plus = q 0 (omega arith);
    })) in
    spells_more StandsForByte (b ∷ []) text (b ∷ []) text (spells_piece StandsForByte (b ∷ []) (b ∷ []) piece)
    (plain_bytes text (λ i h. p (suc i) (omega (arith, h))) (λ i h. q (suc i) (omega (arith, h))))

-- where neither `%` nor `+` was found
pub plain_front : (text : List ℕ) (place : ℕ) → place ≤ length text → Nowhere (Passes (is_byte2 37 43) text) 0 place
    → Spells StandsForByte (take place text) (take place text)
plain_front text place within none =
    let size = length-take-le place text within in
    plain_bytes (take place text)
    (λ i h e. let less : i < place = omega (arith, size) in none i (omega arith) less
    (or_left (get_or text i 0 == 37) (get_or text i 0 == 43)
    (eq-eqb (get_or text i 0) 37 (sym (get_or-take place text i 0 less) ∙ e))))
    (λ i h e. let less : i < place = omega (arith, size) in none i (omega arith) less
    (or_right (get_or text i 0 == 37) (get_or text i 0 == 43)
    (eq-eqb (get_or text i 0) 43 (sym (get_or-take place text i 0 less) ∙ e))))
