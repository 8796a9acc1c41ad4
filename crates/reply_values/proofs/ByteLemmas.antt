-- The first place of a byte in a text.
use Rattle.std.proofs.Common.{◌<◌, ◌≤◌, ◌∙◌, ◌==◌, ℕ, not, List, length, get_or, take, sym, arith}
use Rattle.std.specs.List.{AllPass}
use Rattle.std.proofs.lemmas.Bool.{eq-eqb}
use Rattle.std.proofs.lemmas.List.{get_or-take, length-take-le}
use Rattle.std.proofs.lemmas.List.Sums.{AllPass-from_list_all}
use Rattle.memchr.specs.Find.{Nowhere, Passes, is_byte}
use Rattle.reply_values.proofs.ReferenceLemmas.{lacks_from}

pub none_before : (byte : ℕ) (text : List ℕ) (place : ℕ) → place ≤ length text
    → Nowhere (Passes (is_byte byte) text) 0 place → AllPass (λ b. not (b == byte)) (take place text)
none_before byte text place within none =
    let size = length-take-le place text within in
    AllPass-from_list_all (λ b. not (b == byte)) (take place text)
    (lacks_from byte (take place text)
    (λ i h e. let less : i < place = omega (arith, size) in none i (omega arith) less
    (eq-eqb (get_or text i 0) byte (sym (get_or-take place text i 0 less) ∙ e))))
