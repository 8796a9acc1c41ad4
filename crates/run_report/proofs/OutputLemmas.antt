-- What an output gained in several calls.
use Rattle.std.proofs.Common.{◌≡◌, ◌≤◌, ◌+◌, ◌-◌, ◌∙◌, ◌++◌, ℕ, List, Option, Some, None, take, drop, sym, ap, subst, arith, append_assoc}
use Rattle.std.specs.Option.{option_map}
use Rattle.std.proofs.lemmas.List.{take-append-drop}
use Rattle.std.proofs.Math.Seq.{take-add}
use Rattle.run_report.specs.Printed.{Prints, PrintsFront}

-- one text and then another
pub prints_both : (first second third : Option (List ℕ)) (a b : List ℕ) → Prints first second a → Prints second third b → Prints first third (a ++ b)
prints_both None second third a b e f = f ∙ ap (option_map (λ (got : List ℕ). got ++ b)) e
prints_both (Some got) second third a b e f = f ∙ (ap (option_map (λ (g : List ℕ). g ++ b)) e ∙ ap Some (append_assoc got a b))

-- what stands before a place, and then what stands from there up to the next
pub prints_more : (first second third : Option (List ℕ)) (bytes : List ℕ) (at next : ℕ) → at ≤ next
    → Prints first second (take at bytes) → Prints second third (take (next - at) (drop at bytes)) → Prints first third (take next bytes)
prints_more first second third bytes at next before a b =
    let whole : at + (next - at) ≡ next = omega arith in
    let joined : take next bytes ≡ take at bytes ++ take (next - at) (drop at bytes) = ap (λ (n : ℕ). take n bytes) (sym whole) ∙ take-add at (next - at) bytes in
    subst (Prints first third) (sym joined) (prints_both first second third _ _ a b)

-- what stands before a place is a beginning
pub prints_front : (first second third : Option (List ℕ)) (text : List ℕ) (at : ℕ) → Prints first second (take at text) → third ≡ second → PrintsFront first third text
prints_front first second third text at printed same = (take at text, drop at text, take-append-drop at text, same ∙ printed)
