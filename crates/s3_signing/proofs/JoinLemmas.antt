-- One piece after another of a text that grows.
use Rattle.std.proofs.Common.{◌≡◌, ◌++◌, ◌∷◌, ◌∙◌, ap, ℕ, List, [], Result, Ok, Err, OnOk, cond, append_assoc}
use Rattle.std.specs.Result.{is_ok}

pub ruleset pieces = append_assoc

-- three lines, two more and the last text, as one chain
pub lines_joined : (a b c d e f : List ℕ) → a ++ 10 ∷ [] ++ b ++ 10 ∷ [] ++ c ++ 10 ∷ [] ++ (d ++ 10 ∷ [] ++ e ++ 10 ∷ []) ++ f ≡ a ++ 10 ∷ (b ++ 10 ∷ (c ++ 10 ∷ (d ++ 10 ∷ (e ++ 10 ∷ f))))
lines_joined a b c d e f = simp append_assoc

-- three pieces behind what was written before
pub three_pieces : (old a b c : List ℕ) → old ++ a ++ b ++ c ≡ old ++ (a ++ b ++ c)
three_pieces old a b c = simp append_assoc

-- what the last `push_str` of a function leaves
pub on_ok_pushed : {T E : Type 0} (r : Result T E) (now pushed was text : List ℕ) → now ≡ cond (is_ok r) pushed was → pushed ≡ text → OnOk r (now ≡ text)
on_ok_pushed (Ok x) now pushed was text e h = e ∙ h
on_ok_pushed (Err x) now pushed was text e h = tt

-- one more piece of a list that grew before
pub grown : {X : Type 0} (old first mid piece last : List X) → mid ≡ old ++ first → last ≡ mid ++ piece → last ≡ old ++ (first ++ piece)
grown old first mid piece last m l = l ∙ ap (λ xs. xs ++ piece) m ∙ append_assoc old first piece
