-- The first flag of a list that a test gives.
use Rattle.std.proofs.Common.{◌≡◌, ◌∙◌, ◌+◌, ℕ, Bool, cond, not, List, [], ◌∷◌, Some, None, length, map, nat_lt, refl, ap}
use Rattle.std.proofs.lemmas.List.{length-map}
use Rattle.std.specs.List.{position, position_or_len, prefix_len}
use Rattle.number_sets.specs.Members.{is_set}

pub prefix_map : {X Y : Type 0} (p : Y → Bool) (f : X → Y) (xs : List X) → prefix_len p (map f xs) ≡ prefix_len (λ x. p (f x)) xs
prefix_map p f [] = refl
prefix_map p f (x ∷ xs) = ap (λ (n : ℕ). cond (p (f x)) (1 + n) 0) (prefix_map p f xs)

pub position_map : {X : Type 0} (f : X → Bool) (xs : List X) → position is_set (map f xs) ≡ position f xs
position_map f xs =
    ap (λ (n : ℕ). cond (nat_lt n (length (map f xs))) (Some n) None) (prefix_map (λ (b : Bool). not b) f xs)
    ∙ ap (λ (n : ℕ). cond (nat_lt (position_or_len f xs) n) (Some (position_or_len f xs)) None) (length-map xs f)
