-- Calls one after the other, and what they make of what is seen.
use Rattle.std.proofs.Common.{◌≡◌, ◌≤◌, ◌∙◌, ℕ, Option, Some, None, refl, ap, inl, inr, arith}
use Rattle.std.specs.Option.{option_map}
use Rattle.s3_model.specs.Counts.{Rose}
use Rattle.s3_outside.specs.Seen.{IsSeenAfter}

map_twice : {L : Type 0} (f g : L → L) (seen : Option L) → option_map g (option_map f seen) ≡ option_map (λ x. g (f x)) seen
map_twice f g None = refl
map_twice f g (Some log) = refl

rose_earlier : (first before after : ℕ) → first ≤ before → Rose before after → Rose first after
rose_earlier first before after later rose = omega arith

rose_later : (before after last : ℕ) → after ≤ last → Rose before after → Rose before last
rose_later before after last later rose = omega arith

-- two calls are one that does what both do
pub seen_then : {L : Type 0} (f g : L → L) (a b c : Option L) (first before after : ℕ) → first ≤ before → before ≤ after → IsSeenAfter f a b first before → IsSeenAfter g b c before after → IsSeenAfter (λ x. g (f x)) a c first after
seen_then f g a b c first before after early late one two =
    elim two [
      | inr stopped ↦ inr (stopped.0, rose_earlier first before after early stopped.1)
      | inl next ↦ elim one [
        | inl seen ↦ inl (next ∙ ap (option_map g) seen ∙ map_twice f g a)
        | inr stopped ↦ inr (next ∙ ap (option_map g) stopped.0, rose_later first before after late stopped.1)
      ]
    ]

-- what is seen in the end was seen before, too
pub seen_before : {L : Type 0} (step : L → L) (old : Option L) (log : L) (before after : ℕ) → IsSeenAfter step old (Some log) before after → (earlier : L) × (old ≡ Some earlier) × (log ≡ step earlier)
seen_before step None log before after after_call = elim after_call [ inl seen ↦ absurd (cc) | inr stopped ↦ absurd (cc) ]
seen_before step (Some earlier) log before after after_call = elim after_call [ inl seen ↦ (earlier, refl, cc) | inr stopped ↦ absurd (cc) ]
