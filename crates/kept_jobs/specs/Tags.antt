-- The entity tags of parts, by the numbers of their parts.
use Rattle.s3_model.specs.Lists.{Reserved}
use Rattle.std.specs.Prelude.{◌≡◌, ◌+◌, ◌-◌, ◌<◌, ◌≤◌, ℕ, List, [], ◌∷◌, Option, Some, None, get_or, length}

-- what contracts see of entity tags
pub record SeenTags : Type 0 where
  pub first : ℕ
  pub tags : List (Option (List ℕ))

abbrev pub HasPart : SeenTags → (number : ℕ) → Type 0
HasPart t number = (t.first ≤ number) × (number < t.first + length t.tags)

abbrev pub tag_at : SeenTags → (number : ℕ) → Option (List ℕ)
tag_at t number = get_or t.tags (number - t.first) None

-- those that came, in order
abbrev pub present : List (Option (List ℕ)) → List (List ℕ)
present [] = []
present (None ∷ tags) = present tags
present (Some tag ∷ tags) = tag ∷ present tags

-- an empty list has room for all of them
pub record HasRoom (tags : List (Option (List ℕ))) (texts : Reserved (List ℕ)) : Type 0 where
  pub none : texts.items ≡ []
  pub room : length tags ≤ texts.spare
