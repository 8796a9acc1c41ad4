-- What pages that were taken make together.
use Rattle.std.specs.Prelude.{◌≡◌, ◌↔◌, ◌++◌, List, [], ◌∷◌, ℕ, Bool, true, None, IsSome, flat_map, fold}
use Rattle.s3_model.specs.declared.answers.Listed.{Listed}
use Rattle.list_walk.specs.Pages.{Gathered, IsRefusedPage, IsSound, gathered_from, gathered_with, new_walk, refusal_of}
use Rattle.list_walk.specs.Pages.{with_page}

-- each of these pages is taken, behind those before it
abbrev pub AreTaken : List ℕ → List Listed → Type 0
AreTaken prefix pages =
    (before : List Listed) (page : Listed) (after : List Listed)
    → pages ≡ before ++ page ∷ after → refusal_of prefix (gathered_from before) page ≡ None

-- Pages have together what each has, in order; a walk that was fed with them has that.
abbrev pub GathersInOrder : Type 0
GathersInOrder =
    (pages : List Listed)
    → ((gathered_from pages).entries ≡ flat_map (λ page. page.entries.items) pages)
    × ((gathered_from pages).prefixes ≡ flat_map (λ page. page.prefixes.items) pages)

abbrev pub WalkGathers : Type 0
WalkGathers =
    (bucket prefix : List ℕ) (delimited : Bool) (pages : List Listed)
    → (fold with_page (new_walk bucket prefix delimited) pages).gathered ≡ gathered_from pages

-- Pages that were taken have names that ascend and begin with the prefix, within the limits.
abbrev pub TakenAreSound : Type 0
TakenAreSound = (prefix : List ℕ) (pages : List Listed) → AreTaken prefix pages → IsSound prefix (gathered_from pages)

-- A page is taken exactly where what is then there is sound, and where more pages have a token.
abbrev pub TakenWhereSound : Type 0
TakenWhereSound =
    (prefix : List ℕ) (before : Gathered) (page : Listed) → IsSound prefix before
    → (refusal_of prefix before page ≡ None)
    ↔ (IsSound prefix (gathered_with before page) × (page.more ≡ true → IsSome page.token))

-- The last of these pages is refused exactly where it has a refusal behind the others.
abbrev pub RefusedIsLast : Type 0
RefusedIsLast =
    (prefix : List ℕ) (pages : List Listed) (page : Listed)
    → IsRefusedPage prefix (pages ++ page ∷ []) ↔ IsSome (refusal_of prefix (gathered_from pages) page)
