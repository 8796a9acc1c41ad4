-- Which paths a list of filters keeps.
use Rattle.std.specs.Prelude.{◌≡◌, ◌++◌, ◌⊎◌, ℕ, Bool, true, List, ◌∷◌, All, fold, if◌then◌else◌}
use Rattle.path_filters.specs.declared.filters.Filter.{Filter}
use Rattle.path_filters.specs.Patterns.{Matches, is_match}

-- the pattern of none of the filters matches
abbrev pub NoneMatches : List Filter → List ℕ → Type 0
NoneMatches filters path = All (λ (filter : Filter). ¬ (Matches filter.pattern path)) filters

-- The last filter whose pattern matches decides; without one the path is kept.
abbrev pub Keeps : List Filter → List ℕ → Bool → Type 0
Keeps filters path kept =
    (NoneMatches filters path × (kept ≡ true))
    ⊎ ((before : List Filter) × (filter : Filter) × (after : List Filter) × (filters ≡ before ++ filter ∷ after)
    × Matches filter.pattern path × NoneMatches after path × (kept ≡ filter.keep))

-- the same as a test that computes
abbrev pub is_kept : List Filter → List ℕ → Bool
is_kept filters path =
    fold (λ kept (filter : Filter). if is_match filter.pattern path then filter.keep else kept) true filters
