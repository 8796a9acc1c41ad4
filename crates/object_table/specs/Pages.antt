-- The names of a page, and where they stand.
use Rattle.std.specs.Prelude.{◌≡◌, ℕ, List, Option, Some, None}
use Rattle.std.specs.List.{All}
use Rattle.std.specs.Ordering.{nat_cmp}
use Rattle.std.specs.Cmp.Lexicographic.{slice_cmp}
use Rattle.std.specs.declared.cmp.Ordering.TheVariants.{Less}
use Rattle.object_table.specs.declared.listings.Name.{Name}
use Rattle.object_table.specs.declared.listings.Name.TheVariants as name
use Rattle.s3_model.specs.declared.answers.Listed.{Listed}
use Rattle.s3_model.specs.declared.places.Entry.{Entry}

abbrev pub name_text : Name → List ℕ
name_text (name.Key text) = text.now
name_text (name.Prefix text) = text.now

-- A name comes after a text in byte order, where there is one.
abbrev pub ComesAfter : Option (List ℕ) → List ℕ → Type 0
ComesAfter None name = Unit {0}
ComesAfter (Some last) name = slice_cmp nat_cmp last name ≡ Less

-- All names of a page come after a text.
pub record IsBehind (last : Option (List ℕ)) (page : Listed) : Type 0 where
  pub keys : All (λ (entry : Entry). ComesAfter last entry.key) page.entries.items
  pub prefixes : All (ComesAfter last) page.prefixes.items
