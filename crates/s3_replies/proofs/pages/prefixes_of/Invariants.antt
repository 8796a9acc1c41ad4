use Rattle.std.proofs.Common.{◌++◌, ◌≤◌, ℕ, List}
use Rattle.std.specs.List.{AllZip}
use Rattle.std.specs.Vec.Iter.{into_iter_items, into_iter_len}
use Rattle.reply_values.specs.UrlText.{MeansText}
use Rattle.s3_replies.proofs.pages.prefixes_of.Given as goal

-- what is left comes behind what was taken, and has a meaning where all rows have one
abbrev pub invariant-loop-row : goal.invariant-loop-row
invariant-loop-row l =
    let left = into_iter_items l.row-iterator in
    ((later : List (List ℕ)) → AllZip (MeansText l.url) left later
    → AllZip (MeansText l.url) l.fn.rows.items (l.prefixes.items ++ later))
    × ((values : List (List ℕ)) → AllZip (MeansText l.url) l.fn.rows.items values
    → (later : List (List ℕ)) × AllZip (MeansText l.url) left later)
    × (into_iter_len l.row-iterator ≤ l.prefixes.spare)
