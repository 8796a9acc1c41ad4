use Rattle.std.proofs.Common.{◌++◌, ◌≤◌, List}
use Rattle.std.specs.List.{AllZip}
use Rattle.std.specs.Vec.Iter.{into_iter_items, into_iter_len}
use Rattle.s3_model.specs.declared.places.Entry.{Entry}
use Rattle.s3_replies.specs.Listing.{MeansEntry}
use Rattle.s3_replies.proofs.pages.entries_of.Given as goal

-- what is left comes behind what was taken, and has a meaning where all rows have one
abbrev pub invariant-loop-row : goal.invariant-loop-row
invariant-loop-row l =
    let left = into_iter_items l.row-iterator in
    ((later : List Entry) → AllZip (MeansEntry l.url) left later
    → AllZip (MeansEntry l.url) l.fn.rows.items (l.entries.items ++ later))
    × ((values : List Entry) → AllZip (MeansEntry l.url) l.fn.rows.items values
    → (later : List Entry) × AllZip (MeansEntry l.url) left later)
    × (into_iter_len l.row-iterator ≤ l.entries.spare)
