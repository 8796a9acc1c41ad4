use Rattle.file_table.proofs.ends.Ends.of.Goals as goal

pub returns : goal.returns
returns c = record { stem = c.stem_of-stem.result.now; path = c.stem_of-stem.ensures; begins = c.in_ok-ended.ensures; ends = c.in_ok-ended-2.ensures }
