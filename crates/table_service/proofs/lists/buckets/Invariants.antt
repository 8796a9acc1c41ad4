use Rattle.std.proofs.Common.{◌≡◌, map, take}
use Rattle.s3_model.specs.declared.places.Entry.{Entry}
use Rattle.table_service.proofs.lists.buckets.Given as goal

abbrev pub invariant-loop-name : goal.invariant-loop-name
invariant-loop-name l = map (λ (entry : Entry). entry.key) l.entries.items ≡ take l.name-index l.name-items
