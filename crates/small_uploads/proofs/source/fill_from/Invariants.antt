use Rattle.std.proofs.Common.{◌≡◌, ◌≤◌, ◌-◌, IfSome, length, take}
use Rattle.upload_promise.specs.Sources.{AreFirstBytes, Keeps, LooksAt}
use Rattle.small_uploads.proofs.source.fill_from.Given as goal

-- the bytes before this place are the first of the file
abbrev pub invariant-pieces : goal.invariant-pieces
invariant-pieces g l = record {
  inside : l.at ≤ length l.place;
  whole : length l.place ≡ length l.fn.place;
  files : Keeps (g.F.Files.seen l.fn.files) (g.F.Files.seen l.files);
  looks : LooksAt l.path (g.F.Files.seen l.fn.files) (g.F.Files.seen l.files);
  later : g.F.Files.faults l.fn.files ≤ g.F.Files.faults l.files;
  first : IfSome (g.F.Files.seen l.files) (λ seen. AreFirstBytes seen.store l.path (take l.at l.place));
}

abbrev pub decreases-pieces : goal.decreases-pieces
decreases-pieces g l = length l.fn.place - l.at
