use Rattle.std.proofs.Common.{◌-◌, ◌≤◌, ◌^◌, IfSome}
use Rattle.tree_walk.specs.Trees.{OnlyLooks}
use Rattle.tree_walk.specs.Finding.{IsFew, IsOnTheWay}
use Rattle.tree_walk.proofs.walks.visit_all.Given as goal

-- the folders before this place were visited
abbrev pub invariant-folders : goal.invariant-folders
invariant-folders g l = record {
  kept : OnlyLooks (g.F.Files.seen l.fn.files) (g.F.Files.seen l.files) (g.F.Files.faults l.fn.files) (g.F.Files.faults l.files);
  later : g.F.Files.faults l.fn.files ≤ g.F.Files.faults l.files;
  few : IsFew l.fn.found → IsFew l.found;
  visited : IfSome (g.F.Files.seen l.files) (λ now. IsOnTheWay now.store l.root 0 l.fn.found → IsOnTheWay now.store l.root l.place l.found);
}

abbrev pub decreases-folders : goal.decreases-folders
decreases-folders g l = 2 ^ 64 - l.place
