use Rattle.std.proofs.Common.{◌≤◌, IfSome, take}
use Rattle.std.specs.List.{AllByRecursion}
use Rattle.local_files.specs.Names.{IsName}
use Rattle.tree_walk.specs.Trees.{OnlyLooks}
use Rattle.tree_walk.specs.Finding.{IsFew, IsPartway, IsSound}
use Rattle.tree_walk.proofs.walks.look_at_all.Given as goal

-- the names so far were looked at
abbrev pub invariant-loop-name : goal.invariant-loop-name
invariant-loop-name g l = record {
  kept : OnlyLooks (g.F.Files.seen l.fn.files) (g.F.Files.seen l.files) (g.F.Files.faults l.fn.files) (g.F.Files.faults l.files);
  later : g.F.Files.faults l.fn.files ≤ g.F.Files.faults l.files;
  few : IsFew l.fn.found → IsFew l.found;
  found : IfSome (g.F.Files.seen l.files) (λ now. AllByRecursion IsName l.names → IsSound now.store l.root l.fn.found → IsPartway now.store l.root l.folder (take l.name-index l.names) l.fn.found l.found);
}
