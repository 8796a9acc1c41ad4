use Rattle.std.proofs.Common.{◌+◌, ◌-◌, ◌*◌, ℕ, arith, List, subst}
use Rattle.std.proofs.lemmas.Grind.{get_or_default_zero}
use Rattle.minimum_tree.proofs.LeastLemmas.{found_least, left, right}
use Rattle.minimum_tree.specs.Least.{IsLeast}
use Rattle.minimum_tree.proofs.tree.MinimumTree.least.Goals as goal

pub loop-node-preserved-then-index : goal.loop-node-preserved-then-index
loop-node-preserved-then-index c =
    right c.self.inside.nodes.items c.self.inside.leaves c.self.invariant.2 c.loop-node.node c.loop-node.invariant
    c.loop-node-test.true
    (let first = get_or_default_zero c.self.inside.nodes.items (c.loop-node.node * 2) c.index-in-loop-node.result.now
    (let w = c.loop-node-test.true in let l = c.self.invariant.1 in omega arith) in
    let second = get_or_default_zero c.self.inside.nodes.items (c.loop-node.node * 2 + 1) c.index.result.now
    (let w = c.loop-node-test.true in let l = c.self.invariant.1 in omega arith) in
    let e = c.index.ensures in let f = c.index-in-loop-node.ensures in let l = c.if-index.true in omega arith)

pub loop-node-preserved : goal.loop-node-preserved
loop-node-preserved c =
    left c.self.inside.nodes.items c.self.inside.leaves c.self.invariant.2 c.loop-node.node c.loop-node.invariant
    c.loop-node-test.true
    (let first = get_or_default_zero c.self.inside.nodes.items (c.loop-node.node * 2) c.index-in-loop-node.result.now
    (let w = c.loop-node-test.true in let l = c.self.invariant.1 in omega arith) in
    let second = get_or_default_zero c.self.inside.nodes.items (c.loop-node.node * 2 + 1) c.index.result.now
    (let w = c.loop-node-test.true in let l = c.self.invariant.1 in omega arith) in
    let e = c.index.ensures in let f = c.index-in-loop-node.ensures in let l = c.if-index.false in omega arith)

pub returns : goal.returns
returns c =
    subst (λ (row : List ℕ). IsLeast row (c.loop-node.node - c.self.inside.leaves)) c.self.view_is
    (found_least c.self.inside.nodes.items c.self.inside.leaves c.self.invariant.2 c.self.invariant.0 c.self.invariant.1
    c.loop-node.node (let l = c.loop-node-test.false in omega arith) c.loop-node.invariant)
