use Rattle.std.proofs.Common.{◌∙◌, ◌+◌, ◌*◌, ◌/◌, ℕ, List, ap, get_or, min, refl}
use Rattle.minimum_tree.proofs.SetLemmas.{mended, written}
use Rattle.minimum_tree.proofs.tree.MinimumTree.set.Goals as goal

pub loop-node-init : goal.loop-node-init
loop-node-init c =
    written c.self.inside.nodes.items c.args.self.now c.self.inside.leaves _ c.args.place c.args.value
    c.self.invariant.0 c.self.invariant.1 c.self.invariant.2 c.self.view_is c.requires refl

pub loop-node-preserved : goal.loop-node-preserved
loop-node-preserved c =
    let up : ℕ = c.loop-node.node / 2 in
    mended c.loop-node.self-inside.nodes.items _ c.loop-node.self-inside.leaves c.loop-node.node c.lesser_child.result
    c.loop-node-test.true c.loop-node.invariant
    (c.lesser_child.ensures
    ∙ ap (λ (nodes : List ℕ). min (get_or nodes (2 * up) 0) (get_or nodes (2 * up + 1) 0)) c.deref.ensures.value)
